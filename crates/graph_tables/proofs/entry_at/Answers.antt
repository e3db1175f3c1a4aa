-- `graph_tables::entry_at` meets its contract. Assumes nothing.
use native.Mathlib.Omega.{arith}
use Prim.Native.Nat.{◌*◌}
use mathlib.Core.Path.{◌≡◌, sym, ◌∙◌}
use lib.ListN.{get_or}
use Rattle.record.specs.Widths.{graph_width}
use Rattle.record.specs.GraphRecords.{row_of}
use Rattle.store_enabled.specs.Enabled.{waited_for}
use Rattle.check_fields.proofs.Graphs.{arity_past}
use Rattle.check_fields.proofs.Operations.{out_code, leave_code, not_out, not_leave}
use Rattle.graph_tables.proofs.Entries.{count_entry, entry_in}
use Rattle.graph_tables.proofs.entry_at.Goals as goal

pub returns-in-Out : goal.returns-in-Out
unfolding waited_for row_of
returns-in-Out c =
    let a = c.args in
    let code : get_or a.graph.now (a.i * graph_width) 0 ≡ 3 = out_code _ (sym c.from.ensures ∙ c.in-Out.is) in
    entry_in a.graph.now a.i 0 (omega arith) (λ τ. rw code)

pub returns-in-Leave : goal.returns-in-Leave
unfolding waited_for row_of
returns-in-Leave c =
    let a = c.args in
    let code : get_or a.graph.now (a.i * graph_width) 0 ≡ 9 = leave_code _ (sym c.from.ensures ∙ c.in-Leave.is) in
    entry_in a.graph.now a.i 3 (omega arith) (λ τ. rw code)

pub returns-in_default : goal.returns-in_default
returns-in_default c =
    let a = c.args in
    let m = c.in_default in
    entry_in a.graph.now a.i c.of.result (omega arith)
    (λ τ. rw c.of.ensures (count_entry _ τ (not_out _ (λ e. m.not-Out (c.from.ensures ∙ e))) (not_leave _ (λ e. m.not-Leave (c.from.ensures ∙ e)))))

pub returns-else-i-graph : goal.returns-else-i-graph
unfolding waited_for
returns-else-i-graph c = λ τ e. sym (arity_past c.args.graph.now τ (omega arith))
