-- `printing::print_run` meets its contract: the run, by what it leaves of zeros. Assumes nothing.
use Prim.Native.Nat.{ℕ}
use mathlib.Core.Path.{◌≡◌, sym, ap, ◌∙◌}
use mathlib.Core.List.{List}
use lib.ListN.{length, length-replicate}
use borrow.Author.Rules.{rules}
use Rattle.text.specs.Text.{printed_of, printed_out}
use Rattle.printing.specs.PrintedRun.{ledger_bytes}
use Rattle.printing.proofs.Left.{without_bound, few_tokens, within, left_printed}
use Rattle.printing.proofs.print_run.Goals as goal

pub print_left-requires : goal.print_left-requires
print_left-requires c =
    let r = without_bound _ _ _ _ _ _ _ c.run-answer.ensures in
    let e : length c.run-answer.new.ledger ≡ ledger_bytes = search rules in
    (few_tokens _ _ _ _ _ _ _ r, within _ _ (few_tokens _ _ _ _ _ _ _ r) e, length-replicate {A = ℕ} ledger_bytes 0 ∙ sym e)

pub returns : goal.returns
returns c =
    let p = c.print_left.ensures in
    let r = without_bound _ _ _ _ _ _ _ c.run-answer.ensures in
    let a = c.args in
    let e = left_printed a.graph.now a.arrays.now a.inputs.now a.picks.now r in
    record {
      answered = p.value ∙ ap (λ (t : List ℕ). printed_of t a.out.now) e;
      out_left = p.out_after ∙ ap (λ (t : List ℕ). printed_out t a.out.now) e;
    }
