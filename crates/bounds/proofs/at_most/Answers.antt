-- `bounds::at_most` meets its contract. Assumes nothing.
use Rattle.std.proofs.Common.{Ok}
use Prim.Native.Nat.{ℕ}
use native.Mathlib.Omega.{arith}
use mathlib.Core.Path.{◌≡◌, ◌∙◌}
use mathlib.Core.List.{List}
use lib.ListN.{length}
use borrow.Author.Rules.{rules}
use Rattle.buffer.specs.Rows.{all_rows}
use Rattle.record.specs.GraphRecords.{graph_of}
use Rattle.record.specs.Widths.{token_width}
use Rattle.rules.specs.declared.answer.Refusal.TheVariants.{BadInput}
use Rattle.rules.specs.Check.{demand, in_turn, good_input, check_graph, check_stores}
use Rattle.rules.specs.Needs.{firings_needed, outputs_needed, inputs_of, check_needs, needs_at_most, needs}
use Rattle.check_fields.proofs.Turns.{both-passed}
use Rattle.check_fields.proofs.Graphs.{length_graph}
use Rattle.check_inputs.proofs.Tokens.{length_tokens}
use Rattle.checks.proofs.Passed.{passed_length}
use Rattle.bounds.proofs.Ports.{inputs_inside}
use Rattle.bounds.proofs.Rounds.{totals}
use Rattle.bounds.proofs.at_most.Goals as goal

module _ (graph inputs : List ℕ) (passed : check_needs graph inputs ≡ Ok tt) where
  graph_passed_lem : check_graph graph ≡ Ok tt
  unfolding check_needs
  graph_passed_lem = (both-passed (check_graph graph) _ passed).0

  inputs_passed_lem : in_turn (λ i good. demand good BadInput i) 0 (all_rows token_width (good_input (graph_of graph)) inputs) ≡ Ok tt
  unfolding check_needs
  inputs_passed_lem =
      let later = both-passed (check_stores (length inputs) 0 0 0) _ (both-passed (check_graph graph) _ passed).1 in
      (both-passed (in_turn (λ i good. demand good BadInput i) 0 (all_rows token_width (good_input (graph_of graph)) inputs)) _ later.1).0

alike : {f f' t t' : ℕ} → f ≡ f' → t ≡ t' → needs_at_most f t ≡ needs_at_most f' t'
alike e d = cc

pub given-sent-requires : goal.given-sent-requires
unfolding needs
given-sent-requires c =
    let a = c.args in
    let p = c.requires in
    inputs_inside a.graph.now (graph_passed_lem a.graph.now a.inputs.now p) a.inputs.now (inputs_passed_lem a.graph.now a.inputs.now p)

pub reach-reached-requires : goal.reach-reached-requires
unfolding needs
reach-reached-requires c =
    let a = c.args in
    graph_passed_lem a.graph.now a.inputs.now c.requires

pub total-totals-requires : goal.total-totals-requires
unfolding needs
total-totals-requires c =
    let a = c.args in
    omega (arith, (passed_length a.graph.now (graph_passed_lem a.graph.now a.inputs.now c.requires)).1, length_graph a.graph.now)

pub returns : goal.returns
unfolding needs
returns c =
    let at-reach = c.reach-reached in
    let a = c.args in
    let p = c.requires in
    let g = graph_of a.graph.now in
    let ts = inputs_of a.inputs.now in
    let t = c.total-totals.ensures in
    let same = at-reach.ensures ts c.given-sent.ensures in
    let reached = at-reach.result in
    let outputs = t.1 ∙ totals ts g reached same outputs_needed in
    rw p (alike (t.0 ∙ totals ts g reached same firings_needed) (omega (arith, length_tokens a.inputs.now, outputs)))
