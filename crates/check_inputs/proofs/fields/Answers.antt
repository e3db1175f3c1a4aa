-- `check_inputs::fields` meets its contract. The invariant: the first i inputs passed, so that the rest decides. Assumes nothing.
use Prim.Native.Nat.{◌<◌, ◌/◌}
use native.Mathlib.Omega.{arith}
use mathlib.Core.Bool.{Bool}
use mathlib.Core.Path.{refl, sym, ap, ◌∙◌}
use lib.ListN.{length, length-drop}
use Rattle.buffer.proofs.Tables.{length_rows, get_d_rows}
use Rattle.record.specs.GraphRecords.{graph_of}
use Rattle.buffer.specs.Rows.{all_rows}
use Rattle.record.specs.Widths.{token_width}
use Rattle.rules.specs.Check.{demand, good_input}
use Rattle.rules.specs.declared.answer.Refusal.TheVariants.{BadInput}
use Rattle.check_fields.proofs.Turns.{turn, turn_end}
use Rattle.check_inputs.proofs.fields.Goals as goal

pub loop-i-init : goal.loop-i-init
loop-i-init c = (omega arith, refl)

pub good-requires : goal.good-requires
good-requires c = rw (c.row_at.ensures, length-drop) (omega arith)

pub returns-then-not-good : goal.returns-then-not-good
returns-then-not-good c =
    let l = c.loop-i in
    let a = c.args in
    let g = graph_of a.graph.now in
    let s = a.inputs.now in
    let x = c.good.result in
    let h : l.i < length s / token_width = omega arith in
    let e = get_d_rows token_width (good_input g) (length s / token_width) l.i s x h ∙ sym (c.good.ensures ∙ ap (good_input g) c.row_at.ensures) in
    let t = l.invariant.1 ∙ turn (λ k good. demand good BadInput k) (all_rows token_width (good_input g) s) l.i x (omega (arith, length_rows token_width (good_input g) (length s / token_width) s)) e (ap (λ (b : Bool). demand b BadInput l.i) (c.if-not-good.true)) in
    rw c.at.ensures (sym t)

pub loop-i-preserved : goal.loop-i-preserved
loop-i-preserved c =
    let l = c.loop-i in
    let a = c.args in
    let g = graph_of a.graph.now in
    let s = a.inputs.now in
    let x = c.good.result in
    let h : l.i < length s / token_width = omega arith in
    let e = get_d_rows token_width (good_input g) (length s / token_width) l.i s x h ∙ sym (c.good.ensures ∙ ap (good_input g) c.row_at.ensures) in
    let t = l.invariant.1 ∙ turn (λ k good. demand good BadInput k) (all_rows token_width (good_input g) s) l.i x (omega (arith, length_rows token_width (good_input g) (length s / token_width) s)) e (ap (λ (b : Bool). demand b BadInput l.i) (c.if-not-good.false)) in
    (omega arith, t)

pub returns : goal.returns
returns c =
    let a = c.args in
    let s = a.inputs.now in
    let xs = all_rows token_width (good_input (graph_of a.graph.now)) s in
    sym (c.loop-i.invariant.1 ∙ turn_end (λ k good. demand good BadInput k) xs c.loop-i.i (omega (arith, length_rows token_width (good_input (graph_of a.graph.now)) (length s / token_width) s)))
