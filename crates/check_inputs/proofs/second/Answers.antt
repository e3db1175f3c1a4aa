-- `check_inputs::second` meets its contract. The invariant: the first i inputs passed, so that the rest decides, and the table has an entry for each of these i. Assumes nothing.
use Prim.Native.Nat.{◌<◌, ◌/◌}
use native.Mathlib.Omega.{arith}
use mathlib.Core.Bool.{Bool, true, not}
use mathlib.Core.Path.{refl, sym, ap, ◌∙◌}
use lib.ListN.{length, take, length-set}
use Rattle.rules.specs.Check.{demand, second_input}
use Rattle.rules.specs.declared.answer.Refusal.TheVariants.{SecondToken}
use Rattle.check_inputs.specs.Inputs.{input_tokens}
use Rattle.check_inputs.proofs.Tokens.{length_tokens, in_tokens, none_seen, see}
use Rattle.check_fields.proofs.Turns.{turn, turn_end, take_next}
use Rattle.record.specs.Widths.{token_width}
use Rattle.check_inputs.proofs.second.Goals as goal

pub loop-i-init : goal.loop-i-init
unfolding second_input
loop-i-init c = (omega arith, refl, none_seen, refl)

pub is_second-requires : goal.is_second-requires
unfolding second_input
is_second-requires c =
    let t = c.read-t.result in
    (omega arith, λ z. c.loop-i.invariant.2 t.tag t.port (rw c.entry-at.ensures.0 at z))

pub returns-then-is_second : goal.returns-then-is_second
unfolding second_input
returns-then-is_second c =
    let at-token-at = c.read-t in
    let l = c.loop-i in
    let s = c.args.inputs.now in
    let x = at-token-at.result in
    let h : l.i < length s / token_width = omega arith in
    let k : l.i < length (input_tokens s) = omega (arith, length_tokens s) in
    let e = in_tokens s l.i h x ∙ sym at-token-at.ensures in
    let t = l.invariant.1 ∙ turn (λ k t. demand (not (second_input (take k (input_tokens s)) t)) SecondToken k) (input_tokens s) l.i x k e (ap (λ (b : Bool). demand (not b) SecondToken l.i) (sym c.is_second.ensures ∙ c.if-is_second.true)) in
    rw c.at.ensures (sym t)

pub loop-i-preserved : goal.loop-i-preserved
unfolding second_input
loop-i-preserved c =
    let at-token-at = c.read-t in
    let l = c.loop-i in
    let s = c.args.inputs.now in
    let x = at-token-at.result in
    let h : l.i < length s / token_width = omega arith in
    let k : l.i < length (input_tokens s) = omega (arith, length_tokens s) in
    let e = in_tokens s l.i h x ∙ sym at-token-at.ensures in
    let t = l.invariant.1 ∙ turn (λ k t. demand (not (second_input (take k (input_tokens s)) t)) SecondToken k) (input_tokens s) l.i x k e (ap (λ (b : Bool). demand (not b) SecondToken l.i) (sym c.is_second.ensures ∙ c.if-is_second.false)) in
    let n = c.entry-at.ensures.0 in (
      omega arith,
      t,
      rw (take_next (input_tokens s) l.i x k e, n) (see (take l.i (input_tokens s)) l.seen x l.invariant.2 l.invariant.3),
      length-set l.seen _ true ∙ l.invariant.3,
    )

pub returns : goal.returns
unfolding second_input
returns c =
    let s = c.args.inputs.now in
    sym (c.loop-i.invariant.1 ∙ turn_end (λ k t. demand (not (second_input (take k (input_tokens s)) t)) SecondToken k) (input_tokens s) c.loop-i.i (omega (arith, length_tokens s)))
