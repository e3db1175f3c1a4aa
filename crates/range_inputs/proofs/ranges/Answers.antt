-- `range_inputs::ranges` meets its contract. The invariant: the first i inputs passed, so that the rest decides. Assumes nothing.
use Prim.Native.Nat.{◌/◌}
use native.Mathlib.Omega.{arith}
use mathlib.Core.Bool.{Bool}
use mathlib.Core.Path.{refl, sym, ap, ◌∙◌}
use lib.ListN.{length, length-drop}
use Rattle.buffer.specs.Rows.{all_rows}
use Rattle.buffer.proofs.Tables.{length_rows, get_d_rows}
use Rattle.record.specs.Widths.{range_token_width}
use Rattle.rules.specs.Check.{demand}
use Rattle.rules.specs.RangeRun.{range_in, is_proper_range}
use Rattle.rules.specs.declared.answer.Refusal.TheVariants.{Undecided}
use Rattle.check_fields.proofs.Turns.{turn, turn_end}
use Rattle.range_inputs.proofs.ranges.Goals as goal

pub loop-i-init : goal.loop-i-init
loop-i-init c = (omega arith, refl)

pub range_in-requires : goal.range_in-requires
range_in-requires c = rw (c.row_at.ensures, length-drop) (omega arith)

pub returns-then-not-is_proper : goal.returns-then-not-is_proper
returns-then-not-is_proper c =
    let l = c.loop-i in
    let s = c.args.inputs.now in
    let x = c.range_in.result in
    let e = get_d_rows range_token_width range_in (length s / range_token_width) l.i s x (omega arith) ∙ sym (c.range_in.ensures ∙ ap range_in c.row_at.ensures) in
    rw c.at.ensures (sym (l.invariant.1 ∙ turn (λ k r. demand (is_proper_range r) Undecided k) (all_rows range_token_width range_in s) l.i x (omega (arith, length_rows range_token_width range_in (length s / range_token_width) s)) e
    (ap (λ (b : Bool). demand b Undecided l.i) (sym c.is_proper.ensures ∙ c.if-not-is_proper.true))))

pub loop-i-preserved : goal.loop-i-preserved
loop-i-preserved c =
    let l = c.loop-i in
    let s = c.args.inputs.now in
    let x = c.range_in.result in
    let e = get_d_rows range_token_width range_in (length s / range_token_width) l.i s x (omega arith) ∙ sym (c.range_in.ensures ∙ ap range_in c.row_at.ensures) in (
      omega arith,
      l.invariant.1 ∙ turn (λ k r. demand (is_proper_range r) Undecided k) (all_rows range_token_width range_in s) l.i x (omega (arith, length_rows range_token_width range_in (length s / range_token_width) s)) e
          (ap (λ (b : Bool). demand b Undecided l.i) (sym c.is_proper.ensures ∙ c.if-not-is_proper.false)),
    )

pub returns : goal.returns
returns c =
    let s = c.args.inputs.now in
    sym (c.loop-i.invariant.1 ∙ turn_end (λ k r. demand (is_proper_range r) Undecided k) (all_rows range_token_width range_in s) c.loop-i.i (omega (arith, length_rows range_token_width range_in (length s / range_token_width) s)))
