-- `checks::arrays::all_inside` meets its contract. The invariant: the first i arrays end in the store, so that the rest decides. Assumes nothing.
use Prim.Native.Nat.{◌<◌, ◌/◌}
use native.Mathlib.Omega.{arith}
use mathlib.Core.Path.{refl, sym, ◌∙◌}
use lib.ListN.{length}
use Rattle.buffer.proofs.Tables.{length_rows, get_d_rows}
use Rattle.record.specs.Arrays.{decode_array, arrays_of}
use Rattle.record.specs.Widths.{array_width}
use Rattle.rules.specs.Check.{inside_store}
use Rattle.check_fields.proofs.Turns.{all_turn, all_end}
use Rattle.checks.proofs.arrays.all_inside.Goals as goal

pub loop-i-init : goal.loop-i-init
loop-i-init c = (omega arith, refl)

pub returns-then-not-inside : goal.returns-then-not-inside
returns-then-not-inside c =
    let l = c.loop-i in
    let a = c.args in
    let s = a.arrays.now in
    let x = c.read.result in
    let h : l.i < length s / array_width = omega arith in
    let e = get_d_rows array_width decode_array (length s / array_width) l.i s x h ∙ sym c.read.ensures in
    let t = l.invariant.1 ∙ all_turn (inside_store a.cells) (arrays_of s) l.i x (omega (arith, length_rows array_width decode_array (length s / array_width) s)) e in
    sym (t ∙ rw (← c.inside.ensures, c.if-not-inside.true))

pub loop-i-preserved : goal.loop-i-preserved
loop-i-preserved c =
    let l = c.loop-i in
    let a = c.args in
    let s = a.arrays.now in
    let x = c.read.result in
    let h : l.i < length s / array_width = omega arith in
    let e = get_d_rows array_width decode_array (length s / array_width) l.i s x h ∙ sym c.read.ensures in
    let t = l.invariant.1 ∙ all_turn (inside_store a.cells) (arrays_of s) l.i x (omega (arith, length_rows array_width decode_array (length s / array_width) s)) e in
    (omega arith, t ∙ rw (← c.inside.ensures, c.if-not-inside.false))

pub returns : goal.returns
returns c =
    let a = c.args in
    let s = a.arrays.now in
    sym (c.loop-i.invariant.1 ∙ all_end (inside_store a.cells) (arrays_of s) c.loop-i.i (omega (arith, length_rows array_width decode_array (length s / array_width) s)))
