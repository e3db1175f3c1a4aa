-- `range_inputs::narrow` meets its contract. The invariant: the first i inputs stand as handles, and their ranges in the table. Assumes nothing.
use Prim.Native.Nat.{ℕ, ◌+◌, ◌*◌, ◌/◌}
use native.Mathlib.Omega.{arith}
use native.Mathlib.Numerals.{add-one}
use mathlib.Core.List.{◌∷◌, ◌++◌}
use mathlib.Core.Path.{◌≡◌, refl, ap, ◌∙◌}
use mir.Facts.{to_z-of_z}
use lib.IntN.{pos}
use lib.ListN.{length, drop, length-drop, length-append}
use Rattle.number.specs.Number.{bits_of}
use Rattle.buffer.specs.Rows.{rows}
use Rattle.buffer.proofs.Tables.{length_rows}
use Rattle.record.specs.Widths.{token_width, range_token_width}
use Rattle.arithmetic.specs.Ranges.{single}
use Rattle.rules.specs.RangeRun.{range_in}
use Rattle.rules.specs.RangeHandles.{first_table}
use Rattle.range_inputs.specs.Handles.{handles_from, handles_of}
use Rattle.range_inputs.proofs.Rows.{rows_next, put_next, length_handles}
use Rattle.range_inputs.proofs.narrow.Goals as goal

pub loop-i-init : goal.loop-i-init
unfolding handles_from
loop-i-init c = (omega arith, refl, refl, c.add.ensures.0 ∙ rw c.clear.ensures refl)

pub add-handle-requires : goal.add-handle-requires
add-handle-requires c = rw (c.loop-i.invariant.3) (omega (arith, length_rows range_token_width range_in c.loop-i.i c.args.inputs.now, c.requires.few))

pub loop-i-preserved : goal.loop-i-preserved
unfolding bits_of
loop-i-preserved c =
    let inputs = c.args.inputs.now in
    let handles = c.args.handles.now in
    let i = c.loop-i.i in
    let many : length c.loop-i.table ≡ i + 1 = rw c.loop-i.invariant.3 (omega (arith, length_rows range_token_width range_in i inputs)) in
    let handle : c.bits.result ≡ i + 1 =
    c.bits.ensures ∙ rw (to_z-of_z (record { sfits = c.add-handle.type_inv }), c.add-handle.ensures.1) many in
    let held = c.put_row.ensures ∙ rw (c.loop-i.invariant.1, c.narrowed-row.ensures, handle, c.row_at-s.ensures) (put_next i inputs handles) in
    let range = c.range_in.ensures ∙ ap range_in c.row_at-s.ensures in (
      omega arith,
      held,
      ap length held ∙ length-append (handles_from 1 (i + 1) inputs) (drop ((i + 1) * token_width) handles) ∙ omega (arith, length_handles 1 (i + 1) inputs, length-drop ((i + 1) * token_width) handles, c.requires.records),
      c.add-handle.ensures.0 ∙ rw (c.loop-i.invariant.3, range, add-one i, rows_next range_token_width range_in i inputs) refl,
    )

pub returns : goal.returns
unfolding first_table handles_of
returns c =
    let inputs = c.args.inputs.now in
    let all : c.loop-i.i ≡ length inputs / range_token_width = omega (arith, c.loop-i-test.false) in
    record {
      held = c.loop-i.invariant.1 ∙ ap (λ (k : ℕ). handles_from 1 k inputs ++ drop (k * token_width) c.args.handles.now) all;
      ranges = c.loop-i.invariant.3 ∙ ap (λ (k : ℕ). single (pos 0) ∷ rows range_token_width range_in k inputs) all;
    }
