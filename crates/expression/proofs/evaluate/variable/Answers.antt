-- `expression::evaluate::variable` meets its contract. Assumes nothing.
use Prim.Native.Nat.{ℕ, ◌/◌}
use mathlib.Core.Path.{sym, ap, ◌∙◌}
use mathlib.Core.List.{List}
use native.Mathlib.Omega.{arith}
use lib.ListN.{length, length-drop}
use lib.IntN.{pos}
use mir.Syntax.{w32}
use mir.Facts.{to_z-of_z}
use Rattle.number.specs.Number.{number32, signed_of}
use Rattle.buffer.proofs.Tables.{get_d_rows}
use Rattle.record.specs.Widths.{value_width}
use Rattle.expression.proofs.evaluate.variable.Goals as goal

pub u32_at-requires : goal.u32_at-requires
u32_at-requires c = rw (c.row_at.ensures, length-drop) (omega arith)

pub returns : goal.returns
returns c =
    let a = c.args in
    let at = get_d_rows value_width (λ b. signed_of (number32 b 0)) (length a.values.now / value_width) a.k a.values.now (pos 0) c.requires in
    rw (to_z-of_z {w = w32} (record { sfits = c.signed.type_inv })) (c.signed.ensures ∙ ap signed_of (c.u32_at.ensures ∙ ap (λ (l : List ℕ). number32 l 0) c.row_at.ensures) ∙ sym at)
