-- `text::line::put_bits` meets its contract: a number below 0 is a minus and its size. Assumes nothing.
use mathlib.Core.Path.{◌≡◌, ap, ◌∙◌}
use lib.IntN.{nat_abs}
use mir.Facts.{to_z-of_z}
use mir.Syntax.{w32}
use mir.Val.{SFits}
use Rattle.text.proofs.Decimals.{signed_minus}
use Rattle.text.proofs.Lines.{both}
use Rattle.text.proofs.line.put_bits.Goals as goal

pub returns-then-value-lt0 : goal.returns-then-value-lt0
returns-then-value-lt0 c =
    let f : SFits w32 c.signed-value.result = record { sfits = c.signed-value.type_inv } in
    let size : c.from-magnitude.result ≡ nat_abs c.signed-value.result = c.from-magnitude.ensures ∙ c.unsigned_abs.ensures.value ∙ ap nat_abs (to_z-of_z f) in
    rw (← c.signed-value.ensures, signed_minus c.signed-value.result (rw (to_z-of_z f) at c.if-value-lt0.true), ← size) (both c.put_byte-k.ensures c.put_field.ensures)
