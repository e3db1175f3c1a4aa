-- `text::line::put_signed` meets its contract: a number below 0 is a minus and its size. Assumes nothing.
use mathlib.Core.Path.{◌≡◌, ap, ◌∙◌}
use lib.IntN.{nat_abs}
use mir.Facts.{to_z-of_z}
use Rattle.text.proofs.Decimals.{signed_minus}
use Rattle.text.proofs.Lines.{both}
use Rattle.text.proofs.line.put_signed.Goals as goal

pub returns-then-value-lt0 : goal.returns-then-value-lt0
returns-then-value-lt0 c =
    let size : c.from-magnitude.result ≡ nat_abs c.args.value = c.from-magnitude.ensures ∙ c.unsigned_abs.ensures.value ∙ ap nat_abs (to_z-of_z c.ranges.value) in
    rw (signed_minus c.args.value (rw (to_z-of_z c.ranges.value) at c.if-value-lt0.true), ← size) (both c.put_byte-k.ensures c.put_number.ensures)
