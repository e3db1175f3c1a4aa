-- `text::line::put_stated` meets its contract. Assumes nothing.
use mathlib.Core.List.{[], ◌∷◌}
use mir.Facts.{to_z-of_z}
use Rattle.text.specs.Words.{bytes}
use Rattle.text.specs.Text.{decimal, signed_decimal}
use Rattle.text.proofs.Lines.{with_rest}
use Rattle.text.proofs.line.put_stated.Goals as goal

pub returns : goal.returns
returns c =
    let a = c.args in
    let v = rw (to_z-of_z c.ranges.value) at c.put_signed.ensures in
    let w = with_rest (signed_decimal a.value) [] a.word.now c.put_word-state.ensures v in
    let k = with_rest a.word.now (signed_decimal a.value ∷ []) (decimal a.k) c.put_number-number.ensures w in
    with_rest (decimal a.k) (a.word.now ∷ signed_decimal a.value ∷ []) (bytes "cell") c.put_word-name.ensures k
