-- `text::fits` meets its contract: the longest text fits, or else the room that is left is what the lines made so far leave of it. Assumes nothing.
use Prim.Native.Nat.{ℕ, ◌+◌, ◌/◌, ◌<◌}
use borrow.Author.Rules.{rules}
use native.Mathlib.Omega.{arith}
use mathlib.Core.Path.{◌≡◌, sym, ◌∙◌, ap}
use mathlib.Core.List.{List}
use borrow.Author.Tests.{leb-true, le-leb, lt-leb}
use lib.ListN.{length}
use Rattle.number.specs.Number.{Bytes}
use Rattle.rules.specs.declared.answer.Answer.{Answer}
use Rattle.text.specs.Text.{lines, printed}
use Rattle.text.specs.Room.{most_bytes_of}
use Rattle.text.proofs.Room.{bytes_within, line_short}
use Rattle.text.proofs.Whole.{made_all, made_within, made_longer, length_lines}
use Rattle.record.specs.Widths.{token_width, cell_width}
use Rattle.text.proofs.fits.Goals as goal

text_lines : (a : Answer) (listing cells : List ℕ) → length (lines a listing cells) ≡ 1 + (length listing / token_width + length cells / cell_width)
text_lines a listing cells = length_lines a listing cells

pub returns-then-longest_fits : goal.returns-then-longest_fits
unfolding printed
returns-then-longest_fits c =
    let a = c.args in
    let bl : Bytes a.listing.now = λ i. (c.type_inv.listing i).fits in
    let bc : Bytes a.cells.now = λ i. (c.type_inv.cells i).fits in
    let m = c.most_first in
    let t = leb-true (m.result + most_bytes_of a.listing.now a.cells.now) a.room (sym c.longest_fits.ensures ∙ c.if-longest_fits.true) in
    sym (le-leb ((length (printed c.args.answer c.args.listing.now c.args.cells.now))) a.room (omega (arith, t, m.ensures.0, bytes_within a.answer a.listing.now a.cells.now bl bc (search rules))))

pub put_line-k-requires : goal.put_line-k-requires
unfolding printed
put_line-k-requires c =
    let a = c.args in
    let l = c.loop-j in
    let bl : Bytes a.listing.now = λ i. (c.type_inv.listing i).fits in
    let bc : Bytes a.cells.now = λ i. (c.type_inv.cells i).fits in
    let m = c.most_first.ensures in
    let lt : l.j < 1 + (length a.listing.now / token_width + length a.cells.now / cell_width) = omega (arith, c.count-n.ensures) in
    let f = line_short a.answer a.listing.now a.cells.now (omega (arith, m.0, m.1)) bl bc (search rules) l.j lt in
    (lt, record { room = omega (arith, f, l.invariant.1) })

pub returns-then-left-k : goal.returns-then-left-k
unfolding printed
returns-then-left-k c =
    let l = c.loop-j in
    let k = c.put_line-k.ensures in
    let lt : l.j < length (lines c.args.answer c.args.listing.now c.args.cells.now) = omega (arith, text_lines c.args.answer c.args.listing.now c.args.cells.now, c.count-n.ensures) in
    sym (lt-leb ((length (printed c.args.answer c.args.listing.now c.args.cells.now))) c.args.room (omega (arith, made_within (lines c.args.answer c.args.listing.now c.args.cells.now) (l.j + 1), made_longer (lines c.args.answer c.args.listing.now c.args.cells.now) l.j lt, k.place, l.invariant.2)))

pub loop-j-preserved : goal.loop-j-preserved
unfolding printed
loop-j-preserved c =
    let l = c.loop-j in
    let k = c.put_line-k.ensures in
    let lt : l.j < length (lines c.args.answer c.args.listing.now c.args.cells.now) = omega (arith, text_lines c.args.answer c.args.listing.now c.args.cells.now, c.count-n.ensures) in
    (omega arith, k.kept ∙ l.invariant.1, omega (arith, made_longer (lines c.args.answer c.args.listing.now c.args.cells.now) l.j lt, k.place, l.invariant.2))

pub returns : goal.returns
unfolding printed
returns c =
    let l = c.loop-j in
    let all = made_all (lines c.args.answer c.args.listing.now c.args.cells.now) l.j (omega (arith, text_lines c.args.answer c.args.listing.now c.args.cells.now, c.count-n.ensures)) in
    sym (le-leb ((length (printed c.args.answer c.args.listing.now c.args.cells.now))) c.args.room (omega (arith, ap length all, l.invariant.2)))
