-- `text::fits` meets its contract: the longest text fits, or else the room that is left is what the lines made so far leave of it. Assumes nothing.
use Prim.Native.Nat.{◌+◌, ◌≤◌}
use mathlib.Core.Path.{◌≡◌}
use lib.ListN.{length}
use Rattle.text.specs.Text.{lines}
use Rattle.text.proofs.Whole.{made}
use Rattle.text.proofs.fits.Given as goal

abbrev pub invariant-loop-j : goal.invariant-loop-j
invariant-loop-j l =
    (l.j ≤ l.n) × (length l.line ≡ 75) × (length (made (lines l.answer l.listing l.cells) l.j) + l.left ≡ l.room)
