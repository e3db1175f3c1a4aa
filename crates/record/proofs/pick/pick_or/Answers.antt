-- `record::pick::pick_or` meets its contract. Assumes nothing.
use Rattle.std.proofs.Common.{◌≡◌, ℕ, ◌*◌, ◌/◌, ◌≤◌, List, length, drop, sym, ◌∙◌, add-zero, arith, get_or-drop}
use lib.ListN.{get_or-eq_default}
use Rattle.number.specs.Number.{number16}
use Rattle.buffer.specs.Rows.{all_rows}
use Rattle.buffer.proofs.Tables.{length_rows, get_d_rows}
use Rattle.record.specs.Widths.{pick_width}
use Rattle.record.proofs.pick.pick_or.Goals as goal

-- a number of the bytes from a place on
from : (l : List ℕ) (at : ℕ) → number16 (drop at l) 0 ≡ number16 l at
from l at = rw (get_or-drop at l 0 0, get_or-drop at l 1 0, add-zero at)

pub returns-then-k-picks : goal.returns-then-k-picks
returns-then-k-picks c =
    let a = c.args in
    let l = a.picks.now in
    c.u16_at.ensures ∙ sym (from l (a.k * pick_width)) ∙ sym (get_d_rows pick_width (λ b. number16 b 0) (length l / pick_width) a.k l a.other (omega arith))

pub returns-else-k-picks : goal.returns-else-k-picks
returns-else-k-picks c =
    let a = c.args in
    let l = a.picks.now in
    let h : length (all_rows pick_width (λ b. number16 b 0) l) ≤ a.k = rw (length_rows pick_width (λ b. number16 b 0) (length l / pick_width) l) (omega arith) in
    sym (get_or-eq_default (all_rows pick_width (λ b. number16 b 0) l) a.other h)
