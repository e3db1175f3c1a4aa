-- `saved::cells_right` meets its contract. The invariant: the first c cells are right. Assumes nothing.
use Prim.Native.Nat.{ℕ, ◌/◌, ◌≤◌, ◌<◌}
use mathlib.Core.Bool.{true}
use mathlib.Core.List.{List}
use mathlib.Core.Path.{◌≡◌}
use lib.ListN.{length}
use Rattle.record.specs.TokensAndTags.{tokens}
use Rattle.record.specs.Widths.{cell_width}
use Rattle.machine.specs.Saved.{all_up_to}
use Rattle.store.specs.Matching.{Matching}
use Rattle.saved.specs.Passes.{CellBytes, cell_right}
use Rattle.saved.proofs.cells_right.Given as goal

abbrev pub invariant-loop-c : goal.invariant-loop-c
invariant-loop-c l =
    (l.c ≤ length l.cells / cell_width)
    × ((tables flags ledger : List ℕ) (used : ℕ) → Matching tables l.store.links flags ledger used → all_up_to (cell_right (tokens used ledger) l.cells) l.c ≡ true)
    × ((d : ℕ) → d < l.c → CellBytes l.cells d)
