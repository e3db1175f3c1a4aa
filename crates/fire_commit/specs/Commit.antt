-- Working definition: no public promise cites it.
-- What comes of an action and its outputs on a ledger's tokens and on the cells, as lists of their records. proofs/ joins this with the machine's `commit`.
-- Assumes nothing.
use Rattle.std.specs.Prelude.{ℕ, ◌≤◌, ◌≡◌, cond, List, ◌++◌, Result, Ok, Err}
use Rattle.record.specs.declared.token.Token.{Token}
use Rattle.record.specs.declared.cell.Cell.{Cell}
use Rattle.store.specs.Matching.{Matching}
use Rattle.fire_effect.specs.declared.output.Outputs.{Outputs}
use Rattle.fire_effect.specs.declared.operate.Action.{Action}
use Rattle.rules.specs.declared.answer.Refusal.{Refusal}
use Rattle.rules.specs.declared.answer.Refusal.TheVariants.{SecondWrite}
use Rattle.fire_outputs.specs.Outputs.{spent_at, output_tokens, LowPorts, OnCells, content_given, cells_by, woken_by, writes_again, Kept, CellsKept}
use Rattle.fire_commit.specs.Admitted.{Verdict, Yes, No, admitted_of}

-- ---- a firing

pub data Committed : Type 0 where
  done : List Token → List Cell → Committed
  refused : Refusal → Committed

unfoldable pub if_admitted : Verdict → Committed → Committed
if_admitted Yes x = x
if_admitted (No r) x = refused r

-- i and j are the places of the operands. 11: "STORE to a present cell"; then 8 and 9
unfoldable pub committed_of : (capacity : ℕ) → List Token → List Cell → (i j : ℕ) → Action → Outputs → Committed
committed_of capacity ts cs i j a o =
    cond (writes_again a cs) (refused SecondWrite)
    (if_admitted (admitted_of capacity ts o) (done (woken_by a (spent_at i j ts) ++ output_tokens (content_given a cs) o) (cells_by a cs)))

-- the code's answer is that of the definition: done, with the tokens used, or refused with ledger and cells as they were
abbrev pub CommittedTo : Result ℕ Refusal → Committed → (tables links flags ledger' cells' : List ℕ) → (used : ℕ) → (ledger cells : List ℕ) → Type 0
CommittedTo (Ok n) (done ts cs) tables links flags ledger' cells' used ledger cells =
    Kept tables links flags ledger' n ts ledger × CellsKept cells' cs cells
CommittedTo (Ok n) (refused r) tables links flags ledger' cells' used ledger cells = ⊥
CommittedTo (Err r) (done ts cs) tables links flags ledger' cells' used ledger cells = ⊥
CommittedTo (Err r) (refused q) tables links flags ledger' cells' used ledger cells =
    (r ≡ q) × (ledger' ≡ ledger) × (cells' ≡ cells) × Matching tables links flags ledger' used

-- the outputs are few and at low ports, and the action's cell is one of the store
abbrev pub Fitting : (cells : ℕ) → Action → Outputs → Type 0
Fitting n a o = (o.count ≤ 2) × LowPorts o × OnCells n a
