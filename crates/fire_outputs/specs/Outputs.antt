-- Working definition: no public promise cites it.
-- What a firing makes of a ledger's tokens and of the cells, as lists of their records, and what the code keeps beside the bytes. Assumes nothing.
use Rattle.std.specs.Prelude.{ℕ, zero, suc, ◌*◌, ◌/◌, ◌≤◌, ◌<◌, ◌≡◌, Bool, true, false, cond, List, [], ◌∷◌, ◌++◌, map, length, get_or, set, drop, eqb, pos}
use Rattle.record.specs.declared.token.Token.{Token}
use Rattle.record.specs.declared.token.Content.{Content}
use Rattle.record.specs.declared.token.Content.TheVariants.{Live, Deferred}
use Rattle.record.specs.declared.cell.Cell.{Cell}
use Rattle.record.specs.declared.cell.Cell.TheVariants.{Absent, Waiting, Present}
use Rattle.buffer.specs.Rows.{joined, All}
use Rattle.record.specs.TokensAndTags.{tokens}
use Rattle.record.specs.Cells as Cells
use Rattle.record.specs.Widths.{token_width, cell_width}
use Rattle.store_chains.specs.declared.Slot.{Slot}
use Rattle.store_chains.specs.Slots.{Open}
use Rattle.store_chains.specs.Deferred.{woken}
use Rattle.store_enabled.specs.Store.{Spendable}
use Rattle.store.specs.Matching.{spent_token, Matching}
use Rattle.fire_effect.specs.declared.operate.Action.{Action}
use Rattle.fire_effect.specs.declared.operate.Action.TheVariants.{Send, Read, Write}
use Rattle.fire_effect.specs.declared.output.Key.{Key}
use Rattle.fire_effect.specs.declared.output.Outputs.{Outputs}
use Rattle.abstraction.specs.States.{no_token}

-- ---- the tokens

unfoldable pub spend_one : (place : ℕ) → List Token → List Token
spend_one i ts = set ts i (spent_token (get_or ts i no_token))

-- the operands at two places are spent; where one was waited for, both are its place
unfoldable pub spent_at : (first second : ℕ) → List Token → List Token
spent_at i j ts = cond (eqb i j) (spend_one i ts) (spend_one j (spend_one i ts))

abbrev pub token_out : Content → Key → Token
token_out x k = record { tag = k.tag; port = k.port; content = x }

abbrev pub outputs_by : (count : ℕ) → (first second : Key) → Content → List Token
outputs_by zero j k x = []
outputs_by (suc zero) j k x = token_out x j ∷ []
outputs_by (suc (suc n)) j k x = token_out x j ∷ token_out x k ∷ []

-- the outputs, destination 1 first, with one content
abbrev pub output_tokens : Content → Outputs → List Token
output_tokens x o = outputs_by o.count o.first o.second x

-- ---- where the outputs may arrive

abbrev pub LowPortsBy : (count : ℕ) → (first second : Key) → Type 0
LowPortsBy zero j k = Unit {0}
LowPortsBy (suc zero) j k = j.port < 2
LowPortsBy (suc (suc n)) j k = (j.port < 2) × (k.port < 2)

-- the outputs are at ports 0 and 1
abbrev pub LowPorts : Outputs → Type 0
LowPorts o = LowPortsBy o.count o.first o.second

abbrev pub OpenKeysBy : List Token → (count : ℕ) → (first second : Key) → (s t : Slot) → Type 0
OpenKeysBy ts zero j k s t = Unit {0}
OpenKeysBy ts (suc zero) j k s t = Open ts j.tag j.port s
OpenKeysBy ts (suc (suc n)) j k s t = Open ts j.tag j.port s × ((x : Content) → Open (ts ++ token_out x j ∷ []) k.tag k.port t)

-- the outputs may arrive in two slots, the second once the first has arrived
abbrev pub OpenKeys : List Token → Outputs → (s t : Slot) → Type 0
OpenKeys ts o s t = OpenKeysBy ts o.count o.first o.second s t

-- ---- the cells

abbrev pub cells_in : List ℕ → List Cell
cells_in l = Cells.cells (length l / cell_width) l

-- a store of whole cells, at most 1,024, in every byte those of its cells
pub record CellStore (l : List ℕ) : Type 0 where
  pub bytes : l ≡ joined Cells.encode_cell (cells_in l)
  pub fits : All Cells.CellFits (cells_in l)
  pub few : length l / cell_width ≤ 1024

-- FETCH: a cell without a value is waiting
abbrev pub cell_fetched : Cell → Cell
cell_fetched Absent = Waiting
cell_fetched Waiting = Waiting
cell_fetched (Present v) = Present v

abbrev pub cells_fetched : (number : ℕ) → List Cell → List Cell
cells_fetched c cs = set cs c (cell_fetched (get_or cs c Absent))

-- FETCH: the value of a present cell; otherwise the outputs are deferred
abbrev pub content_fetched : (number : ℕ) → Cell → Content
content_fetched c Absent = Deferred c
content_fetched c Waiting = Deferred c
content_fetched c (Present v) = Live v

abbrev pub is_present : Cell → Bool
is_present Absent = false
is_present Waiting = false
is_present (Present v) = true

-- ---- an action

-- the cell that an action names is one of those that there are
abbrev pub OnCells : (cells : ℕ) → Action → Type 0
OnCells n (Send v) = Unit {0}
OnCells n (Read c) = c < n
OnCells n (Write c v) = c < n

-- the content of its outputs: a value, what FETCH finds, or a signal of value 0
abbrev pub content_given : Action → List Cell → Content
content_given (Send v) cs = Live v
content_given (Read c) cs = content_fetched c (get_or cs c Absent)
content_given (Write c v) cs = Live (pos 0)

-- what it makes of the cells
abbrev pub cells_by : Action → List Cell → List Cell
cells_by (Send v) cs = cs
cells_by (Read c) cs = cells_fetched c cs
cells_by (Write c v) cs = set cs c (Present v)

-- and of the tokens of the ledger: a write wakes those that are deferred on its cell
abbrev pub woken_by : Action → List Token → List Token
woken_by (Send v) ts = ts
woken_by (Read c) ts = ts
woken_by (Write c v) ts = map (woken c v) ts

-- whether it writes a cell that is present
abbrev pub writes_again : Action → List Cell → Bool
writes_again (Send v) cs = false
writes_again (Read c) cs = false
writes_again (Write c v) cs = is_present (get_or cs c Absent)

-- ---- what the code leaves

-- the arrays are right for a ledger that has these tokens, and the bytes past them are as they were
pub record Kept (tables links flags ledger' : List ℕ) (used : ℕ) (ts : List Token) (ledger : List ℕ) : Type 0 where
  pub matching : Matching tables links flags ledger' used
  pub held : tokens used ledger' ≡ ts
  pub size : length ledger' ≡ length ledger
  pub rest : drop (used * token_width) ledger' ≡ drop (used * token_width) ledger

-- the cells are these
pub record CellsKept (cells' : List ℕ) (cs : List Cell) (cells : List ℕ) : Type 0 where
  pub store : CellStore cells'
  pub held : cells_in cells' ≡ cs
  pub size : length cells' ≡ length cells

-- what a firing is lent, with the place of the activity and that of its other operand
pub record Fireable (tables links flags ledger cells : List ℕ) (used place other : ℕ) : Type 0 where
  pub matching : Matching tables links flags ledger used
  pub few : length ledger / token_width ≤ 2048
  pub activity : Spendable ledger used place other
  -- it is enabled
  pub raised : get_or flags place 0 ≡ 1
  pub store : CellStore cells
