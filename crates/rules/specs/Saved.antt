-- 02, R-13, "Stop here and carry on tomorrow": what a saved state is, what is asked of it, and a run from there. That the test says what 02 lists (`TakenExactly`) is proved in proofs/Saved. Assumes nothing.
use Rattle.std.specs.Prelude.{ℕ, zero, suc, ◌/◌, ◌<◌, ◌≡◌, ◌↔◌, Bool, true, false, ◌&&◌, List, [], Option, Some, None, map, ltb, length, ℤ, pos, Ok}
use Rattle.record.specs.declared.tag.Tag.{Tag}
use Rattle.record.specs.declared.array.NamedArray.{NamedArray}
use Rattle.record.specs.declared.tag.Caller.{Caller}
use Rattle.record.specs.declared.instruction.Instruction.{Instruction}
use Rattle.buffer.specs.Rows.{All, rows, all_rows}
use Rattle.record.specs.GraphRecords.{graph_of}
use Rattle.record.specs.Arrays.{arrays_of}
use Rattle.record.specs.Paths.{path_number}
use Rattle.record.specs.TokensAndTags.{capacity_of}
use Rattle.record.specs.TokensAndTags as Tokens
use Rattle.record.specs.Calls.{most_levels, leave_of}
use Rattle.record.specs.Cells as Cells
use Rattle.record.specs.Widths.{token_width, cell_width}
use Rattle.machine.specs.Machine.{Machine, State, by_picks, run_by}
use Rattle.machine.specs.Saved.{Saved, is_saved}
use Rattle.rules.specs.declared.answer.Refusal.TheVariants.{DamagedState}
use Rattle.rules.specs.declared.answer.Answer.{Answer}
use Rattle.rules.specs.Check.{demand, all, any, operands_at, enters_site, check_graph, check_stores, check_with, Checked}
use Rattle.rules.specs.InstructionSet.{machine_of}
use Rattle.rules.specs.Callers.{PathIn}
use Rattle.rules.specs.Run.{token_held, cell_held, picks_of, Result, ran_to, unless_failed, Ran}

-- ---- "the saved ledger, cells and counts": the first records of the ledger are the state's tokens, bytes behind them are not looked at, and each count is of 16 bits

unfoldable pub state_saved : (ledger cells : List ℕ) → (tokens : ℕ) → State Tag ℤ
state_saved ledger cells n = record { tokens = map token_held (Tokens.tokens n ledger); cells = map cell_held (all_rows cell_width Cells.decode_cell cells) }

abbrev pub machine_saved : (graph : List ℕ) → List NamedArray → (ledger cells : List ℕ) → Machine
machine_saved graph table ledger cells = machine_of (graph_of graph) table (capacity_of (length ledger)) (length cells / cell_width)

-- ---- what is asked of it, "by the graph"

-- "fields and states allowed", of the token record that l starts with: it stands at a port of an instruction of the graph, and its state and its zeros are allowed
unfoldable pub token_allowed : List Instruction → List ℕ → Bool
token_allowed g l = ltb (Tokens.decode_token l).port (operands_at g (Tokens.decode_token l).tag.instruction) && Tokens.token_state_allowed l

-- of the cell record that l starts with, and "cell values 0 until present"
unfoldable pub cell_allowed : List ℕ → Bool
cell_allowed l = Cells.cell_state_allowed l && Cells.zero_until_present l

-- what LEAVE finds
abbrev pub on_left : {A : Type 0} → Option Caller → A → ((site : ℕ) → Tag → A) → A
on_left (Some c) a f = f c.site c.tag
on_left None a f = a

-- "each path made of sites that have an ENTER with its levels unbroken": LEAVE finds one after the other, and then no caller. `levels` at most
abbrev pub path_made : List Instruction → (levels : ℕ) → Tag → Bool
path_made g zero τ = on_left (leave_of τ) true (λ site caller. false)
path_made g (suc n) τ = on_left (leave_of τ) true (λ site caller. any (enters_site (pos site)) g && path_made g n caller)

-- "A saved state is taken exactly if, by the graph, all of this holds". The rest of 02's list is the machine's: "tag and port never twice", "a tag's operands all present
-- and spent or none spent", "results never spent", "each deferred token naming a cell of the store", "cells waiting exactly where one is deferred on them", "tokens within
-- the capacity", "the firings as many as the tags with spent operands". The table of named arrays is no part of the state, and none of this looks at one: it is said with
-- the empty table
unfoldable pub state_taken : (graph ledger cells : List ℕ) → (firings tokens : ℕ) → Bool
state_taken graph ledger cells firings n =
    all (token_allowed (graph_of graph)) (rows token_width (λ l. l) n ledger)
    && (all (λ t. path_made (graph_of graph) most_levels t.tag) (Tokens.tokens n ledger)
    && (all cell_allowed (all_rows cell_width (λ l. l) cells)
    && is_saved (machine_saved graph [] ledger cells) firings (state_saved ledger cells n)))

-- the same in 02's words, where the graph passed its check
pub record TakesState (graph ledger cells : List ℕ) (firings n : ℕ) : Type 0 where
  -- "fields and states allowed": instruction and port are there, states are of the three, zeros are zero
  pub ports : All (λ t. t.port < operands_at (graph_of graph) t.tag.instruction) (Tokens.tokens n ledger)
  pub token_states : All (λ l. Tokens.token_state_allowed l ≡ true) (rows token_width (λ l. l) n ledger)
  pub cell_states : All (λ l. Cells.cell_state_allowed l ≡ true) (all_rows cell_width (λ l. l) cells)
  -- "each path made of sites that have an ENTER with its levels unbroken"
  pub paths : All (λ t. PathIn (graph_of graph) (path_number t.tag.path)) (Tokens.tokens n ledger)
  -- "cell values 0 until present"
  pub cell_values : All (λ l. Cells.zero_until_present l ≡ true) (all_rows cell_width (λ l. l) cells)
  -- the rest, each a field of `Saved`
  pub saved : Saved (machine_saved graph [] ledger cells) firings (state_saved ledger cells n)

abbrev pub TakenExactly : Type 0
TakenExactly = (graph ledger cells : List ℕ) (firings n : ℕ) → check_graph graph ≡ Ok tt → (state_taken graph ledger cells firings n ≡ true) ↔ TakesState graph ledger cells firings n

-- ---- a run from there

-- "Refused: 24, damaged state, after 7 and in the place of 6, with place 0."; no inputs are lent. R-10: 22 "before inputs"
unfoldable pub check_saved : (graph arrays picks ledger cells : List ℕ) → (firings tokens : ℕ) → Checked
check_saved graph arrays picks ledger cells firings n =
    check_with graph arrays (length cells / cell_width)
    (check_stores 0 (length picks) (length ledger) (length cells))
    (demand (state_taken graph ledger cells firings n) DamagedState 0)

-- "Each part's budget counts its own firings", and the answer counts those before too
unfoldable pub carried : (graph arrays picks : List ℕ) → (budget : ℕ) → (ledger cells : List ℕ) → (firings tokens : ℕ) → Result
carried graph arrays picks budget ledger cells firings n =
    let M = machine_saved graph (arrays_of arrays) ledger cells in
    unless_failed (check_saved graph arrays picks ledger cells firings n) (ran_to (run_by M (by_picks M) budget (picks_of picks) firings (state_saved ledger cells n)))

-- what such a run promises: its answer and the end contents of ledger and cells
abbrev pub CarriedOn : (graph arrays picks : List ℕ) → (budget firings tokens : ℕ) → Answer → (ledger ledger' cells cells' : List ℕ) → Type 0
CarriedOn graph arrays picks budget firings n r ledger ledger' cells cells' = Ran (carried graph arrays picks budget ledger cells firings n) r ledger ledger' cells cells'
