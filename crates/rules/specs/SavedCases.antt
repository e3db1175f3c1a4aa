-- Worked cases of 02, R-13, as one table over bytes: each condition of its list broken by itself, and states that are taken. proofs/SavedCases has the one fact
-- over it. Assumes nothing.
use Rattle.std.specs.Prelude.{ℕ, ◌+◌, ◌*◌, List, [], ◌∷◌, ◌++◌, length, set, ℤ, pos, negsuc}
use Rattle.number.specs.Number.{bytes32}
use Rattle.buffer.specs.Rows.{joined}
use Rattle.record.specs.declared.tag.Tag.{Tag}
use Rattle.record.specs.TokensAndTags as Tokens
use Rattle.record.specs.Cells as Cells
use Rattle.machine.specs.Machine.{live, spent, deferred, Token, Cell, absent, waiting, present}
use Rattle.rules.specs.Answer.{Values}
use Rattle.rules.specs.Run.{token_record, cell_record}
use Rattle.machine.specs.Saved.{is_saved}
use Rattle.rules.specs.Saved.{state_saved, token_allowed, cell_allowed, state_taken, check_saved, carried}
use Rattle.rules.specs.CaseRows.{to0, to1, to2, token, root, values, completed, spent_word, hung, binary, NumberedCell, cell, Seen, ran, seen_in}
use Rattle.rules.specs.RequestCases.{array}

-- ---- how the rows are written

abbrev pub ledger_from : List (Token Tag ℤ) → List ℕ
ledger_from ts = joined (λ (t : Token Tag ℤ). Tokens.encode_token (token_record t)) ts

abbrev pub cells_from : List (Cell ℤ) → List ℕ
cells_from cs = joined (λ (c : Cell ℤ). Cells.encode_cell (cell_record c)) cs

-- a run from a saved state: what is lent; the answer, the tokens of the ledger, the cells that are not absent
pub data SavedCase : Type 0 where
  carrying : (graph picks : List ℕ) → (budget firings tokens : ℕ) → (ledger cells : List ℕ) → Values → List (Token Tag ℤ) → List NumberedCell → SavedCase
  -- with a table of named arrays too, budget 2,048 and no firing before
  naming : (graph arrays picks : List ℕ) → (tokens : ℕ) → (ledger cells : List ℕ) → Values → List (Token Tag ℤ) → List NumberedCell → SavedCase

-- by the rules
unfoldable pub seen_saved : SavedCase → Seen
seen_saved (carrying graph picks budget firings n ledger cells a ts cs) = seen_in (carried graph [] picks budget ledger cells firings n)
seen_saved (naming graph arrays picks n ledger cells a ts cs) = seen_in (carried graph arrays picks 2048 ledger cells 0 n)

-- by the table
unfoldable pub expected_saved : SavedCase → Seen
expected_saved (carrying graph picks budget firings n ledger cells a ts cs) = ran a ts cs
expected_saved (naming graph arrays picks n ledger cells a ts cs) = ran a ts cs

-- ---- a state with each thing that 02 lists

-- 0 is ADD to 1, OUT; 2 is FETCH to 3, OUT; 4 is ENTER of site 7 to 5, LEAVE, and returns to 6, OUT
abbrev pub graph : List ℕ
graph = to1 16 (pos 0) 0 1 ++ to0 3 (pos 0) ++ to1 10 (pos 0) 0 3 ++ to0 3 (pos 0) ++ to2 8 (pos 7) 0 5 0 6 ++ to0 9 (pos 0) ++ to0 3 (pos 0)

-- in the call from site 7 at the root
abbrev pub called : ℕ
called = 1792

-- the addition is done, the fetch waits for cell 1, and the call has not returned
abbrev pub added_saved : List (Token Tag ℤ)
added_saved = root 0 0 (spent (pos 7)) ∷ root 0 1 (spent (negsuc 8)) ∷ root 1 0 (live (negsuc 1)) ∷ []

abbrev pub fetched : List (Token Tag ℤ)
fetched = root 2 0 (spent (pos 1)) ∷ root 3 0 (deferred 1) ∷ []

abbrev pub entered_saved : List (Token Tag ℤ)
entered_saved = root 4 0 (spent (pos 5)) ∷ token called 0 5 0 (live (pos 5)) ∷ []

abbrev pub state : List (Token Tag ℤ)
state = added_saved ++ fetched ++ entered_saved

abbrev pub two_cells : List ℕ
two_cells = cells_from (absent ∷ waiting ∷ [])

-- bytes behind the state's records, which are not looked at: a record in no allowed state
abbrev pub behind : List ℕ
behind = bytes32 4294967295 ++ bytes32 4294967295 ++ bytes32 4294967295 ++ bytes32 4294967295 ++ bytes32 4294967295 ++ bytes32 4294967295 ++ bytes32 4294967295

-- it goes on: the call returns, and the fetch waits for ever
abbrev pub good : List SavedCase
good =
    carrying graph [] 2048 3 7 (ledger_from state ++ behind) two_cells (values hung 4 8 0)
    (added_saved ++ fetched ++ root 4 0 (spent (pos 5)) ∷ token called 0 5 0 (spent (pos 5)) ∷ root 6 0 (live (pos 5)) ∷ [])
    (cell 1 waiting ∷ [])
    -- the budget is that of the part
    ∷ carrying graph [] 0 3 7 (ledger_from state ++ behind) two_cells (values spent_word 3 7 0) state (cell 1 waiting ∷ [])
    -- what completed completes again
    ∷ carrying (binary 16) [] 2048 1 3 (ledger_from added_saved) [] (values completed 1 3 0) added_saved []
    -- so does an empty state
    ∷ carrying graph [] 2048 0 0 [] [] (values completed 0 0 0) [] []
    -- states that no run left: the order is no condition, nor that somebody sent a token, nor that a FETCH sends to where one is deferred
    ∷ carrying graph [] 0 3 7 (ledger_from (entered_saved ++ added_saved ++ fetched)) two_cells (values spent_word 3 7 0) (entered_saved ++ added_saved ++ fetched) (cell 1 waiting ∷ [])
    ∷ carrying graph [] 2048 0 1 (ledger_from (root 6 0 (live (pos 1)) ∷ [])) [] (values completed 0 1 0) (root 6 0 (live (pos 1)) ∷ []) []
    ∷ carrying graph [] 2048 0 1 (ledger_from (root 6 0 (deferred 0) ∷ [])) (cells_from (waiting ∷ [])) (values hung 0 1 0) (root 6 0 (deferred 0) ∷ []) (cell 0 waiting ∷ [])
    -- two levels, and a present cell with a value
    ∷ carrying graph [] 0 0 1 (ledger_from (token (called * 65536 + called) 0 6 0 (live (pos 5)) ∷ [])) (cells_from (present (pos 3) ∷ [])) (values completed 0 1 0)
    (token (called * 65536 + called) 0 6 0 (live (pos 5)) ∷ []) (cell 0 (present (pos 3)) ∷ [])
    -- two are enabled, and the part's own first pick takes the second: the first is ENTER, the second FETCH of no cell
    ∷ carrying graph (1 ∷ 0 ∷ []) 1 0 2 (ledger_from (root 4 0 (live (pos 5)) ∷ root 2 0 (live (pos 1)) ∷ []) ++ behind) [] (values 10 0 2 1)
    (root 4 0 (live (pos 5)) ∷ root 2 0 (live (pos 1)) ∷ []) []
    ∷ []

-- ---- each condition broken by itself

-- refused by 24: nothing is counted, and nothing written
abbrev pub damaged : (firings tokens : ℕ) → (ledger cells : List ℕ) → SavedCase
damaged firings n ledger cells = carrying graph [] 2048 firings n ledger cells (values 24 0 0 0) [] []

abbrev pub damaged_tokens : (firings : ℕ) → List (Token Tag ℤ) → (cells : List ℕ) → SavedCase
damaged_tokens firings ts cells = damaged firings (length ts) (ledger_from ts) cells

abbrev pub bad_saved : List SavedCase
bad_saved =
    -- "fields and states allowed": no such instruction, no such port, no such state, zeros that are not zero; and of a cell
    damaged_tokens 0 (root 7 0 (live (pos 5)) ∷ []) []
    ∷ damaged_tokens 0 (root 1 1 (live (pos 5)) ∷ []) []
    ∷ damaged 0 1 (set (ledger_from (root 1 0 (live (pos 5)) ∷ [])) 24 3) []
    ∷ damaged 0 1 (set (ledger_from (root 1 0 (live (pos 5)) ∷ [])) 25 1) []
    ∷ damaged 0 0 [] (bytes32 0 ++ bytes32 3)
    ∷ damaged 0 0 [] (bytes32 0 ++ bytes32 258)
    -- "tag and port never twice"
    ∷ damaged_tokens 0 (root 1 0 (live (pos 5)) ∷ root 1 0 (live (pos 5)) ∷ []) []
    -- "each path made of sites that have an ENTER with its levels unbroken": no such site; an older level behind an empty one
    ∷ damaged_tokens 0 (token 2048 0 6 0 (live (pos 5)) ∷ []) []
    ∷ damaged_tokens 0 (token (called * 65536) 0 6 0 (live (pos 5)) ∷ []) []
    -- "a tag's operands all present and spent or none spent": the other is live, or absent
    ∷ damaged_tokens 1 (root 0 0 (spent (pos 7)) ∷ root 0 1 (live (negsuc 8)) ∷ []) []
    ∷ damaged_tokens 0 (root 0 0 (live (pos 7)) ∷ root 0 1 (spent (negsuc 8)) ∷ []) []
    ∷ damaged_tokens 1 (root 0 0 (spent (pos 7)) ∷ []) []
    -- "results never spent": at OUT, and at LEAVE under path 0
    ∷ damaged_tokens 1 (root 1 0 (spent (pos 7)) ∷ []) []
    ∷ damaged_tokens 1 (root 5 0 (spent (pos 7)) ∷ []) []
    -- "each deferred token naming a cell of the store"
    ∷ damaged_tokens 0 (root 3 0 (deferred 2) ∷ []) (cells_from (absent ∷ absent ∷ []))
    -- "cells waiting exactly where one is deferred on them"
    ∷ damaged 0 0 [] (cells_from (waiting ∷ []))
    ∷ damaged_tokens 0 (root 3 0 (deferred 0) ∷ []) (cells_from (absent ∷ []))
    ∷ damaged_tokens 0 (root 3 0 (deferred 0) ∷ []) (cells_from (present (pos 3) ∷ []))
    -- "cell values 0 until present"
    ∷ damaged 0 0 [] (bytes32 4 ++ bytes32 0)
    ∷ damaged_tokens 0 (root 3 0 (deferred 0) ∷ []) (bytes32 4 ++ bytes32 1)
    -- "tokens within the capacity"
    ∷ damaged 0 1 [] []
    -- "the firings as many as the tags with spent operands"
    ∷ damaged 2 7 (ledger_from state) two_cells
    ∷ damaged 4 7 (ledger_from state) two_cells
    ∷ []

-- ---- "after 7 and in the place of 6"

abbrev pub turn : List SavedCase
turn =
    -- 1 and 7 come before 24
    carrying [] [] 2048 1 0 [] [] (values 1 0 0 0) [] []
    ∷ carrying graph (0 ∷ []) 2048 1 0 [] [] (values 7 0 0 0) [] []
    ∷ []

-- ---- R-10: the table is lent again, and 22 stands between 7 and 24

-- 0 is FETCH from array 1 to 1, OUT
abbrev pub fetching : List ℕ
fetching = to1 10 (pos 1) 0 1 ++ to0 3 (pos 0)

abbrev pub named_saved : List SavedCase
named_saved =
    -- index 2 of the array that has cells 1 and 2
    naming fetching (array 1 2) [] 1 (ledger_from (root 0 0 (live (pos 2)) ∷ []) ++ behind) (cells_from (absent ∷ absent ∷ present (pos 9) ∷ [])) (values completed 1 2 0)
    (root 0 0 (spent (pos 2)) ∷ root 1 0 (live (pos 9)) ∷ []) (cell 2 (present (pos 9)) ∷ [])
    -- it ends past the cells, of a state that is damaged too; with 7; no table is lent
    ∷ naming fetching (array 1 3) [] 1 (ledger_from (root 2 0 (live (pos 2)) ∷ [])) (cells_from (absent ∷ absent ∷ absent ∷ [])) (values 22 0 0 0) [] []
    ∷ naming fetching (array 1 3) (0 ∷ []) 0 [] [] (values 7 0 0 0) [] []
    ∷ naming fetching [] [] 0 [] [] (values 22 0 0 0) [] []
    ∷ []

abbrev pub saved_cases : List SavedCase
saved_cases = good ++ bad_saved ++ turn ++ named_saved

-- a computed proof with the line `unfolding states` computes with all of R-13, beside `rules`
unfoldable pub states : Unit {0}
unfolding Tokens.token_state_allowed Cells.cell_state_allowed Cells.zero_until_present is_saved state_saved token_allowed cell_allowed state_taken check_saved carried
states = tt
