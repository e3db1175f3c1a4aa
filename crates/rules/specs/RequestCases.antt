-- Worked cases of 02: profiles (R-1), what graphs will need (R-3), logs and replays (R-7), named arrays (R-10). They are part of the table in Cases. Assumes nothing.
use Rattle.std.specs.Prelude.{ℕ, List, [], ◌∷◌, ◌++◌, replicate, ℤ, pos, negsuc, Err}
use Rattle.record.specs.declared.tag.Tag.{Tag}
use Rattle.number.specs.Number.{bytes16}
use Rattle.machine.specs.Steps.{StepRecord}
use Rattle.machine.specs.Machine.{Content, live, spent, deferred, Token, waiting, present}
use Rattle.rules.specs.declared.answer.Refusal.TheVariants.{BadInput, BadStore, NotLoopFree}
use Rattle.rules.specs.Answer.{Values}
use Rattle.rules.specs.Check.{fault_at}
use Rattle.rules.specs.Needs.{needs_at_most}
use Rattle.rules.specs.CaseRows.{to0, to1, to2, root, input, values, completed, spent_word, hung, binary, operand_inputs, NumberedCell, Case, cell, running, naming, profiling, logging, replaying, needing}

-- ---- R-1

abbrev pub step : (firings unspent : ℕ) → StepRecord
step f u = record { firings = f; unspent = u }

-- ADD of 7 and -9, with a profile of `lent` bytes
abbrev pub added : (lent : ℕ) → Values → List StepRecord → List (Token Tag ℤ) → Case
added lent a rs ts = profiling (binary 16) (operand_inputs (pos 7) (negsuc 8)) 2048 8 lent a rs ts

-- 0 is COPY to 2, which is OUT, 1 is COPY to 3, which is DIV by 0 to 2. The second step is refused
abbrev pub refused_step : (lent : ℕ) → Values → Case
refused_step lent a =
    profiling (to1 1 (pos 0) 0 2 ++ to1 1 (pos 0) 0 3 ++ to0 3 (pos 0) ++ to1 35 (pos 0) 0 2) (input 0 0 (pos 7) ++ input 1 0 (pos 8)) 2048 8 lent a (step 2 2 ∷ [])
    (root 0 0 (spent (pos 7)) ∷ root 1 0 (spent (pos 8)) ∷ root 2 0 (live (pos 7)) ∷ root 3 0 (live (pos 8)) ∷ [])

abbrev pub profiles : List Case
profiles =
    added 4 (values completed 1 3 0) (step 1 1 ∷ []) (root 0 0 (spent (pos 7)) ∷ root 0 1 (spent (negsuc 8)) ∷ root 1 0 (live (negsuc 1)) ∷ [])
    -- an empty profile: with nothing fired the inputs are in the ledger
    ∷ added 0 (values 18 0 2 0) [] (root 0 0 (live (pos 7)) ∷ root 0 1 (live (negsuc 8)) ∷ [])
    -- one with nothing to do is not full
    ∷ profiling (to0 3 (pos 0)) (input 0 0 (pos 7)) 2048 8 0 (values completed 0 1 0) [] (root 0 0 (live (pos 7)) ∷ [])
    -- 3 bytes are no whole record
    ∷ added 3 (values 7 0 0 0) [] []
    ∷ refused_step 8 (values 12 2 4 3)
    -- 18 comes before the step
    ∷ refused_step 4 (values 18 2 4 0)
    ∷ []

-- ---- R-7

-- the log of ADD at the root: its bytes are all zero, and so are those of a record of no firing
abbrev pub add_log : List ℕ
add_log = replicate 20 0

abbrev pub replays_add : (log : List ℕ) → Values → Case
replays_add log a = replaying (binary 16) (operand_inputs (pos 7) (negsuc 8)) log a

-- 0 and 1 are COPY to 2 and to 3, both OUT. Instruction 1 fires first
abbrev pub two_copies : List ℕ
two_copies = to1 1 (pos 0) 0 2 ++ to1 1 (pos 0) 0 3 ++ to0 3 (pos 0) ++ to0 3 (pos 0)

abbrev pub second_first : List ℕ
second_first = replicate 18 0 ++ bytes16 1

abbrev pub logs : List Case
logs =
    logging (binary 16) (operand_inputs (pos 7) (negsuc 8)) [] 2 40 (values completed 1 3 0) add_log
    -- one record is fewer than the budget; 2,048 are enough for every budget; 45 bytes are not whole
    ∷ logging (binary 16) (operand_inputs (pos 7) (negsuc 8)) [] 2 20 (values 7 0 0 0) []
    ∷ logging (binary 16) (operand_inputs (pos 7) (negsuc 8)) [] 65535 40960 (values completed 1 3 0) add_log
    ∷ logging (binary 16) (operand_inputs (pos 7) (negsuc 8)) [] 2 45 (values 7 0 0 0) []
    ∷ logging two_copies (input 0 0 (pos 7) ++ input 1 0 (pos 8)) (bytes16 1) 1 20 (values spent_word 1 3 0) second_first
    ∷ replays_add add_log (values completed 1 3 0)
    ∷ replays_add [] (values spent_word 0 2 0)
    -- an activity fires once; byte 17 is not zero; OUT never fires; 5 bytes are not whole
    ∷ replays_add (add_log ++ add_log) (values 20 1 3 1)
    ∷ replays_add (replicate 17 0 ++ 1 ∷ 0 ∷ 0 ∷ []) (values 20 0 2 0)
    ∷ replays_add second_first (values 20 0 2 0)
    ∷ replays_add (add_log ++ replicate 5 0) (values 20 1 3 1)
    ∷ replays_add (replicate 5 0) (values 20 0 2 0)
    -- the log of a run is its first records: as many as it has firings
    ∷ replaying two_copies (input 0 0 (pos 7) ++ input 1 0 (pos 8)) second_first (values spent_word 1 3 0)
    ∷ replaying two_copies (input 0 0 (pos 7) ++ input 1 0 (pos 8)) (second_first ++ replicate 40 0) (values 20 2 4 2)
    ∷ []

-- ---- R-3, what graphs will need: firings and tokens

-- each side of a SWITCH goes to a COPY and then to an OUT
abbrev pub two_sides : List ℕ
two_sides = to2 5 (pos 0) 0 1 0 2 ++ to1 1 (pos 0) 0 3 ++ to1 1 (pos 0) 0 4 ++ to0 3 (pos 0) ++ to0 3 (pos 0)

-- two elements of a vector sum: of each, COPY of the index to a FETCH and to the STORE, a FETCH of the other vector, ADD; the second STORE signals to an OUT
abbrev pub vector_sum : List ℕ
vector_sum =
    to2 1 (pos 0) 0 1 0 4
    ++ to1 10 (pos 0) 0 3
    ++ to1 10 (pos 0) 1 3
    ++ to1 16 (pos 0) 1 4
    ++ to0 11 (pos 0)
    ++ to2 1 (pos 0) 0 6 0 9
    ++ to1 10 (pos 0) 0 8
    ++ to1 10 (pos 0) 1 8
    ++ to1 16 (pos 0) 1 9
    ++ to1 11 (pos 0) 0 10
    ++ to0 3 (pos 0)

abbrev pub sized : List Case
sized =
    -- the printed example; without its second input
    needing (binary 16) (operand_inputs (pos 7) (negsuc 8)) (needs_at_most 1 3)
    ∷ needing (binary 16) (input 0 0 (pos 7)) (needs_at_most 0 1)
    -- a SWITCH reaches both sides and counts one output: a run fires one COPY less
    ∷ needing two_sides (operand_inputs (pos 7) (pos 0)) (needs_at_most 3 5)
    ∷ running two_sides (operand_inputs (pos 7) (pos 0)) [] 2048 2048 8 (values completed 2 4 0)
    (root 0 0 (spent (pos 7)) ∷ root 0 1 (spent (pos 0)) ∷ root 2 0 (spent (pos 7)) ∷ root 4 0 (live (pos 7)) ∷ [])
    []
    ∷ needing vector_sum (input 0 0 (pos 0) ++ input 2 0 (pos 2) ++ input 5 0 (pos 1) ++ input 7 0 (pos 3)) (needs_at_most 10 15)
    -- the second element is not reached without its index
    ∷ needing vector_sum (input 0 0 (pos 0) ++ input 2 0 (pos 2) ++ input 7 0 (pos 3)) (needs_at_most 6 9)
    -- ADD that waits for its own output; two COPYs in a circle, of which every run is refused by 9
    ∷ needing (to2 16 (pos 0) 1 0 0 1 ++ to0 3 (pos 0)) (input 0 0 (pos 7)) (needs_at_most 0 1)
    ∷ needing (to1 1 (pos 0) 0 1 ++ to1 1 (pos 0) 0 0) (input 0 0 (pos 7)) (needs_at_most 2 3)
    -- 9 is not tested
    ∷ needing (to1 1 (pos 0) 0 1 ++ to0 3 (pos 0)) (input 0 0 (pos 7) ++ input 0 0 (pos 8)) (needs_at_most 1 3)
    -- 19 at the first NEXT, ENTER or LEAVE, reached or not; 6 and 7 come before it
    ∷ needing (to1 1 (pos 0) 0 1 ++ to1 7 (pos 0) 0 2 ++ to0 9 (pos 0)) [] (Err (fault_at NotLoopFree 1))
    ∷ needing (to1 7 (pos 0) 0 1 ++ to0 3 (pos 0)) (input 0 0 (pos 7) ++ input 0 1 (pos 7)) (Err (fault_at BadInput 1))
    ∷ needing (to1 7 (pos 0) 0 1 ++ to0 3 (pos 0)) (0 ∷ []) (Err (fault_at BadStore 0))
    ∷ []

-- ---- R-10, named arrays

abbrev pub array : (first length : ℕ) → List ℕ
array first n = bytes16 first ++ bytes16 n

-- 0 is STORE to the array with this constant, of 40 at an index; array 1 has cells 2 and 3, array 2 has cells 3 to 5
abbrev pub store_in : (constant index : ℤ) → Values → (Content ℤ × Content ℤ) → List NumberedCell → Case
store_in k index a tokens cs = naming (to0 11 k) (array 2 2 ++ array 3 3) (input 0 0 index ++ input 0 1 (pos 40)) 6 a (root 0 0 tokens.0 ∷ root 0 1 tokens.1 ∷ []) cs

abbrev pub stored_in : (constant index : ℤ) → (number : ℕ) → Case
stored_in k index n = store_in k index (values completed 1 2 0) (spent index, spent (pos 40)) (cell n (present (pos 40)) ∷ [])

abbrev pub outside_of : (constant index : ℤ) → Case
outside_of k index = store_in k index (values 10 0 2 0) (live index, live (pos 40)) []

-- refused before any firing: 0 is COPY to 1, which is FETCH by this constant
abbrev pub bad_array : (arrays inputs : List ℕ) → (constant : ℤ) → (word place : ℕ) → Case
bad_array arrays inputs k word place = naming (to1 1 (pos 0) 0 1 ++ to1 10 k 0 2 ++ to0 3 (pos 0)) arrays inputs 6 (values word 0 0 place) [] []

abbrev pub named : List Case
named =
    -- index 1 is the first cell; the length is the last; 0, one more and -1 are none of its cells
    stored_in (pos 1) (pos 1) 2
    ∷ stored_in (pos 1) (pos 2) 3
    ∷ stored_in (pos 2) (pos 3) 5
    ∷ outside_of (pos 1) (pos 0)
    ∷ outside_of (pos 1) (pos 3)
    ∷ outside_of (pos 2) (negsuc 0)
    -- constant 0 keeps the whole store, and numbers from 0
    ∷ stored_in (pos 0) (pos 0) 0
    ∷ stored_in (pos 0) (pos 5) 5
    ∷ outside_of (pos 0) (pos 6)
    -- a deferred token holds the number of the cell, not the index
    ∷ naming (to1 10 (pos 1) 0 1 ++ to0 3 (pos 0)) (array 2 2) (input 0 0 (pos 1)) 6 (values hung 1 2 0) (root 0 0 (spent (pos 1)) ∷ root 1 0 (deferred 2) ∷ []) (cell 2 waiting ∷ [])
    -- an array of no cells at the end of the store is allowed; one that ends a cell past it, 5 bytes and 65 records are not
    ∷ naming (to0 2 (pos 0)) (array 6 0 ++ array 0 6) [] 6 (values completed 0 0 0) [] []
    ∷ bad_array (array 4 3) [] (pos 0) 22 0
    ∷ bad_array (array 4 2 ++ 0 ∷ []) [] (pos 0) 22 0
    ∷ bad_array (replicate 260 0) [] (pos 0) 22 0
    -- a constant outside the table, at its instruction; the table is looked at first
    ∷ bad_array (array 4 2) [] (pos 2) 22 1
    ∷ bad_array (array 4 2) [] (negsuc 0) 22 1
    ∷ bad_array [] [] (pos 1) 22 1
    ∷ bad_array (array 4 3) [] (pos 2) 22 0
    -- 7 comes before 22, and 22 before 6
    ∷ bad_array (array 4 3) (0 ∷ []) (pos 0) 7 0
    ∷ bad_array (array 4 3) (input 0 1 (pos 7)) (pos 0) 22 0
    ∷ bad_array (array 4 2) (input 0 1 (pos 7)) (pos 1) 6 0
    -- the bounds let the constant by
    ∷ needing (to0 11 (pos 9)) (operand_inputs (pos 1) (pos 40)) (needs_at_most 1 2)
    ∷ []
