-- 01, "Cases": those with a star, and rows that tell the rules from plausible errors, as one table over bytes. proofs/Cases has the one fact over it.
-- Assumes nothing.
use Rattle.std.specs.Prelude.{ℕ, List, [], ◌∷◌, ◌++◌, replicate, ℤ, pos, negsuc}
use Rattle.number.specs.Number.{bytes16}
use Rattle.record.specs.Paths.{root_path}
use Rattle.record.specs.TokensAndTags as Tokens
use Rattle.machine.specs.Machine.{Content, live, spent, deferred, waiting, present, send, refuse}
use Rattle.rules.specs.declared.answer.Refusal.TheVariants as Refusals
use Rattle.rules.specs.Run.{token_record}
use Rattle.rules.specs.CaseRows.{to0, to1, to2, key, token, root, input, values, completed, spent_word, hung, binary, operand_inputs, Case, cell, running, firing}
use Rattle.rules.specs.RequestCases.{profiles, logs, sized, named}

-- ---- the starred cases

-- the operation gives v
abbrev pub gives : (code : ℕ) → ℤ → ℤ → ℤ → Case
gives code a b v =
    running (binary code) (operand_inputs a b) [] 2048 2048 8 (values completed 1 3 0) (root 0 0 (spent a) ∷ root 0 1 (spent b) ∷ root 1 0 (live v) ∷ []) []

-- the operation is refused, and its operands stay live
abbrev pub refuses : (code : ℕ) → ℤ → ℤ → (number : ℕ) → Case
refuses code a b number =
    running (binary code) (operand_inputs a b) [] 2048 2048 8 (values number 0 2 0) (root 0 0 (live a) ∷ root 0 1 (live b) ∷ []) []

-- 0 is FETCH to 1 port 0; 1 is OUT; 2 is STORE. Cell 5 is fetched, and 40 stored to it
abbrev pub fetch_and_store : (picks : List ℕ) → Case
fetch_and_store picks =
    running (to1 10 (pos 0) 0 1 ++ to0 3 (pos 0) ++ to0 11 (pos 0)) (input 0 0 (pos 5) ++ input 2 0 (pos 5) ++ input 2 1 (pos 40)) picks 2048 2048 8
    (values completed 2 4 0)
    (root 0 0 (spent (pos 5)) ∷ root 2 0 (spent (pos 5)) ∷ root 2 1 (spent (pos 40)) ∷ root 1 0 (live (pos 40)) ∷ [])
    (cell 5 (present (pos 40)) ∷ [])

-- 0 and 1 are STORE, both to cell 5; the first to fire is done, the other refused
abbrev pub two_stores : (picks : List ℕ) → (place : ℕ) → (first second : ℤ → Content ℤ) → (stored : ℤ) → Case
two_stores picks place first second stored =
    running (to0 11 (pos 0) ++ to0 11 (pos 0)) (input 0 0 (pos 5) ++ input 0 1 (pos 1) ++ input 1 0 (pos 5) ++ input 1 1 (pos 2)) picks 2048 2048 8
    (values 11 1 4 place)
    (root 0 0 (first (pos 5)) ∷ root 0 1 (first (pos 1)) ∷ root 1 0 (second (pos 5)) ∷ root 1 1 (second (pos 2)) ∷ [])
    (cell 5 (present stored) ∷ [])

abbrev pub starred : List Case
starred =
    -- the printed example
    gives 16 (pos 7) (negsuc 8) (negsuc 1)
    -- budget 0; 1
    ∷ running (binary 16) (operand_inputs (pos 7) (negsuc 8)) [] 0 2048 8 (values spent_word 0 2 0) (root 0 0 (live (pos 7)) ∷ root 0 1 (live (negsuc 8)) ∷ []) []
    ∷ running (binary 16) (operand_inputs (pos 7) (negsuc 8)) [] 1 2048 8 (values completed 1 3 0)
    (root 0 0 (spent (pos 7)) ∷ root 0 1 (spent (negsuc 8)) ∷ root 1 0 (live (negsuc 1)) ∷ [])
    []
    -- capacity 2; 1
    ∷ running (binary 16) (operand_inputs (pos 7) (negsuc 8)) [] 2048 2 8 (values 8 0 2 0) (root 0 0 (live (pos 7)) ∷ root 0 1 (live (negsuc 8)) ∷ []) []
    ∷ running (binary 16) (operand_inputs (pos 7) (negsuc 8)) [] 2048 1 8 (values 8 0 0 1) [] []
    -- no inputs
    ∷ running (binary 16) [] [] 2048 2048 8 (values completed 0 0 0) [] []
    -- COPY with both destinations alike
    ∷ running (to2 1 (pos 0) 0 1 0 1 ++ to0 3 (pos 0)) (input 0 0 (pos 7)) [] 2048 2048 8 (values 9 0 1 0) (root 0 0 (live (pos 7)) ∷ []) []
    -- FETCH first; STORE first
    ∷ fetch_and_store []
    ∷ fetch_and_store (bytes16 1)
    -- operands in ledger order; with first pick 1
    ∷ two_stores [] 2 spent live (pos 1)
    ∷ two_stores (bytes16 1) 0 live spent (pos 2)
    -- -7 DIV 2, -7 REM 2, 7 DIV -2, -2,147,483,648 DIV -1
    ∷ gives 19 (negsuc 6) (pos 2) (negsuc 2)
    ∷ gives 20 (negsuc 6) (pos 2) (negsuc 0)
    ∷ gives 19 (pos 7) (negsuc 1) (negsuc 2)
    ∷ refuses 19 (negsuc 2147483647) (negsuc 0) 12
    -- ENTER site 3 at path 0, iteration 2; NEXT at 254
    ∷ firing (to2 8 (pos 3) 0 1 0 1 ++ to0 3 (pos 0)) 8 (record { path = root_path; iteration = 2; instruction = 0 }) (pos 7) (pos 0) (send (pos 7) (key 770 0 1 0 ∷ []))
    ∷ firing (to1 7 (pos 0) 0 1 ++ to0 3 (pos 0)) 8 (record { path = root_path; iteration = 254; instruction = 0 }) (pos 7) (pos 0) (send (pos 7) (key 0 255 1 0 ∷ []))
    ∷ []

-- ---- rows that tell the rules from plausible errors

-- 0 and 1 are COPY, both to 2, which is SINK. COPY 0 and SINK have fired when COPY 1 sends to the spent token's port
abbrev pub second_after_spent : Case
second_after_spent =
    running (to1 1 (pos 0) 0 2 ++ to1 1 (pos 0) 0 2 ++ to0 2 (pos 0)) (input 0 0 (pos 7) ++ input 1 0 (pos 8)) (bytes16 0 ++ bytes16 1) 2048 2048 8
    (values 9 2 3 1)
    (root 0 0 (spent (pos 7)) ∷ root 1 0 (live (pos 8)) ∷ root 2 0 (spent (pos 7)) ∷ [])
    []

-- 0 and 1 are FETCH of cell 5, both to 2, which is OUT: the second is refused when it fetches, and no write is waited for
abbrev pub second_deferred : Case
second_deferred =
    running (to1 10 (pos 0) 0 2 ++ to1 10 (pos 0) 0 2 ++ to0 3 (pos 0)) (input 0 0 (pos 5) ++ input 1 0 (pos 5)) [] 2048 2048 8
    (values 9 1 3 1)
    (root 0 0 (spent (pos 5)) ∷ root 1 0 (live (pos 5)) ∷ root 2 0 (deferred 5) ∷ [])
    (cell 5 waiting ∷ [])

-- 0 is ADD to 2, which is OUT, 1 is COPY to 3, which is OUT. Two activities are enabled, and a pick of 1 takes COPY
abbrev pub counted_once : Case
counted_once =
    running (to1 16 (pos 0) 0 2 ++ to1 1 (pos 0) 0 3 ++ to0 3 (pos 0) ++ to0 3 (pos 0)) (input 0 0 (pos 7) ++ input 0 1 (pos 8) ++ input 1 0 (pos 9)) (bytes16 1) 2048 2048 8
    (values completed 2 5 0)
    (root 0 0 (spent (pos 7)) ∷ root 0 1 (spent (pos 8)) ∷ root 1 0 (spent (pos 9)) ∷ root 3 0 (live (pos 9)) ∷ root 2 0 (live (pos 15)) ∷ [])
    []

-- R-2: a read that nobody answers hangs: the output is deferred and the cell waits
abbrev pub nobody_writes : Case
nobody_writes =
    running (to1 10 (pos 0) 0 1 ++ to0 3 (pos 0)) (input 0 0 (pos 5)) [] 2048 2048 8 (values hung 1 2 0)
    (root 0 0 (spent (pos 5)) ∷ root 1 0 (deferred 5) ∷ [])
    (cell 5 waiting ∷ [])

-- R-2: ADD waits for its other operand, and the budget is not looked at
abbrev pub one_operand : Case
one_operand = running (binary 16) (input 0 0 (pos 7)) [] 0 2048 8 (values hung 0 1 0) (root 0 0 (live (pos 7)) ∷ []) []

-- 0 is SWITCH to 1 or 2, both OUT
abbrev pub switched : (control : ℤ) → (instruction : ℕ) → Case
switched control i =
    running (to2 5 (pos 0) 0 1 0 2 ++ to0 3 (pos 0) ++ to0 3 (pos 0)) (operand_inputs (pos 7) control) [] 2048 2048 8 (values completed 1 3 0)
    (root 0 0 (spent (pos 7)) ∷ root 0 1 (spent control) ∷ root i 0 (live (pos 7)) ∷ [])
    []

-- 0 is STORE with a signal to 1, which is OUT
abbrev pub signalled : Case
signalled =
    running (to1 11 (pos 0) 0 1 ++ to0 3 (pos 0)) (operand_inputs (pos 5) (pos 40)) [] 2048 2048 8 (values completed 1 3 0)
    (root 0 0 (spent (pos 5)) ∷ root 0 1 (spent (pos 40)) ∷ root 1 0 (live (pos 0)) ∷ [])
    (cell 5 (present (pos 40)) ∷ [])

-- 0 is NEXT to 1, which enters site 3 at 2, which enters site 4 at 3, which leaves: back at 4, LEAVE, and then at 5, which is OUT
abbrev pub nested_calls : Case
nested_calls =
    running (to1 7 (pos 0) 0 1 ++ to2 8 (pos 3) 0 2 0 5 ++ to2 8 (pos 4) 0 3 0 4 ++ to0 9 (pos 0) ++ to0 9 (pos 0) ++ to0 3 (pos 0)) (input 0 0 (pos 7)) [] 2048 2048 8
    (values completed 5 6 0)
    (root 0 0 (spent (pos 7))
    ∷ token 0 1 1 0 (spent (pos 7))
    ∷ token 769 0 2 0 (spent (pos 7))
    ∷ token 50398208 0 3 0 (spent (pos 7))
    ∷ token 769 0 4 0 (spent (pos 7))
    ∷ token 0 1 5 0 (live (pos 7))
    ∷ [])
    []

-- R-5, a procedure by itself: 0 is COPY to 1, which is LEAVE, at path 0 a result
abbrev pub procedure_alone : Case
procedure_alone =
    running (to1 1 (pos 0) 0 1 ++ to0 9 (pos 200)) (input 0 0 (pos 7)) [] 2048 2048 8 (values completed 1 2 0)
    (root 0 0 (spent (pos 7)) ∷ root 1 0 (live (pos 7)) ∷ [])
    []

-- 0 is FETCH to 1, which is LEAVE: a result that is deferred is none yet
abbrev pub result_deferred : Case
result_deferred =
    running (to1 10 (pos 0) 0 1 ++ to0 9 (pos 0)) (input 0 0 (pos 5)) [] 2048 2048 8 (values hung 1 2 0)
    (root 0 0 (spent (pos 5)) ∷ root 1 0 (deferred 5) ∷ [])
    (cell 5 waiting ∷ [])

-- 0 and 1 are LEAVE, 2 is COPY to 3, which is OUT. One activity is enabled, and every pick takes it
abbrev pub counted_without : Case
counted_without =
    running (to0 9 (pos 0) ++ to0 9 (pos 0) ++ to1 1 (pos 0) 0 3 ++ to0 3 (pos 0)) (input 0 0 (pos 7) ++ input 1 0 (pos 8) ++ input 2 0 (pos 9)) (bytes16 1) 2048 2048 8
    (values completed 1 4 0)
    (root 0 0 (live (pos 7)) ∷ root 1 0 (live (pos 8)) ∷ root 2 0 (spent (pos 9)) ∷ root 3 0 (live (pos 9)) ∷ [])
    []

-- R-8: 0 enters site 1 at 0: eight levels, and the ninth is refused
abbrev pub calls_itself : Case
calls_itself =
    running (to2 8 (pos 1) 0 0 0 1 ++ to0 3 (pos 0)) (input 0 0 (pos 7)) [] 2048 2048 8
    (values 14 8 9 8)
    (root 0 0 (spent (pos 7))
    ∷ token 256 0 0 0 (spent (pos 7))
    ∷ token 16777472 0 0 0 (spent (pos 7))
    ∷ token 1099528405248 0 0 0 (spent (pos 7))
    ∷ token 72058693566333184 0 0 0 (spent (pos 7))
    ∷ token 4722438541563211546880 0 0 0 (spent (pos 7))
    ∷ token 309489732259886631936327936 0 0 0 (spent (pos 7))
    ∷ token 20282719093383930310579187613952 0 0 0 (spent (pos 7))
    ∷ token 1329248278504009256834117639467958528 0 0 0 (live (pos 7))
    ∷ [])
    []

-- i from 0 while i < 2, and the sum of the i: 0 is COPY, 1 LT 2, 2 SWITCH of i, 3 COPY, 4 ADD 1, 5 NEXT of i, 6 SWITCH of the sum, 7 ADD, 8 SINK, 9 OUT,
-- 10 NEXT of the sum
abbrev pub loop : Case
loop =
    running (
    to2 1 (pos 0) 0 1 0 2
    ++ to2 37 (pos 2) 1 2 1 6
    ++ to2 5 (pos 0) 0 3 0 8
    ++ to2 1 (pos 0) 0 4 1 7
    ++ to1 32 (pos 1) 0 5
    ++ to1 7 (pos 0) 0 0
    ++ to2 5 (pos 0) 0 7 0 9
    ++ to1 16 (pos 0) 0 10
    ++ to0 2 (pos 0)
    ++ to0 3 (pos 0)
    ++ to1 7 (pos 0) 0 6)
    (input 0 0 (pos 0) ++ input 6 0 (pos 0)) [] 2048 2048 8
    (values completed 23 32 0)
    (token 0 0 0 0 (spent (pos 0))
    ∷ token 0 0 6 0 (spent (pos 0))
    ∷ token 0 0 1 0 (spent (pos 0))
    ∷ token 0 0 2 0 (spent (pos 0))
    ∷ token 0 0 2 1 (spent (pos 1))
    ∷ token 0 0 6 1 (spent (pos 1))
    ∷ token 0 0 7 0 (spent (pos 0))
    ∷ token 0 0 3 0 (spent (pos 0))
    ∷ token 0 0 4 0 (spent (pos 0))
    ∷ token 0 0 7 1 (spent (pos 0))
    ∷ token 0 0 10 0 (spent (pos 0))
    ∷ token 0 0 5 0 (spent (pos 1))
    ∷ token 0 1 6 0 (spent (pos 0))
    ∷ token 0 1 0 0 (spent (pos 1))
    ∷ token 0 1 1 0 (spent (pos 1))
    ∷ token 0 1 2 0 (spent (pos 1))
    ∷ token 0 1 2 1 (spent (pos 1))
    ∷ token 0 1 6 1 (spent (pos 1))
    ∷ token 0 1 7 0 (spent (pos 0))
    ∷ token 0 1 3 0 (spent (pos 1))
    ∷ token 0 1 4 0 (spent (pos 1))
    ∷ token 0 1 7 1 (spent (pos 1))
    ∷ token 0 1 10 0 (spent (pos 1))
    ∷ token 0 1 5 0 (spent (pos 2))
    ∷ token 0 2 6 0 (spent (pos 1))
    ∷ token 0 2 0 0 (spent (pos 2))
    ∷ token 0 2 1 0 (spent (pos 2))
    ∷ token 0 2 2 0 (spent (pos 2))
    ∷ token 0 2 2 1 (spent (pos 0))
    ∷ token 0 2 6 1 (spent (pos 0))
    ∷ token 0 2 9 0 (live (pos 1))
    ∷ token 0 2 8 0 (spent (pos 2))
    ∷ [])
    []

-- refused in every order, by different numbers: 0 is DIV, by 0, and 1 is FETCH of cell -1
abbrev pub both_refused : (picks : List ℕ) → (number place : ℕ) → Case
both_refused picks number place =
    running (to1 19 (pos 0) 0 2 ++ to1 10 (pos 0) 0 3 ++ to0 3 (pos 0) ++ to0 3 (pos 0)) (operand_inputs (pos 7) (pos 0) ++ input 1 0 (negsuc 0)) picks 2048 2048 8
    (values number 0 3 place)
    (root 0 0 (live (pos 7)) ∷ root 0 1 (live (pos 0)) ∷ root 1 0 (live (negsuc 0)) ∷ [])
    []

-- 0 is COPY to 1 and to 2, both OUT: destination 1 first
abbrev pub copied : Case
copied =
    running (to2 1 (pos 0) 0 1 0 2 ++ to0 3 (pos 0) ++ to0 3 (pos 0)) (input 0 0 (pos 7)) [] 2048 2048 8 (values completed 1 3 0)
    (root 0 0 (spent (pos 7)) ∷ root 1 0 (live (pos 7)) ∷ root 2 0 (live (pos 7)) ∷ [])
    []

-- two faults at once, ledger full and second token: the number of the first is given
abbrev pub full_before_second : Case
full_before_second = running (to2 1 (pos 0) 0 1 0 1 ++ to0 3 (pos 0)) (input 0 0 (pos 7)) [] 2048 1 8 (values 8 0 1 0) (root 0 0 (live (pos 7)) ∷ []) []

-- second write and ledger full: 0 is STORE, 1 is STORE with a signal to 2, which is OUT
abbrev pub write_before_full : Case
write_before_full =
    running (to0 11 (pos 0) ++ to1 11 (pos 0) 0 2 ++ to0 3 (pos 0)) (input 0 0 (pos 5) ++ input 0 1 (pos 1) ++ input 1 0 (pos 5) ++ input 1 1 (pos 2)) [] 2048 4 8
    (values 11 1 4 2)
    (root 0 0 (spent (pos 5)) ∷ root 0 1 (spent (pos 1)) ∷ root 1 0 (live (pos 5)) ∷ root 1 1 (live (pos 2)) ∷ [])
    (cell 5 (present (pos 1)) ∷ [])

-- two reads of one cell wait, and one write answers both
abbrev pub two_reads : Case
two_reads =
    running (to1 10 (pos 0) 0 2 ++ to1 10 (pos 0) 0 3 ++ to0 3 (pos 0) ++ to0 3 (pos 0) ++ to0 11 (pos 0)) (input 0 0 (pos 5) ++ input 1 0 (pos 5) ++ input 4 0 (pos 5) ++ input 4 1 (pos 40)) [] 2048 2048 8
    (values completed 3 6 0)
    (root 0 0 (spent (pos 5))
    ∷ root 1 0 (spent (pos 5))
    ∷ root 4 0 (spent (pos 5))
    ∷ root 4 1 (spent (pos 40))
    ∷ root 2 0 (live (pos 40))
    ∷ root 3 0 (live (pos 40))
    ∷ [])
    (cell 5 (present (pos 40)) ∷ [])

-- refused before any firing: 0 firings, 0 tokens, nothing in ledger and cells
abbrev pub refused_first : (graph inputs picks : List ℕ) → (capacity cells : ℕ) → (number place : ℕ) → Case
refused_first graph inputs picks capacity cells number place = running graph inputs picks 2048 capacity cells (values number 0 0 place) [] []

-- by the graph alone, with no inputs
abbrev pub bad_graph : List ℕ → (number place : ℕ) → Case
bad_graph graph number place = refused_first graph [] [] 2048 8 number place

-- by inputs, picks, ledger or cells, with 0 as COPY to 1, which is OUT
abbrev pub bad_lent : (inputs picks : List ℕ) → (capacity cells : ℕ) → (number place : ℕ) → Case
bad_lent inputs picks capacity cells number place = refused_first (to1 1 (pos 0) 0 1 ++ to0 3 (pos 0)) inputs picks capacity cells number place

-- an input that is not at the root
abbrev pub lost_input : List ℕ
lost_input = Tokens.encode_token (token_record (token 256 0 0 0 (live (pos 7))))

-- 0 enters site 1 at 1, which leaves with a constant of 1: the return instruction 2 plus 1 is past the graph
abbrev pub returns_past : Case
returns_past =
    running (to2 8 (pos 1) 0 1 0 2 ++ to0 9 (pos 1) ++ to0 3 (pos 0)) (input 0 0 (pos 7)) [] 2048 2048 8 (values 17 1 2 1)
    (root 0 0 (spent (pos 7)) ∷ token 256 0 1 0 (live (pos 7)) ∷ [])
    []

abbrev pub distinguishing : List Case
distinguishing =
    second_after_spent
    ∷ second_deferred
    ∷ counted_once
    -- quotients rounded down; a refused firing that spends its operands
    ∷ running (to1 35 (pos 2) 0 1 ++ to0 3 (pos 0)) (input 0 0 (negsuc 6)) [] 2048 2048 8 (values completed 1 2 0) (root 0 0 (spent (negsuc 6)) ∷ root 1 0 (live (negsuc 2)) ∷ []) []
    ∷ refuses 19 (pos 7) (pos 0) 12
    ∷ nobody_writes
    ∷ one_operand
    ∷ two_reads
    ∷ copied
    ∷ full_before_second
    ∷ write_before_full
    ∷ switched (pos 0) 2
    ∷ switched (negsuc 0) 1
    ∷ signalled
    ∷ nested_calls
    ∷ procedure_alone
    ∷ result_deferred
    ∷ counted_without
    ∷ calls_itself
    ∷ loop
    ∷ both_refused [] 12 0
    ∷ both_refused (bytes16 1) 10 2
    -- refusal 3: SINK with an unused port, or a constant, not zero
    ∷ running (2 ∷ 0 ∷ 1 ∷ replicate 13 0) [] [] 2048 2048 8 (values 3 0 0 0) [] []
    ∷ running (to0 2 (pos 1)) [] [] 2048 2048 8 (values 3 0 0 0) [] []
    -- refusal 1: no record; a record and a byte
    ∷ bad_graph [] 1 0
    ∷ bad_graph (to0 2 (pos 0) ++ 0 ∷ []) 1 0
    -- 2: code 12, in record 1
    ∷ bad_graph (to0 2 (pos 0) ++ to0 12 (pos 0)) 2 1
    -- 4: an arc to an absent instruction; to a port not below the operand count. The fault of record 0 is found before that of record 1
    ∷ bad_graph (to1 1 (pos 0) 0 2 ++ to0 12 (pos 0)) 4 0
    ∷ bad_graph (to0 3 (pos 0) ++ to1 1 (pos 0) 1 0) 4 1
    -- 5: a site of 256, and of 0; a return port that is not 0; a second ENTER of a site, with another return; a LEAVE constant of 256, and of -1
    ∷ bad_graph (to2 8 (pos 256) 0 1 0 1 ++ to0 3 (pos 0)) 5 0
    ∷ bad_graph (to2 8 (pos 0) 0 1 0 1 ++ to0 3 (pos 0)) 5 0
    ∷ bad_graph (to2 8 (pos 1) 0 1 1 1 ++ to1 16 (pos 0) 0 1) 5 0
    ∷ bad_graph (to2 8 (pos 1) 0 2 0 2 ++ to2 8 (pos 1) 0 2 0 3 ++ to0 3 (pos 0) ++ to0 3 (pos 0)) 5 1
    ∷ bad_graph (to0 9 (pos 256)) 5 0
    ∷ bad_graph (to0 9 (negsuc 0)) 5 0
    -- 6: not at the root; at an absent instruction; at an absent port
    ∷ bad_lent (input 0 0 (pos 7) ++ lost_input) [] 2048 8 6 1
    ∷ bad_lent (input 2 0 (pos 7)) [] 2048 8 6 0
    ∷ bad_lent (input 0 1 (pos 7)) [] 2048 8 6 0
    -- 7: inputs, and picks, not whole; ledger, and cells, of a record too many
    ∷ bad_lent (0 ∷ []) [] 2048 8 7 0
    ∷ bad_lent [] (0 ∷ []) 2048 8 7 0
    ∷ bad_lent [] [] 2049 8 7 0
    ∷ bad_lent [] [] 2048 1025 7 0
    -- 7 before 6 before 8
    ∷ bad_lent lost_input [] 2049 8 7 0
    ∷ bad_lent (input 0 0 (pos 7) ++ lost_input) [] 0 8 6 1
    -- 13, 17
    ∷ firing (to1 7 (pos 0) 0 1 ++ to0 3 (pos 0)) 8 (record { path = root_path; iteration = 255; instruction = 0 }) (pos 7) (pos 0) (refuse Refusals.Iteration)
    ∷ returns_past
    ∷ []

-- ---- all of them, with those of 02

abbrev pub cases : List Case
cases = starred ++ distinguishing ++ profiles ++ logs ++ sized ++ named
