-- Working definition: no public promise cites it.
-- Worked cases of 02, R-9, as one table over bytes: which tokens hold a NEXT back, and runs with a bound. proofs/BoundedCases has the one fact over it. Assumes nothing.
use Rattle.std.specs.Prelude.{ℕ, ◌+◌, ◌*◌, Bool, true, false, List, [], ◌∷◌, ◌++◌, length, replicate, ℤ, pos}
use Rattle.number.specs.Number.{bytes16}
use Rattle.buffer.specs.Rows.{joined}
use Rattle.record.specs.declared.tag.Tag.{Tag}
use Rattle.record.specs.GraphRecords.{graph_of}
use Rattle.record.specs.Paths.{path_words}
use Rattle.record.specs.Widths.{token_width}
use Rattle.machine.specs.Machine.{live, spent, deferred, Token}
use Rattle.rules.specs.Answer.{Values, values_of}
use Rattle.rules.specs.Run.{answer}
use Rattle.rules.specs.Log.{log_after}
use Rattle.rules.specs.Held.{held_in}
use Rattle.rules.specs.Bounded.{bounded, bound_logged, bound_carried}
use Rattle.rules.specs.CaseRows.{to0, to1, to2, token, root, input, values, completed, spent_word, hung, Seen, ran, again, wrote, seen_in}
use Rattle.rules.specs.SavedCases.{ledger_from}

-- ---- a case

pub data BoundedCase : Type 0 where
  -- an activity under a bound, among these tokens: whether it is held back
  holding : (graph : List ℕ) → (bound : ℕ) → Tag → List (Token Tag ℤ) → Bool → BoundedCase
  -- a run with a bound: what is lent; the answer, the tokens
  bounding : (graph arrays inputs picks : List ℕ) → (budget bound : ℕ) → Values → List (Token Tag ℤ) → BoundedCase
  -- the answer alone
  answering : (graph inputs picks : List ℕ) → (budget bound : ℕ) → Values → BoundedCase
  -- one with a log of `lent` bytes: the answer, the log's bytes
  logging : (graph inputs : List ℕ) → (budget bound lent : ℕ) → Values → List ℕ → BoundedCase
  -- one from a saved state of tokens without a cell, with a table of arrays: the answer, the tokens
  carrying : (graph arrays : List ℕ) → (budget bound firings : ℕ) → (saved : List (Token Tag ℤ)) → Values → List (Token Tag ℤ) → BoundedCase

pub data Told : Type 0 where
  held : Bool → Told
  saw : Seen → Told

-- by the rules
unfoldable pub seen_bounded : BoundedCase → Told
seen_bounded (holding graph k τ ts b) = held (held_in (graph_of graph) k (record { tokens = ts; cells = [] }) (record { place = 0; tag = τ }))
seen_bounded (bounding graph arrays inputs picks budget k a ts) = saw (seen_in (bounded graph arrays inputs picks budget k (token_width * 2048) 64))
seen_bounded (answering graph inputs picks budget k a) = saw (again (values_of (answer (bounded graph [] inputs picks budget k (token_width * 2048) 80))))
seen_bounded (logging graph inputs budget k lent a l) =
    let x = bound_logged graph [] inputs [] budget k (token_width * 2048) 64 lent in
    saw (wrote (values_of (answer x.result)) (log_after x []))
seen_bounded (carrying graph arrays budget k firings saved a ts) = saw (seen_in (bound_carried graph arrays [] budget k (ledger_from saved ++ replicate 280 0) [] firings (length saved)))

-- by the table
unfoldable pub expected_bounded : BoundedCase → Told
expected_bounded (holding graph k τ ts b) = held b
expected_bounded (bounding graph arrays inputs picks budget k a ts) = saw (ran a ts [])
expected_bounded (answering graph inputs picks budget k a) = saw (again a)
expected_bounded (logging graph inputs budget k lent a l) = saw (wrote a l)
expected_bounded (carrying graph arrays budget k firings saved a ts) = saw (ran a ts [])

-- ---- which tokens hold a NEXT back

-- 0 is NEXT, which sends to itself; 1 is ADD to 2; 2 is OUT; 3 is LEAVE
abbrev pub endless : List ℕ
endless = to1 7 (pos 0) 0 0 ++ to1 16 (pos 0) 0 2 ++ to0 3 (pos 0) ++ to0 9 (pos 0)

-- NEXT at iteration n of a path, among these tokens
abbrev pub next_at : (bound path n : ℕ) → List (Token Tag ℤ) → Bool → BoundedCase
next_at k path n ts b = holding endless k (record { path = path_words path; iteration = n; instruction = 0 }) ts b

abbrev pub waiting1 : (path iteration : ℕ) → List (Token Tag ℤ)
waiting1 path n = token path n 1 0 (live (pos 7)) ∷ []

abbrev pub holds : List BoundedCase
holds =
    -- NEXT at iteration 3 would make 4: with bound 2 a token at iteration 2 or less holds it back, one at 3 does not
    next_at 2 0 3 (waiting1 0 2) true
    ∷ next_at 2 0 3 (waiting1 0 0) true
    ∷ next_at 2 0 3 (waiting1 0 3) false
    ∷ next_at 3 0 3 (waiting1 0 2) false
    -- a result does not, unless it is deferred; a spent token does not
    ∷ next_at 2 0 3 (token 0 0 2 0 (live (pos 7)) ∷ token 0 0 3 0 (live (pos 7)) ∷ token 0 0 1 0 (spent (pos 7)) ∷ []) false
    ∷ next_at 2 0 3 (token 0 0 2 0 (deferred 5) ∷ []) true
    ∷ next_at 2 0 3 (token 0 0 1 0 (deferred 5) ∷ []) true
    -- paths entered from iteration 2 at site 5, and from there at site 7, at whatever iteration; LEAVE is no result there. One entered from iteration 3
    ∷ next_at 2 0 3 (token 1282 9 3 0 (live (pos 7)) ∷ []) true
    ∷ next_at 2 0 3 (waiting1 (1282 * 65536 + 1801) 200) true
    ∷ next_at 2 0 3 (waiting1 1283 0) false
    ∷ next_at 2 0 3 (waiting1 (1283 * 65536 + 1792) 0) false
    -- eight levels deep, the oldest entered from iteration 2
    ∷ next_at 2 0 3 (waiting1 ((((((((1282 * 65536 + 1801) * 65536 + 1801) * 65536 + 1801) * 65536 + 1801) * 65536 + 1801) * 65536 + 1801) * 65536 + 1801)) 200) true
    -- in an entered path: the tokens of its parent do not hold it back, nor do those of another path
    ∷ next_at 2 1282 3 (waiting1 0 0 ++ waiting1 1538 0) false
    ∷ next_at 2 1282 3 (waiting1 1282 2) true
    ∷ next_at 2 1282 3 (waiting1 (1282 * 65536 + 1794) 200) true
    -- NEXT at 255 would make 256
    ∷ next_at 256 0 255 (waiting1 0 0) true
    ∷ next_at 256 0 255 (waiting1 0 1) false
    ∷ next_at 256 0 254 (waiting1 0 0) false
    -- no bound, and no NEXT
    ∷ next_at 0 0 3 (waiting1 0 0) false
    ∷ holding endless 2 (record { path = path_words 0; iteration = 3; instruction = 1 }) (waiting1 0 0) false
    ∷ []

-- ---- runs

abbrev pub bounded_loop : (budget bound : ℕ) → Values → List (Token Tag ℤ) → BoundedCase
bounded_loop budget k a ts = bounding endless [] (input 0 0 (pos 7) ++ input 1 0 (pos 8)) [] budget k a ts

-- NEXT has fired once, ADD waits
abbrev pub once_around : List (Token Tag ℤ)
once_around = root 0 0 (spent (pos 7)) ∷ root 1 0 (live (pos 8)) ∷ token 0 1 0 0 (live (pos 7)) ∷ []

-- 0 is NEXT to 1, OUT; 2 is COPY to 1; 3 is ADD
abbrev pub last_next : List ℕ
last_next = to1 7 (pos 0) 0 1 ++ to0 3 (pos 0) ++ to1 1 (pos 0) 0 1 ++ to1 16 (pos 0) 0 1

-- a path entered twice: by 2, which counts to 3 and then stores in cell 9, and by a read of cell 9, which waits at iteration 0
abbrev pub late_entry : List ℕ
late_entry =
    to2 8 (pos 1) 0 2 0 10 ++ to2 8 (pos 1) 0 8 0 10 ++ to2 1 (pos 0) 0 3 0 4 ++ to1 37 (pos 3) 1 4 ++ to2 5 (pos 0) 0 5 0 7 ++ to1 32 (pos 1) 0 6 ++ to1 7 (pos 0) 0 2 ++ to2 1 (pos 0) 1 9 0 11 ++ to1 10 (pos 0) 0 12 ++ to0 11 (pos 0) ++ to0 3 (pos 0)
    ++ to1 4 (pos 9) 0 9 ++ to0 9 (pos 0)

-- the read enters last
abbrev pub count_first : List ℕ
count_first = bytes16 0 ++ joined (λ p. bytes16 p) (replicate 23 1)

abbrev pub late : (picks : List ℕ) → (bound : ℕ) → Values → BoundedCase
late picks k a = answering late_entry (input 0 0 (pos 0) ++ input 1 0 (pos 9)) picks 2048 k a

abbrev pub runs : List BoundedCase
runs =
    -- ADD waits at iteration 0: with bound 2 NEXT fires once, at a budget of 1 too, and with bound 3 twice; one that is free and may not fire is spent
    bounded_loop 2048 2 (values hung 1 3 0) once_around
    ∷ bounded_loop 1 2 (values hung 1 3 0) once_around
    ∷ bounded_loop 2048 3 (values hung 2 4 0) (root 0 0 (spent (pos 7)) ∷ root 1 0 (live (pos 8)) ∷ token 0 1 0 0 (spent (pos 7)) ∷ token 0 2 0 0 (live (pos 7)) ∷ [])
    ∷ bounded_loop 1 3 (values spent_word 1 3 0) once_around
    ∷ bounded_loop 0 2 (values spent_word 0 2 0) (root 0 0 (live (pos 7)) ∷ root 1 0 (live (pos 8)) ∷ [])
    ∷ bounded_loop 1 0 (values spent_word 1 3 0) once_around
    -- with a log: a record for the one firing
    ∷ logging endless (input 0 0 (pos 7) ++ input 1 0 (pos 8)) 2048 2 40960 (values hung 1 3 0) (replicate 20 0)
    -- a pick counts without the held NEXT: it takes COPY, and then none is left
    ∷ carrying last_next [] 1 2 0 (token 0 1 0 0 (live (pos 7)) ∷ token 0 0 2 0 (live (pos 8)) ∷ []) (values spent_word 1 3 0) (token 0 1 0 0 (live (pos 7)) ∷ token 0 0 2 0 (spent (pos 8)) ∷ token 0 0 1 0 (live (pos 8)) ∷ [])
    -- NEXT at 255: refused by 13, and held with an operand that waits at iteration 0
    ∷ carrying last_next [] 9 256 0 (token 0 255 0 0 (live (pos 7)) ∷ []) (values 13 0 1 0) (token 0 255 0 0 (live (pos 7)) ∷ [])
    ∷ carrying last_next [] 9 256 0 (token 0 255 0 0 (live (pos 7)) ∷ root 3 0 (live (pos 8)) ∷ []) (values hung 0 2 0) (token 0 255 0 0 (live (pos 7)) ∷ root 3 0 (live (pos 8)) ∷ [])
    -- under one bound one order completes and another hangs on a held NEXT
    ∷ late [] 0 (values completed 25 31 0)
    ∷ late [] 2 (values hung 12 16 0)
    ∷ late count_first 2 (values completed 25 31 0)
    ∷ late [] 3 (values hung 17 22 0)
    ∷ late [] 4 (values completed 25 31 0)
    ∷ []

-- ---- refused by 21: 1 and 257, after 7 and before 22, 6 and 24

abbrev pub bad_bound : (graph arrays inputs : List ℕ) → (bound word place : ℕ) → BoundedCase
bad_bound graph arrays inputs k word place = bounding graph arrays inputs [] 2048 k (values word 0 0 place) []

abbrev pub bad : List BoundedCase
bad =
    bad_bound endless [] [] 1 21 0
    ∷ bad_bound endless [] [] 257 21 0
    ∷ bad_bound endless [] [] 256 completed 0
    ∷ bad_bound endless [] [] 2 completed 0
    ∷ bad_bound endless [] (0 ∷ []) 1 7 0
    ∷ bad_bound endless (0 ∷ []) [] 1 21 0
    ∷ bad_bound endless (0 ∷ []) [] 2 22 0
    ∷ bad_bound endless [] (input 0 1 (pos 7)) 1 21 0
    ∷ bad_bound [] [] [] 1 1 0
    -- a log of one record less than the budget is 7, before 21
    ∷ logging endless [] 2 1 20 (values 7 0 0 0) []
    ∷ logging endless [] 2 1 40 (values 21 0 0 0) []
    -- a damaged state: a result that is spent
    ∷ carrying endless [] 2048 1 1 (root 2 0 (spent (pos 7)) ∷ []) (values 21 0 0 0) []
    ∷ carrying endless (0 ∷ []) 2048 2 1 (root 2 0 (spent (pos 7)) ∷ []) (values 22 0 0 0) []
    ∷ carrying endless [] 2048 2 1 (root 2 0 (spent (pos 7)) ∷ []) (values 24 0 0 0) []
    ∷ []

abbrev pub bounded_cases : List BoundedCase
bounded_cases = holds ++ runs ++ bad
