-- An answer as one number, the way back, and what the plotter's cache and printing answer. Assumes nothing.
use Rattle.std.specs.Prelude.{ℕ, ◌+◌, ◌*◌, ◌/◌, ◌%◌, ◌≡◌, cond, List, [], ◌∷◌, eqb, get_or, Option, Some, None, Result, Ok, Err, ℤ}
use Rattle.number.specs.Number.{bits_of}
use Rattle.rules.specs.Answer.{Values, number_of, values_of}
use Rattle.rules.specs.declared.answer.Refusal.{Refusal}
use Rattle.rules.specs.declared.answer.Refusal.TheVariants.{GraphLength, UnknownOperation, FanOut, BadArc, BadSite, BadInput, BadStore, LedgerFull, SecondToken, NoSuchCell, SecondWrite, OutOfRange, Iteration, TooDeep, NoReturn, ProfileFull, NotLoopFree, NotEnabled, BadBound, BadArray, Undecided, DamagedState, BadExpression, GraphTooLong}
use Rattle.rules.specs.declared.answer.Outcome.{Outcome}
use Rattle.rules.specs.declared.answer.Outcome.TheVariants.{Completed, Hung, Spent, Refused}
use Rattle.rules.specs.declared.answer.Answer.{Answer}
use Rattle.rules.specs.declared.answer.Fault.{Fault}
use Rattle.rules.specs.declared.answer.Needs.{Needs}
use Rattle.activities.specs.declared.Tally.{Tally}
use Rattle.plot_cache.specs.declared.Limits.{Limits}
use Rattle.plot_cache.specs.declared.Ended as Ending
use Rattle.plot_cache.specs.Serves.{Request, serves, Served}
use Rattle.text.specs.Text.{printed, printed_of, printed_out}
use Rattle.text.specs.declared.TooSmall.{TooSmall}

-- ---- word, firings, tokens and place, 16 bits each, the word lowest

abbrev pub packed : Values → ℕ
packed v = v.word + v.firings % 65536 * 65536 + v.tokens % 65536 * 4294967296 + v.place % 65536 * 281474976710656

-- `ttda_run` does what `engine::run` promises, and answers its answer's number; likewise `ttda_carry_on`, `ttda_run_logged`, `ttda_replay`, `ttda_profile`, `ttda_run_ranges`
pub record AsNumber (r : ℕ) (Promised : Answer → Type 0) : Type 0 where
  pub answer : Answer
  pub number : r ≡ packed (values_of answer)
  pub promised : Promised answer

-- the refusal's number with its place, and no counts
abbrev pub refused_values : Fault → Values
refused_values fault = record { word = number_of fault.refusal; firings = 0; tokens = 0; place = fault.place }

-- what becomes of an expression of 02, R-14: word 0 and the number of records in the place of the firings, or the refusal's number with its place
abbrev pub made_number : Result ℕ Fault → Values
made_number (Ok n) = record { word = 0; firings = n; tokens = 0; place = 0 }
made_number (Err fault) = refused_values fault

-- the value of an expression: word 0 and its 32 bits in the place of firings and tokens, or the refusal's number with its place
abbrev pub value_number : Result ℤ Fault → Values
value_number (Ok v) = record { word = 0; firings = bits_of v % 65536; tokens = bits_of v / 65536; place = 0 }
value_number (Err fault) = refused_values fault

-- the activities of a saved state: word 0, the held in the place of the firings and all enabled in that of the tokens, or the refusal's number with its place
abbrev pub tally_number : Result Tally Fault → Values
tally_number (Ok t) = record { word = 0; firings = t.held; tokens = t.enabled; place = 0 }
tally_number (Err fault) = refused_values fault

-- ---- the way back

-- all of them, in the order of 01's table without 15 and 16, which R-5 and R-6 took out; then 02's
abbrev pub refusals : List Refusal
refusals =
    GraphLength
    ∷ UnknownOperation
    ∷ FanOut
    ∷ BadArc
    ∷ BadSite
    ∷ BadInput
    ∷ BadStore
    ∷ LedgerFull
    ∷ SecondToken
    ∷ NoSuchCell
    ∷ SecondWrite
    ∷ OutOfRange
    ∷ Iteration
    ∷ TooDeep
    ∷ NoReturn
    ∷ ProfileFull
    ∷ NotLoopFree
    ∷ NotEnabled
    ∷ BadBound
    ∷ BadArray
    ∷ Undecided
    ∷ DamagedState
    ∷ BadExpression
    ∷ GraphTooLong
    ∷ []

-- the one of some with a number
abbrev pub refusal_with : List Refusal → ℕ → Option Refusal
refusal_with [] n = None
refusal_with (r ∷ rs) n = cond (eqb n (number_of r)) (Some r) (refusal_with rs n)

unfoldable pub refusal_of : ℕ → Option Refusal
refusal_of n = refusal_with refusals n

-- "The place is 0 unless refused."
abbrev pub unplaced : Outcome → (place : ℕ) → Option Outcome
unplaced o place = cond (eqb place 0) (Some o) None

abbrev pub placed : Option Refusal → (place : ℕ) → Option Outcome
placed (Some r) place = Some (Refused r place)
placed None place = None

-- the outcome with a word and a place
unfoldable pub outcome_numbered : (word place : ℕ) → Option Outcome
outcome_numbered word place =
    cond (eqb word 0) (unplaced Completed place)
    (cond (eqb word 100) (unplaced Spent place) (cond (eqb word 101) (unplaced Hung place) (placed (refusal_of word) place)))

abbrev pub answer_counted : Option Outcome → (firings tokens : ℕ) → Option Answer
answer_counted (Some o) firings tokens = Some (record { outcome = o; firings = firings; tokens = tokens })
answer_counted None firings tokens = None

-- the answer with a number; none where no outcome has the number's word and place
unfoldable pub unpacked : ℕ → Option Answer
unpacked n = answer_counted (outcome_numbered (n % 65536) (n / 281474976710656)) (n / 65536 % 65536) (n / 4294967296 % 65536)

-- the bounds of 02, R-3, as an answer: completed, with the most firings and the most tokens, or refused
abbrev pub answer_needed : Result Needs Fault → Answer
answer_needed (Ok n) = record { outcome = Completed; firings = n.firings; tokens = n.tokens }
answer_needed (Err fault) = record { outcome = Refused fault.refusal fault.place; firings = 0; tokens = 0 }

-- ---- what the cache of the plotter answers

-- what a run is given beside its bytes, in four numbers
unfoldable pub limits_in : List ℕ → Limits
limits_in l = record { budget = get_or l 0 0; bound = get_or l 1 0; ledger = get_or l 2 0; cells = get_or l 3 0 }

abbrev pub ended : Answer → (held : ℕ) → Ending.Ended
ended a held = record { answer = a; held = held }

-- 1 if what is kept of a run that ended so serves, else 0; a number that is no answer's serves nothing
abbrev pub serves_number : (kept : Request) → Option Answer → (held : ℕ) → (asked : Request) → ℕ
serves_number k (Some a) held q = cond (serves k (ended a held) q) 1 0
serves_number k None held q = 0

-- the promise of `ttda_serves`: if it says 1, what is kept of a run that ended so serves
pub record ServesNumber (kept : Request) (n held : ℕ) (asked : Request) (r : ℕ) : Type 0 where
  pub exactly : r ≡ serves_number kept (unpacked n) held asked
  pub holds : r ≡ 1 → (a : Answer) → unpacked n ≡ Some a → Served kept (ended a held) asked

-- ---- what printing answers and leaves

-- the number of bytes, and 0 where they do not fit: no text is empty
abbrev pub length_of : Result ℕ TooSmall → ℕ
length_of (Ok n) = n
length_of (Err _) = 0

-- 1 where there is no answer to print: no text is so short
abbrev pub print_answer : Option Answer → (listing cells out : List ℕ) → ℕ
print_answer (Some a) listing cells out = length_of (printed_of (printed a listing cells) out)
print_answer None listing cells out = 1

abbrev pub print_after : Option Answer → (listing cells out : List ℕ) → List ℕ
print_after (Some a) listing cells out = printed_out (printed a listing cells) out
print_after None listing cells out = out
