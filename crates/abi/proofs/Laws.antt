-- The number of an answer whose firings, tokens and place have 16 bits gives the answer back. Assumes nothing.
use Rattle.std.specs.Prelude.{Some}
use Prim.Native.Nat.{ℕ, ◌/◌, ◌%◌, ◌<◌}
use native.Mathlib.Omega.{arith}
use mathlib.Core.Path.{◌≡◌, refl}
use Rattle.rules.specs.Answer.{Values, number_of, word_of, place_in, values_of}
use Rattle.rules.specs.declared.answer.Refusal.{Refusal}
use Rattle.rules.specs.declared.answer.Refusal.TheVariants.{GraphLength, UnknownOperation, FanOut, BadArc, BadSite, BadInput, BadStore, LedgerFull, SecondToken, NoSuchCell, SecondWrite, OutOfRange, Iteration, TooDeep, NoReturn, ProfileFull, NotLoopFree, NotEnabled, BadBound, BadArray, Undecided, DamagedState, BadExpression, GraphTooLong}
use Rattle.rules.specs.declared.answer.Outcome.{Outcome}
use Rattle.rules.specs.declared.answer.Outcome.TheVariants.{Completed, Hung, Spent, Refused}
use Rattle.rules.specs.declared.answer.Answer.{Answer}
use Rattle.abi.specs.Numbers.{packed, refusal_of, outcome_numbered, unpacked}

-- ---- an answer is recovered from its number

refusal_back : (r : Refusal) (place : ℕ) → outcome_numbered (number_of r) place ≡ Some (Refused r place)
unfolding outcome_numbered refusal_of
refusal_back GraphLength place = refl
refusal_back UnknownOperation place = refl
refusal_back FanOut place = refl
refusal_back BadArc place = refl
refusal_back BadSite place = refl
refusal_back BadInput place = refl
refusal_back BadStore place = refl
refusal_back LedgerFull place = refl
refusal_back SecondToken place = refl
refusal_back NoSuchCell place = refl
refusal_back SecondWrite place = refl
refusal_back OutOfRange place = refl
refusal_back Iteration place = refl
refusal_back TooDeep place = refl
refusal_back NoReturn place = refl
refusal_back ProfileFull place = refl
refusal_back NotLoopFree place = refl
refusal_back NotEnabled place = refl
refusal_back BadBound place = refl
refusal_back BadArray place = refl
refusal_back Undecided place = refl
refusal_back DamagedState place = refl
refusal_back BadExpression place = refl
refusal_back GraphTooLong place = refl

outcome_back : (o : Outcome) → outcome_numbered (word_of o) (place_in o) ≡ Some o
unfolding outcome_numbered
outcome_back Completed = refl
outcome_back Hung = refl
outcome_back Spent = refl
outcome_back (Refused r place) = refusal_back r place

pub number_small : (r : Refusal) → number_of r < 65536
number_small GraphLength = omega arith
number_small UnknownOperation = omega arith
number_small FanOut = omega arith
number_small BadArc = omega arith
number_small BadSite = omega arith
number_small BadInput = omega arith
number_small BadStore = omega arith
number_small LedgerFull = omega arith
number_small SecondToken = omega arith
number_small NoSuchCell = omega arith
number_small SecondWrite = omega arith
number_small OutOfRange = omega arith
number_small Iteration = omega arith
number_small TooDeep = omega arith
number_small NoReturn = omega arith
number_small ProfileFull = omega arith
number_small NotLoopFree = omega arith
number_small NotEnabled = omega arith
number_small BadBound = omega arith
number_small BadArray = omega arith
number_small Undecided = omega arith
number_small DamagedState = omega arith
number_small BadExpression = omega arith
number_small GraphTooLong = omega arith

word_small : (o : Outcome) → word_of o < 65536
word_small Completed = omega arith
word_small Hung = omega arith
word_small Spent = omega arith
word_small (Refused r place) = number_small r

-- each of the four parts stands for itself
abbrev Small : Values → Type 0
Small v = (v.word < 65536) × (v.firings < 65536) × (v.tokens < 65536) × (v.place < 65536)

word_part : (v : Values) → Small v → packed v % 65536 ≡ v.word
word_part v h = omega (arith, h.0, h.1, h.2, h.3)

firings_part : (v : Values) → Small v → packed v / 65536 % 65536 ≡ v.firings
firings_part v h = omega (arith, h.0, h.1, h.2, h.3)

tokens_part : (v : Values) → Small v → packed v / 4294967296 % 65536 ≡ v.tokens
tokens_part v h = omega (arith, h.0, h.1, h.2, h.3)

place_part : (v : Values) → Small v → packed v / 281474976710656 ≡ v.place
place_part v h = omega (arith, h.0, h.1, h.2, h.3)

-- its firings, tokens and place have 16 bits each
abbrev pub Fits : Answer → Type 0
Fits a = (a.firings < 65536) × (a.tokens < 65536) × (place_in a.outcome < 65536)

pub unpacked_packed : (a : Answer) → Fits a → unpacked (packed (values_of a)) ≡ Some a
unfolding unpacked
unpacked_packed a h =
    let s : Small (values_of a) = (word_small a.outcome, h.0, h.1, h.2) in
    let v = values_of a in
    rw (word_part v s, firings_part v s, tokens_part v s, place_part v s, outcome_back a.outcome)
