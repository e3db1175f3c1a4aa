-- 01, "The answer and the refusals": an answer in this paper's numbers. Assumes nothing.
use Rattle.std.specs.Prelude.{ℕ, Result, Ok, Err}
use Rattle.rules.specs.declared.answer.Refusal.{Refusal}
use Rattle.rules.specs.declared.answer.Refusal.TheVariants.{GraphLength, UnknownOperation, FanOut, BadArc, BadSite, BadInput, BadStore, LedgerFull, SecondToken, NoSuchCell, SecondWrite, OutOfRange, Iteration, TooDeep, NoReturn, ProfileFull, NotLoopFree, NotEnabled, BadBound, BadArray, Undecided, DamagedState, BadExpression, GraphTooLong}
use Rattle.rules.specs.declared.answer.Outcome.{Outcome}
use Rattle.rules.specs.declared.answer.Outcome.TheVariants.{Completed, Hung, Spent, Refused}
use Rattle.rules.specs.declared.answer.Answer.{Answer}
use Rattle.rules.specs.declared.answer.Fault.{Fault}
use Rattle.rules.specs.declared.answer.Needs.{Needs}
use Rattle.rules.specs.Check.{Checked}

-- the column "No.", without 15 and 16, which R-5 and R-6 took out; then 02's
abbrev pub number_of : Refusal → ℕ
number_of GraphLength = 1
number_of UnknownOperation = 2
number_of FanOut = 3
number_of BadArc = 4
number_of BadSite = 5
number_of BadInput = 6
number_of BadStore = 7
number_of LedgerFull = 8
number_of SecondToken = 9
number_of NoSuchCell = 10
number_of SecondWrite = 11
number_of OutOfRange = 12
number_of Iteration = 13
number_of TooDeep = 14
number_of NoReturn = 17
number_of ProfileFull = 18
number_of NotLoopFree = 19
number_of NotEnabled = 20
number_of BadBound = 21
number_of BadArray = 22
number_of Undecided = 23
number_of DamagedState = 24
number_of BadExpression = 25
number_of GraphTooLong = 26

-- "An answer is completed, spent or refused with its number", or hung: one number for the four, 0 for completed, 100 for spent and 101 for hung
abbrev pub word_of : Outcome → ℕ
word_of Completed = 0
word_of Hung = 101
word_of Spent = 100
word_of (Refused r place) = number_of r

-- "The place is 0 unless refused."
abbrev pub place_in : Outcome → ℕ
place_in Completed = 0
place_in Hung = 0
place_in Spent = 0
place_in (Refused r place) = place

-- "each carries firings, tokens and a place"
pub record Values : Type 0 where
  pub word : ℕ
  pub firings : ℕ
  pub tokens : ℕ
  pub place : ℕ

abbrev pub values_of : Answer → Values
values_of a = record { word = word_of a.outcome; firings = a.firings; tokens = a.tokens; place = place_in a.outcome }

-- of a check: one that failed has the values of the answer that it leads to, "0 firings and 0 tokens", and one that passed has none but zeros
abbrev pub values_checked : Checked → Values
values_checked (Ok _) = record { word = 0; firings = 0; tokens = 0; place = 0 }
values_checked (Err fault) = record { word = number_of fault.refusal; firings = 0; tokens = 0; place = fault.place }

-- of the bounds of 02, R-3: word 0 and the two bounds in the place of firings and tokens, or the refusal's number with its place
abbrev pub values_needed : Result Needs Fault → Values
values_needed (Ok needs) = record { word = 0; firings = needs.firings; tokens = needs.tokens; place = 0 }
values_needed (Err fault) = record { word = number_of fault.refusal; firings = 0; tokens = 0; place = fault.place }
