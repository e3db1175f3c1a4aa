-- Laws of the printed text. It is made of answer, listing and cells alone: where these are equal, so are the bytes, and of an answer only 01's values
-- count. A decimal number is read back as itself, so different numbers have different digits. Assumes nothing.
use Prim.Native.Nat.{ℕ, zero, suc, ◌+◌, ◌-◌, ◌*◌, ◌/◌, ◌%◌, ◌≤◌, ◌<◌}
use native.Mathlib.Omega.{arith}
use mathlib.Core.Path.{◌≡◌, refl, sym, ap, ◌∙◌}
use mathlib.Core.Bool.{Bool, true, false, cond}
use mathlib.Core.List.{List, [], ◌∷◌, ◌++◌}
use borrow.Author.Tests.{ltb-true, ltb-false}
use lib.Dec.{eqb, ltb}
use Rattle.rules.specs.Answer.{Values, number_of, word_of, values_of}
use Rattle.rules.specs.declared.answer.Refusal.{Refusal}
use Rattle.rules.specs.declared.answer.Refusal.TheVariants.{GraphLength, UnknownOperation, FanOut, BadArc, BadSite, BadInput, BadStore, LedgerFull, SecondToken, NoSuchCell, SecondWrite, OutOfRange, Iteration, TooDeep, NoReturn, ProfileFull, NotLoopFree, NotEnabled, BadBound, BadArray, Undecided, DamagedState, BadExpression, GraphTooLong}
use Rattle.rules.specs.declared.answer.Outcome.{Outcome}
use Rattle.rules.specs.declared.answer.Outcome.TheVariants.{Completed, Hung, Spent, Refused}
use Rattle.rules.specs.declared.answer.Answer.{Answer}
use Rattle.text.specs.Words.{bytes}
use Rattle.text.specs.Same.{SameText}
use Rattle.text.specs.Read.{read_on, read}
use Rattle.text.specs.Text.{digit, decimal, line, outcome_fields, answer_line, printed}
use Rattle.text.proofs.Decimals.{decimal_digit, decimal_more}

-- ---- equal values print equal bytes

-- the fields of an outcome by its number, 0 for completed, 101 for hung and 100 for spent
abbrev word_fields : ℕ → List (List ℕ)
word_fields w = cond (eqb w 0) (bytes "completed" ∷ []) (cond (eqb w 101) (bytes "hung" ∷ []) (cond (eqb w 100) (bytes "spent" ∷ []) (bytes "refused" ∷ decimal w ∷ [])))

refusal_fields : (r : Refusal) → bytes "refused" ∷ decimal (number_of r) ∷ [] ≡ word_fields (number_of r)
refusal_fields GraphLength = refl
refusal_fields UnknownOperation = refl
refusal_fields FanOut = refl
refusal_fields BadArc = refl
refusal_fields BadSite = refl
refusal_fields BadInput = refl
refusal_fields BadStore = refl
refusal_fields LedgerFull = refl
refusal_fields SecondToken = refl
refusal_fields NoSuchCell = refl
refusal_fields SecondWrite = refl
refusal_fields OutOfRange = refl
refusal_fields Iteration = refl
refusal_fields TooDeep = refl
refusal_fields NoReturn = refl
refusal_fields ProfileFull = refl
refusal_fields NotLoopFree = refl
refusal_fields NotEnabled = refl
refusal_fields BadBound = refl
refusal_fields BadArray = refl
refusal_fields Undecided = refl
refusal_fields DamagedState = refl
refusal_fields BadExpression = refl
refusal_fields GraphTooLong = refl

fields_by_word : (o : Outcome) → outcome_fields o ≡ word_fields (word_of o)
fields_by_word Completed = refl
fields_by_word Hung = refl
fields_by_word Spent = refl
fields_by_word (Refused r place) = refusal_fields r

-- the first line of an answer's values
abbrev values_line : Values → List ℕ
values_line v = line (word_fields v.word ++ decimal v.firings ∷ decimal v.tokens ∷ decimal v.place ∷ [])

answer_by_values : (a : Answer) → answer_line a ≡ values_line (values_of a)
unfolding answer_line
answer_by_values a = rw (fields_by_word a.outcome)

pub same_first_line : (a b : Answer) → values_of a ≡ values_of b → answer_line a ≡ answer_line b
same_first_line a b e = answer_by_values a ∙ ap values_line e ∙ sym (answer_by_values b)

pub same_text : SameText
unfolding printed
same_text a b listing listing' cells cells' e p q = rw (same_first_line a b e, p, q)

-- ---- a decimal number is read back

read_append : (n : ℕ) (bs : List ℕ) (b : ℕ) → read_on n (bs ++ b ∷ []) ≡ read_on n bs * 10 + (b - 48)
read_append n [] b = refl
read_append n (x ∷ bs) b = read_append (n * 10 + (x - 48)) bs b

read_by : (steps n : ℕ) → n < steps → read (decimal n) ≡ n
read_by zero n h = absurd (omega arith)
read_by (suc s) n h = go (ltb n 10) refl (λ k. read_by s (n / 10) k)
  where
    go : (b : Bool) → ltb n 10 ≡ b → (n / 10 < s → read (decimal (n / 10)) ≡ n / 10) → read (decimal n) ≡ n
    go true e r = rw (decimal_digit n (ltb-true n 10 e)) (omega arith)
    go false e r =
        let g : 10 ≤ n = ltb-false n 10 e in
        let q = r (omega arith) in
        rw (decimal_more n g, read_append 0 (decimal (n / 10)) (digit (n % 10)), q) (omega arith)

pub decimal_back : (n : ℕ) → read (decimal n) ≡ n
decimal_back n = read_by (suc n) n (omega arith)

pub decimal_only : (m n : ℕ) → decimal m ≡ decimal n → m ≡ n
decimal_only m n e = sym (decimal_back m) ∙ ap read e ∙ decimal_back n
