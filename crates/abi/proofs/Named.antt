-- A number that names an answer is that answer's. Assumes nothing.
use Rattle.std.specs.Prelude.{Option, Some, None}
use Prim.Native.Nat.{ℕ, ◌+◌, ◌*◌, ◌/◌, ◌%◌, ◌<◌}
use native.Mathlib.Omega.{arith}
use mathlib.Core.Path.{◌≡◌, refl, sym, ap, ◌∙◌}
use mathlib.Core.Bool.{Bool, true, false}
use mathlib.Core.List.{List, [], ◌∷◌}
use borrow.Author.Tests.{eqb-true}
use lib.Dec.{eqb}
use Rattle.rules.specs.Answer.{number_of, word_of, place_in, values_of}
use Rattle.rules.specs.declared.answer.Refusal.{Refusal}
use Rattle.rules.specs.declared.answer.Outcome.{Outcome}
use Rattle.rules.specs.declared.answer.Outcome.TheVariants.{Completed, Hung, Spent}
use Rattle.rules.specs.declared.answer.Answer.{Answer}
use Rattle.abi.specs.Numbers.{packed, refusals, refusal_with, refusal_of, unplaced, placed, outcome_numbered, unpacked}

-- ---- a number that names an answer is that answer's: no part of it is passed over

abbrev number_in : Option Refusal → ℕ
number_in (Some r) = number_of r
number_in None = 0

abbrev is_one : Option Refusal → ℕ
is_one (Some r) = 1
is_one None = 0

numbered : (rs : List Refusal) (n : ℕ) (r : Refusal) → refusal_with rs n ≡ Some r → number_of r ≡ n
numbered [] n r e =
    let z : ◌≡◌ {A = ℕ} 0 1 = ap is_one e in
    absurd (omega arith)
numbered (x ∷ rs) n r e = go (eqb n (number_of x)) refl (λ k. numbered rs n r k)
  where
    go : (b : Bool) → eqb n (number_of x) ≡ b → (refusal_with rs n ≡ Some r → number_of r ≡ n) → number_of r ≡ n
    go true t k = sym (ap number_in (rw t at e)) ∙ sym (eqb-true n (number_of x) t)
    go false t k = k (rw t at e)

abbrev word_in : Option Outcome → ℕ
word_in (Some o) = word_of o
word_in None = 0

abbrev place_of : Option Outcome → ℕ
place_of (Some o) = place_in o
place_of None = 0

abbrev is_ended : Option Outcome → ℕ
is_ended (Some o) = 1
is_ended None = 0

-- the word and the place are those of the outcome
abbrev Of : (word place : ℕ) → Outcome → Type 0
Of w p o = (word_of o ≡ w) × (place_in o ≡ p)

free : (q : Outcome) (w p : ℕ) (o : Outcome) → word_of q ≡ w → place_in q ≡ 0 → unplaced q p ≡ Some o → Of w p o
free q w p o hw hp e = go (eqb p 0) refl
  where
    go : (b : Bool) → eqb p 0 ≡ b → Of w p o
    go true t =
        let k = rw t at e in
        (sym (ap word_in k) ∙ hw, sym (ap place_of k) ∙ hp ∙ sym (eqb-true p 0 t))
    go false t =
        let z : ◌≡◌ {A = ℕ} 0 1 = ap is_ended (rw t at e) in
        absurd (omega arith)

refused : (x : Option Refusal) (w p : ℕ) (o : Outcome) → refusal_of w ≡ x → placed x p ≡ Some o → Of w p o
unfolding refusal_of
refused (Some r) w p o l e = (sym (ap word_in e) ∙ numbered refusals w r l, sym (ap place_of e))
refused None w p o l e =
    let z : ◌≡◌ {A = ℕ} 0 1 = ap is_ended e in
    absurd (omega arith)

named : (w p : ℕ) (o : Outcome) → outcome_numbered w p ≡ Some o → Of w p o
unfolding outcome_numbered
named w p o e = go (eqb w 0) (eqb w 100) (eqb w 101) refl refl refl
  where
    go : (b c d : Bool) → eqb w 0 ≡ b → eqb w 100 ≡ c → eqb w 101 ≡ d → Of w p o
    go true c d t u v = free Completed w p o (sym (eqb-true w 0 t)) refl (rw t at e)
    go false true d t u v = free Spent w p o (sym (eqb-true w 100 u)) refl (rw (t, u) at e)
    go false false true t u v = free Hung w p o (sym (eqb-true w 101 v)) refl (rw (t, u, v) at e)
    go false false false t u v = refused (refusal_of w) w p o refl (rw (t, u, v) at e)

-- a number in parts of 16 bits
low : (n : ℕ) → n % 65536 + n / 65536 * 65536 ≡ n
low n = omega arith

twice : (n : ℕ) → n / 4294967296 ≡ n / 65536 / 65536
twice n = omega arith

thrice : (n : ℕ) → n / 281474976710656 ≡ n / 65536 / 65536 / 65536
thrice n = omega arith

again : (n : ℕ) → n % 65536 % 65536 ≡ n % 65536
again n = omega arith

top : (n : ℕ) → n < 18446744073709551616 → n / 65536 / 65536 / 65536 % 65536 ≡ n / 65536 / 65536 / 65536
top n h = omega arith

parts : (n : ℕ) → n < 18446744073709551616
    → n % 65536 + n / 65536 % 65536 % 65536 * 65536 + n / 4294967296 % 65536 % 65536 * 4294967296 + n / 281474976710656 % 65536 * 281474976710656 ≡ n
parts n h =
    rw
    (again (n / 65536), again (n / 4294967296), twice n, thrice n, top n h)
    (omega (arith, low n, low (n / 65536), low (n / 65536 / 65536)))

abbrev answer_in : Option Answer → Answer → Answer
answer_in (Some a) b = a
answer_in None b = b

abbrev is_answered : Option Answer → ℕ
is_answered (Some a) = 1
is_answered None = 0

pub packed_unpacked : (n : ℕ) (a : Answer) → n < 18446744073709551616 → unpacked n ≡ Some a → packed (values_of a) ≡ n
unfolding unpacked
packed_unpacked n a h e = go (outcome_numbered (n % 65536) (n / 281474976710656)) refl
  where
    go : (x : Option Outcome) → outcome_numbered (n % 65536) (n / 281474976710656) ≡ x → packed (values_of a) ≡ n
    go (Some o) t =
        let k = named _ _ o t in
        let b = ap (λ u. values_of (answer_in u a)) (rw t at e) in
        ap packed (sym b) ∙ rw (k.0, k.1) (parts n h)
    go None t =
        let z : ◌≡◌ {A = ℕ} 0 1 = ap is_answered (rw t at e) in
        absurd (omega arith)
