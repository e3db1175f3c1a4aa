-- A signed constant against 0 to 255: the tests of the rules as tests of `small_of`. Assumes nothing.
use Prim.Native.Nat.{ℕ, ◌≤◌, ◌<◌}
use native.Mathlib.Omega.{arith}
use mathlib.Core.Path.{◌≡◌, refl, sym, ap, ◌∙◌}
use mathlib.Core.Bool.{Bool, true, false, ◌&&◌, cond}
use lib.Dec.{eqb, leb, ltb}
use lib.IntN.{ℤ, pos, negsuc, nat_abs}
use borrow.Author.Tests.{leb-true, leb-false, le-leb, lt-leb, lt-ltb, le-ltb, ne_eqb, eqb-true, eqb-false}
use mir.Syntax.{w32}
use mir.Val.{SFits, of_z}
use mir.Facts.{sfits_lit}
use Rattle.std.specs.Prelude.{Option, Some, None, Result, Ok, Err, OkIff, SomeIff, is_some, unsigned_abs}
use Rattle.std.specs.Int.{FitsUnsignedBits}
use Rattle.std.specs.Result.{result_ok}
use Rattle.arithmetic.specs.Arithmetic.{eq_z}
use Rattle.arithmetic.proofs.Signed.{same_bits}
use Rattle.arithmetic.proofs.Ranged.{eq_eq_z, ne_eq_z}
use Rattle.rules.specs.Check.{within}
use Rattle.check_fields.specs.Sites.{small_of}
use Rattle.check_fields.proofs.Turns.{and-true, and_true_left, and_true_right}

pub within_small : (k : ℤ) → within 0 255 k ≡ ltb (small_of k) 256
unfolding within small_of
within_small (pos n) = go (leb n 255) refl
  where
    go : (b : Bool) → leb n 255 ≡ b → (leb 0 n && b) ≡ ltb (cond b n 256) 256
    go true e = rw (le-leb 0 n (omega arith), lt-ltb n 256 (omega (arith, leb-true n 255 e)))
    go false e = rw (le-leb 0 n (omega arith))
within_small (negsuc n) = refl

-- of 0 to a number below 256
pub within_few : (n : ℕ) → n < 256 → (k : ℤ) → within 0 n k ≡ leb (small_of k) n
unfolding within small_of
within_few n h (pos m) = go (leb m 255) refl
  where
    go : (b : Bool) → leb m 255 ≡ b → (leb 0 m && leb m n) ≡ leb (cond b m 256) n
    go true e = rw (le-leb 0 m (omega arith))
    go false e = rw (le-leb 0 m (omega arith), lt-leb m n (omega (arith, leb-false m 255 e)), lt-leb 256 n (omega arith))
within_few n h (negsuc m) = sym (lt-leb 256 n (omega arith))

pub within_site : (k : ℤ) → within 1 255 k ≡ (leb 1 (small_of k) && ltb (small_of k) 256)
unfolding within small_of
within_site (pos n) = go (leb n 255) refl
  where
    go : (b : Bool) → leb n 255 ≡ b → (leb 1 n && b) ≡ (leb 1 (cond b n 256) && ltb (cond b n 256) 256)
    go true e = rw (lt-ltb n 256 (omega (arith, leb-true n 255 e)))
    go false e = rw (le-leb 1 n (omega (arith, leb-false n 255 e)))
within_site (negsuc n) = refl

-- a constant that is small is a site's
pub small_site : (k : ℤ) (site : ℕ) → site < 256 → eq_z k (pos site) ≡ eqb (small_of k) site
unfolding small_of
small_site (pos n) site h = go (leb n 255) refl
  where
    go : (b : Bool) → leb n 255 ≡ b → eqb n site ≡ eqb (cond b n 256) site
    go true e = refl
    go false e = ne_eqb n site (λ q. omega (arith, leb-false n 255 e)) ∙ sym (ne_eqb 256 site (λ q. omega arith))
small_site (negsuc n) site h = sym (ne_eqb 256 site (λ q. omega arith))

pub small_is : (k : ℤ) → small_of k < 256 → k ≡ pos (small_of k)
unfolding small_of
small_is (pos n) h = go (leb n 255) h
  where
    go : (b : Bool) → cond b n 256 < 256 → pos n ≡ pos (cond b n 256)
    go true h = refl
    go false h = absurd (omega arith)
small_is (negsuc n) h = absurd (omega arith)

pub within_is : (a b : ℕ) (k : ℤ) → within a b k ≡ true → (k ≡ pos (nat_abs k)) × (a ≤ nat_abs k) × (nat_abs k ≤ b)
unfolding within
within_is a b (pos n) e = (refl, leb-true a n (and_true_left (leb a n) (leb n b) e), leb-true n b (and_true_right (leb a n) (leb n b) e))
within_is a b (negsuc n) e = let z : ◌≡◌ {A = ℕ} 0 1 = cc in absurd (omega arith)

-- what the conversion into a byte gives
pub small_converted : {E : Type 0} (r : Result ℕ E) (k : ℤ) → OkIff r (FitsUnsignedBits 8 k) (unsigned_abs k) → SomeIff (result_ok r) (small_of k < 256) (small_of k)
unfolding small_of
small_converted (Ok x) (pos n) h = rw (le-leb n 255 (omega (arith, h.0))) h
small_converted (Ok x) (negsuc n) h = absurd h.0
small_converted (Err e) (pos n) h = go (leb n 255) refl
  where
    go : (b : Bool) → leb n 255 ≡ b → ¬ (cond b n 256 < 256)
    go true p l = h l
    go false p l = omega (arith, l)
small_converted (Err e) (negsuc n) h = λ l. omega (arith, l)

module _ (k : ℤ) where
  pub within_none : ¬ (small_of k < 256) → within 1 255 k ≡ false
  within_none h = rw (within_site k, le-ltb (small_of k) 256 (omega (arith, h))) (and_false (leb 1 (small_of k)))
    where
      and_false : (b : Bool) → (b && false) ≡ false
      and_false true = refl
      and_false false = refl

  pub within_some : small_of k < 256 → within 1 255 k ≡ leb 1 (small_of k)
  within_some h = rw (within_site k, lt-ltb (small_of k) 256 h) (and-true (leb 1 (small_of k)))

  -- whether there is one
  pub some_small : (o : Option ℕ) → SomeIff o (small_of k < 256) (small_of k) → is_some o ≡ within 0 255 k
  some_small (Some x) h = sym (within_small k ∙ lt-ltb (small_of k) 256 h.0)
  some_small None h = sym (within_small k ∙ le-ltb (small_of k) 256 (omega (arith, h)))

-- a number is 0 if its bits are
pub zero_bits : (k : ℤ) → SFits w32 k → eqb (of_z w32 k) 0 ≡ eq_z k (pos 0)
zero_bits k f = go (eqb (of_z w32 k) 0) refl
  where
    go : (b : Bool) → eqb (of_z w32 k) 0 ≡ b → b ≡ eq_z k (pos 0)
    go true e = sym (eq_eq_z (same_bits f (sfits_lit tt) (eqb-true (of_z w32 k) 0 e)))
    go false e = sym (ne_eq_z k (pos 0) (λ q. eqb-false (of_z w32 k) 0 e (ap (of_z w32) q)))
