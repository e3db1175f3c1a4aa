-- The number of a path and its two words: each gives the other, whatever the number is. How ENTER and LEAVE move the words. Assumes nothing.
use Rattle.std.proofs.Common.{◌≡◌, ℕ, ◌+◌, ◌-◌, ◌*◌, ◌/◌, ◌%◌, ◌^◌, ◌<◌, ◌≤◌, Bool, true, false, ◌&&◌, eqb, sym, refl, ap, ◌∙◌, arith, eq-eqb, ne_eqb, eqb-true}
use borrow.Author.Tests.{eqb-false}
use Rattle.record.specs.declared.tag.Path.{Path}
use Rattle.std.specs.declared.cmp.Ordering.{Ordering}
use Rattle.std.specs.declared.cmp.Ordering.TheVariants.{Less, Equal, Greater}
use Rattle.std.specs.Ordering.{MatchOrdering, nat_cmp, ordering_then}
use Rattle.std.specs.Cmp.{nat_cmp_is, ranks}
use Rattle.record.specs.Calls.{most_levels}
use Rattle.record.specs.Paths.{path_number, path_words, root_path, is_root, same_path, compared_paths, PathFits}

pub equal_words : {a b : Path} → a.low ≡ b.low → a.high ≡ b.high → a ≡ b
equal_words p q = λ i. record { low = p i; high = q i }

pub number_words : (n : ℕ) → path_number (path_words n) ≡ n
unfolding path_number path_words
number_words n = omega arith

pub words_number : (p : Path) → p.low < 2 ^ 64 → path_words (path_number p) ≡ p
unfolding path_number path_words
words_number p h = equal_words (omega arith) (omega arith)

-- ---- the root's path

pub root_number : path_number root_path ≡ 0
unfolding path_number
root_number = refl

pub root_fits : PathFits root_path
root_fits = record { low = omega arith; high = omega arith }

pub is_root_lem : (p : Path) → p ≡ root_path → is_root p ≡ true
unfolding is_root path_number
is_root_lem p e = rw e

pub not_root : (p : Path) → (p ≡ root_path → ⊥) → is_root p ≡ false
unfolding is_root path_number
not_root p n = ne_eqb (p.low + 18446744073709551616 * p.high) 0 (λ e. n (equal_words (omega arith) (omega arith)))

-- where the lower word is 0, the higher one tells it
pub root_high : (p : Path) → p.low ≡ 0 → eqb p.high 0 ≡ is_root p
root_high p l = go (eqb p.high 0) refl
  where
    go : (t : Bool) → eqb p.high 0 ≡ t → t ≡ is_root p
    go true e = sym (is_root_lem p (equal_words l (eqb-true _ _ e)))
    go false e = sym (not_root p (λ f. eqb-false p.high 0 e (ap (λ (q : Path). q.high) f)))

pub root_words : (p : Path) → is_root p ≡ true → p ≡ root_path
unfolding is_root path_number
root_words p e =
    let z : p.low + 18446744073709551616 * p.high ≡ 0 = eqb-true _ _ e in
    equal_words (omega arith) (omega arith)

-- ---- the same path

pub same_path_lem : (a b : Path) → same_path a b ≡ true → a ≡ b
unfolding same_path
same_path_lem a b e = let w = words (eqb a.low b.low) (eqb a.high b.high) e in equal_words (eqb-true _ _ w.0) (eqb-true _ _ w.1)
  where
    words : (s t : Bool) → (s && t) ≡ true → (s ≡ true) × (t ≡ true)
    words true t f = (refl, f)
    words false t f = let z : ◌≡◌ {A = ℕ} 0 1 = cc in absurd (omega arith)

pub path_same : (a b : Path) → a ≡ b → same_path a b ≡ true
unfolding same_path
path_same a b e = rw (eq-eqb a.low b.low (ap (λ (p : Path). p.low) e), eq-eqb a.high b.high (ap (λ (p : Path). p.high) e))

-- of paths that fit, the number tells the path
pub number_tells : (a b : Path) → PathFits a → PathFits b → path_number a ≡ path_number b → a ≡ b
number_tells a b f g e = sym (words_number a f.low) ∙ ap path_words e ∙ words_number b g.low

-- ---- the order of two paths: the higher words decide, and where these are equal, the lower ones

pub compared_words : (a b : Path) → a.low < 2 ^ 64 → b.low < 2 ^ 64 → ordering_then (nat_cmp a.high b.high) (nat_cmp a.low b.low) ≡ compared_paths a b
unfolding compared_paths path_number
compared_words a b f g = nat_cmp_is _ _ _ (go _ _ (ranks a.high b.high) (ranks a.low b.low))
  where
    go : (h l : Ordering) → MatchOrdering h (a.high < b.high) (a.high ≡ b.high) (b.high < a.high) → MatchOrdering l (a.low < b.low) (a.low ≡ b.low) (b.low < a.low)
        → MatchOrdering (ordering_then h l) (path_number a < path_number b) (path_number a ≡ path_number b) (path_number b < path_number a)
    go Less l p q = omega arith
    go Greater l p q = omega arith
    go Equal Less p q = omega arith
    go Equal Equal p q = omega arith
    go Equal Greater p q = omega arith

-- ---- the words of a path that ENTER makes, and of the one that LEAVE finds

module _ (p : Path) where
  pub entered_words : (site iteration : ℕ) → site < 256 → iteration < 256
      → path_words (path_number p * 65536 + site * 256 + iteration)
      ≡ record { low = p.low % 281474976710656 * 65536 + site * 256 + iteration; high = p.high * 65536 + p.low / 281474976710656 }
  unfolding path_number path_words
  entered_words site iteration s i = equal_words (omega arith) (omega arith)

  pub left_words : p.low < 2 ^ 64 → path_words (path_number p / 65536) ≡ record { low = p.low / 65536 + p.high % 65536 * 281474976710656; high = p.high / 65536 }
  unfolding path_number path_words
  left_words h = equal_words (omega arith) (omega arith)

  -- a level of the higher word stands above what is left of the lower one
  pub lowered_fits : p.low < 2 ^ 64 → p.low / 65536 + p.high % 65536 * 281474976710656 < 2 ^ 64
  lowered_fits h =
      let rest : p.low / 65536 < 281474976710656 = omega arith in
      let level : p.high % 65536 < 65536 = omega arith in
      below (p.low / 65536) (p.high % 65536) rest level
    where
      below : (a b : ℕ) → a < 281474976710656 → b < 65536 → a + b * 281474976710656 < 2 ^ 64
      below a b f g = omega arith

  -- the higher word tells the most levels
  pub shallow : p.low < 2 ^ 64 → p.high < 281474976710656 → path_number p < 65536 ^ (most_levels - 1)
  unfolding path_number
  shallow h d = omega arith

  pub deep : 281474976710656 ≤ p.high → 65536 ^ (most_levels - 1) ≤ path_number p
  unfolding path_number
  deep d = omega arith

  -- site and iteration are in the lower word
  pub left_site : path_number p / 256 % 256 ≡ p.low / 256 % 256
  unfolding path_number
  left_site = omega arith

  pub left_iteration : path_number p % 256 ≡ p.low % 256
  unfolding path_number
  left_iteration = omega arith

-- ---- what ENTER and LEAVE make fits two words

pub entered_fits : (p : Path) → PathFits p → path_number p < 65536 ^ (most_levels - 1) → (site iteration : ℕ) → site < 256 → iteration < 256
    → PathFits (path_words (path_number p * 65536 + site * 256 + iteration))
unfolding path_number
entered_fits p f d site iteration s i =
    let high : p.high < 281474976710656 = omega arith in
    let rest : p.low % 281474976710656 < 281474976710656 = omega arith in
    let oldest : p.low / 281474976710656 < 65536 = omega (arith, f.low) in
    rw (entered_words p site iteration s i) (record { low = omega arith; high = omega arith })

pub left_fits : (p : Path) → PathFits p → PathFits (path_words (path_number p / 65536))
left_fits p f =
    let high = f.high in
    rw (left_words p f.low) (record { low = lowered_fits p f.low; high = omega arith })
