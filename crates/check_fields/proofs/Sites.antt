-- The table by site that the check of the graph keeps: what it says of the records before, and what it says after one record more. Assumes nothing.
use Prim.Native.Nat.{ℕ, ◌≤◌, ◌<◌}
use native.Mathlib.Omega.{arith}
use mathlib.Core.Path.{◌≡◌, refl, sym, ap, ◌∙◌}
use mathlib.Core.Bool.{Bool, true, false, not, ◌&&◌, ◌||◌, cond}
use mathlib.Core.List.{List, [], ◌∷◌, ◌++◌}
use lib.ListN.{length, get_or, set, replicate, length-set, get_or-replicate}
use lib.Seq.{get_or-set_same, get_or-set_other}
use lib.Dec.{eqb, leb, ltb}
use lib.IntN.{ℤ, pos}
use borrow.Author.Tests.{eqb-true, eqb-false, not-true, not-false, ltb-true, ltb-false, lt-ltb, eq-eqb}
use Rattle.std.specs.Prelude.{Option, Some, None, SomeIff}
use Rattle.record.specs.declared.instruction.Instruction.{Instruction}
use Rattle.rules.specs.Check.{any, within, enters_site, other_return, good_site}
use Rattle.check_fields.specs.Sites.{small_of, enters_other, is_other, Sites, at_site}
use Rattle.check_fields.proofs.Turns.{or-false, any_append, and_true_left, and_true_right}
use Rattle.check_fields.proofs.Constants.{within_site, small_site, small_is}

pub no_sites : Sites [] (replicate 256 None)
no_sites site i h = ap (λ (e : Option ℕ). is_other e i) (sym (get_or-replicate 256 site None None h))

-- ---- a table by site after a record

pub length_at_site : {A : Type 0} (t : List A) (r : Instruction) (v : A) → length (at_site t r v) ≡ length t
unfolding at_site
length_at_site t r v = go (eqb r.code 8 && ltb (small_of r.constant) 256)
  where
    go : (b : Bool) → length (cond b (set t (small_of r.constant) v) t) ≡ length t
    go true = length-set t (small_of r.constant) v
    go false = refl

pub at_site_lem : {A : Type 0} (t : List A) (r : Instruction) (v : A) (site : ℕ) (d : A) → 256 ≤ length t → site < 256
    → get_or (at_site t r v) site d ≡ cond (enters_site (pos site) r) v (get_or t site d)
unfolding at_site enters_site
at_site_lem t r v site d n h = rw (small_site r.constant site h) (go (eqb r.code 8) (eqb k site) (ltb k 256) refl refl)
  where
    k : ℕ
    k = small_of r.constant

    go : (b e l : Bool) → eqb k site ≡ e → ltb k 256 ≡ l → get_or (cond (b && l) (set t k v) t) site d ≡ cond (b && e) v (get_or t site d)
    go false e l q w = refl
    go true false false q w = refl
    go true false true q w = get_or-set_other t k site v d (λ p. eqb-false k site q (sym p))
    go true true false q w = absurd (omega (arith, ltb-false k 256 w, eqb-true k site q))
    go true true true q w = rw (eqb-true k site q) (get_or-set_same t site v d (omega arith))

-- by the site of the record, where it has one
module _ {A : Type 0} (t : List A) (r : Instruction) (v : A) where
  pub at_site_some : (site : ℕ) → (r.code ≡ 8) × (small_of r.constant < 256) → site ≡ small_of r.constant → set t site v ≡ at_site t r v
  unfolding at_site
  at_site_some site h e = rw (e, eq-eqb r.code 8 h.0, lt-ltb (small_of r.constant) 256 h.1)

  pub at_site_none : ¬ ((r.code ≡ 8) × (small_of r.constant < 256)) → t ≡ at_site t r v
  unfolding at_site
  at_site_none h = go (eqb r.code 8) (ltb (small_of r.constant) 256) refl refl
    where
      go : (b l : Bool) → eqb r.code 8 ≡ b → ltb (small_of r.constant) 256 ≡ l → t ≡ cond (b && l) (set t (small_of r.constant) v) t
      go true true p q = absurd (h (eqb-true r.code 8 p, ltb-true (small_of r.constant) 256 q))
      go true false p q = refl
      go false l p q = refl

pub coded_site : (o : Option ℕ) (r : Instruction) → r.code ≡ 8 → SomeIff o (small_of r.constant < 256) (small_of r.constant)
    → SomeIff o ((r.code ≡ 8) × (small_of r.constant < 256)) (small_of r.constant)
coded_site None r e h = λ both. h both.1
coded_site (Some x) r e h = ((e, h.0), h.1)

-- ---- the returns of the records before

module _ (earlier : List Instruction) (t : List (Option ℕ)) (s : Sites earlier t) (r : Instruction) where
  -- another return for the record's own site, where that is one
  earlier_other : small_of r.constant < 256 → any (other_return r) earlier ≡ is_other (get_or t (small_of r.constant) None) r.second.instruction
  unfolding other_return
  earlier_other h =
      ap (λ (k : ℤ). any (λ e. enters_site k e && not (eqb e.second.instruction r.second.instruction)) earlier) (small_is r.constant h)
      ∙ s (small_of r.constant) r.second.instruction h

  -- of an ENTER
  pub enter_good : (r.code ≡ 8)
      → (within 1 255 r.constant && (eqb r.second.port 0 && not (is_other (get_or t (small_of r.constant) None) r.second.instruction))) ≡ good_site earlier r
  unfolding good_site
  enter_good e = rw (eq-eqb r.code 8 e) (go (within 1 255 r.constant) refl)
    where
      go : (b : Bool) → within 1 255 r.constant ≡ b
          → (b && (eqb r.second.port 0 && not (is_other (get_or t (small_of r.constant) None) r.second.instruction)))
          ≡ (b && (eqb r.second.port 0 && not (any (other_return r) earlier)))
      go false q = refl
      go true q =
          let h = and_true_right (leb 1 (small_of r.constant)) (ltb (small_of r.constant) 256) (sym (within_site r.constant) ∙ q) in
          rw (earlier_other (ltb-true (small_of r.constant) 256 h))

  -- the site's entry says what one record more says
  same_again : (e : Option ℕ) (j i : ℕ) → is_other e j ≡ false → (is_other e i || not (eqb j i)) ≡ not (eqb j i)
  same_again None j i q = refl
  same_again (Some m) j i q = rw (eqb-true m j (not-false (eqb m j) q)) (go (not (eqb j i)))
    where
      go : (b : Bool) → (b || b) ≡ b
      go true = refl
      go false = refl

  pub note_sites : length t ≡ 256 → good_site earlier r ≡ true → Sites (earlier ++ r ∷ []) (at_site t r (Some r.second.instruction))
  unfolding good_site enters_site
  note_sites n good site i h =
      any_append (enters_other site i) earlier (r ∷ [])
      ∙ rw (or-false (enters_other site i r), s site i h, at_site_lem t r (Some j) site None (omega (arith, n)) h) (go (enters_site (pos site) r) refl)
    where
      j : ℕ
      j = r.second.instruction

      go : (b : Bool) → enters_site (pos site) r ≡ b → (is_other (get_or t site None) i || (b && not (eqb j i))) ≡ is_other (cond b (Some j) (get_or t site None)) i
      go false q = or-false (is_other (get_or t site None) i)
      go true q =
          let e = and_true_left (eqb r.code 8) _ q in
          let p : small_of r.constant ≡ site = eqb-true (small_of r.constant) site (sym (small_site r.constant site h) ∙ and_true_right (eqb r.code 8) _ q) in
          let u = and_true_right (eqb r.second.port 0) (not (any (other_return r) earlier)) (and_true_right (within 1 255 r.constant) _ (rw e at good)) in
          let o : is_other (get_or t site None) j ≡ false =
          ap (λ (m : ℕ). is_other (get_or t m None) j) (sym p) ∙ sym (earlier_other (omega arith)) ∙ not-true (any (other_return r) earlier) u in
          same_again (get_or t site None) j i o
