-- Counting pairs. Each number has one partner at most, and some numbers are marked: if twice as many are marked as meet a marked partner below them, then every marked
-- one has a marked partner (`pairs_all`, `all_pairs`). Assumes nothing.
use Prim.Native.Nat.{ℕ, zero, suc, ◌+◌, ◌*◌, ◌≤◌, ◌<◌}
use mathlib.Core.Path.{◌≡◌, refl, sym, ◌∙◌}
use mathlib.Core.Bool.{Bool, true, false, not, ◌&&◌, ◌||◌, cond}
use native.Mathlib.Omega.{arith}
use native.Mathlib.Decide.{ℕ_discrete}
use Rattle.machine.proofs.View.{false_true}
use Rattle.saved.specs.Passes.{count_up_to}

-- ---- counts

pub count_same : (f g : ℕ → Bool) (n : ℕ) → ((k : ℕ) → k < n → f k ≡ g k) → count_up_to f n ≡ count_up_to g n
count_same f g zero h = refl
count_same f g (suc n) h = rw (h n (omega arith), count_same f g n (λ k l. h k (omega arith)))

-- one is counted no more
count_less : (f g : ℕ → Bool) (n j : ℕ) → j < n → f j ≡ true → g j ≡ false → ((k : ℕ) → k < n → ¬ (k ≡ j) → f k ≡ g k) → count_up_to f n ≡ suc (count_up_to g n)
count_less f g zero j l e z h = absurd (omega arith)
count_less f g (suc n) j l e z h = go (ℕ_discrete n j) (λ m. count_less f g n j m e z (λ k w. h k (omega arith)))
  where
    more : (b : Bool) (x y : ℕ) → x ≡ suc y → cond b (suc x) x ≡ suc (cond b (suc y) y)
    more true x y p = omega arith
    more false x y p = p

    go : Dec (n ≡ j) → (j < n → count_up_to f n ≡ suc (count_up_to g n)) → count_up_to f (suc n) ≡ suc (count_up_to g (suc n))
    go (yes p) ih = rw (p, e, z, count_same f g j (λ k m. h k (omega arith) (λ q. omega arith)))
    go (no p) ih = rw (h n (omega arith) p) (more (g n) (count_up_to f n) (count_up_to g n) (ih (omega arith)))

pub count_none : (f : ℕ → Bool) (n : ℕ) → count_up_to f n ≡ 0 → (k : ℕ) → k < n → f k ≡ false
count_none f zero e k l = absurd (omega arith)
count_none f (suc n) e k l = go (f n) refl (ℕ_discrete k n) (count_none f n)
  where
    go : (b : Bool) → f n ≡ b → Dec (k ≡ n) → (count_up_to f n ≡ 0 → (k : ℕ) → k < n → f k ≡ false) → f k ≡ false
    go true q d ih = absurd (omega (arith, rw q at e))
    go false q (yes p) ih = rw p q
    go false q (no p) ih = ih (rw q at e) k (omega arith)

pub none_count : (f : ℕ → Bool) (n : ℕ) → ((k : ℕ) → k < n → f k ≡ false) → count_up_to f n ≡ 0
none_count f zero h = refl
none_count f (suc n) h = rw (h n (omega arith)) (none_count f n (λ k l. h k (omega arith)))

-- ---- pairs

module _ (marked : ℕ → Bool) (partner : ℕ → ℕ → Bool) where
  -- a marked partner below n
  abbrev pub met : (k n : ℕ) → Bool
  met k zero = false
  met k (suc n) = (partner k n && marked n) || met k n

  abbrev pub closes : ℕ → Bool
  closes i = marked i && met i i

  abbrev pub lone : (n k : ℕ) → Bool
  lone n k = marked k && not (met k n)

  pub record Met (k n : ℕ) : Type 0 where
    pub place : ℕ
    pub below : place < n
    pub stands : partner k place ≡ true
    pub is_marked : marked place ≡ true

  pub met_at : (k n : ℕ) → met k n ≡ true → Met k n
  met_at k zero e = false_true e
  met_at k (suc n) e = go (partner k n) refl (marked n) refl e (met_at k n)
    where
      up : Met k n → Met k (suc n)
      up m = record { place = m.place; below = omega (arith, m.below); stands = m.stands; is_marked = m.is_marked }

      go : (p : Bool) → partner k n ≡ p → (m : Bool) → marked n ≡ m → ((p && m) || met k n) ≡ true → (met k n ≡ true → Met k n) → Met k (suc n)
      go true q true r z ih = record { place = n; below = omega arith; stands = q; is_marked = r }
      go true q false r z ih = up (ih z)
      go false q m r z ih = up (ih z)

  pub met_not : (k n : ℕ) → ((j : ℕ) → j < n → partner k j ≡ true → marked j ≡ true → ⊥) → met k n ≡ false
  met_not k n h = go (met k n) refl
    where
      go : (b : Bool) → met k n ≡ b → b ≡ false
      go true e = let m = met_at k n e in absurd (h m.place m.below m.stands m.is_marked)
      go false e = refl

  pub met_yes : (k n j : ℕ) → j < n → partner k j ≡ true → marked j ≡ true → met k n ≡ true
  met_yes k zero j l p m = absurd (omega arith)
  met_yes k (suc n) j l p m = go (ℕ_discrete j n) (λ l. met_yes k n j l p m)
    where
      or_true : (b : Bool) → (b || true) ≡ true
      or_true true = refl
      or_true false = refl

      go : Dec (j ≡ n) → (j < n → met k n ≡ true) → ((partner k n && marked n) || met k n) ≡ true
      go (yes q) ih = rw (← q, p, m)
      go (no q) ih = rw (ih (omega arith)) (or_true (partner k n && marked n))

  module _ (N : ℕ) (other : (k : ℕ) → k < N → partner k k ≡ false)
      (back : (k i : ℕ) → k < N → i < N → partner k i ≡ true → partner i k ≡ true)
      (one : (k i j : ℕ) → k < N → i < N → j < N → partner k i ≡ true → partner k j ≡ true → i ≡ j) where
    no_and : (a b : Bool) → (a ≡ true → ⊥) → (a && b) ≡ false
    no_and true b h = absurd (h refl)
    no_and false b h = refl

    -- one more, which is no partner of a marked one
    same : (n k : ℕ) → (marked k ≡ true → partner k n ≡ true → ⊥) → lone n k ≡ lone (suc n) k
    same n k h = go (marked k) h
      where
        go : (b : Bool) → (b ≡ true → partner k n ≡ true → ⊥) → (b && not (met k n)) ≡ (b && not ((partner k n && marked n) || met k n))
        go true w = rw (no_and (partner k n) (marked n) (w refl))
        go false w = refl

    pub pairs : (n : ℕ) → n ≤ N → count_up_to marked n ≡ count_up_to closes n * 2 + count_up_to (lone n) n
    pairs zero h = refl
    pairs (suc n) h = go (pairs n (omega arith)) (marked n) refl (met n n) refl
      where
        go : count_up_to marked n ≡ count_up_to closes n * 2 + count_up_to (lone n) n → (m : Bool) → marked n ≡ m → (b : Bool) → met n n ≡ b → count_up_to marked (suc n) ≡ count_up_to closes (suc n) * 2 + count_up_to (lone (suc n)) (suc n)
        go so false q b r = rw (q, ← count_same (lone n) (lone (suc n)) n (λ k l. rw q (unmarked (marked k) (partner k n) (met k n)))) so
          where
            unmarked : (a p m : Bool) → (a && not m) ≡ (a && not ((p && false) || m))
            unmarked a true m = refl
            unmarked a false m = refl
        go so true q false r = rw (q, other n (omega arith), r, ← count_same (lone n) (lone (suc n)) n lonely) (omega (arith, so))
          where
            lonely : (k : ℕ) → k < n → lone n k ≡ lone (suc n) k
            lonely k l = same n k (λ m p. false_true (sym r ∙ met_yes n n k l (back k n (omega arith) (omega arith) p) m))
        go so true q true r =
            let m = met_at n n r in
            let j = m.place in
            let below : j < N = omega (arith, m.below) in
            let there : partner j n ≡ true = back n j (omega arith) below m.stands in
            let before : lone n j ≡ true = rw (m.is_marked, met_not j n (λ i l p z. let e = one j i n below (omega arith) (omega arith) p there in omega arith)) in
            let after : lone (suc n) j ≡ false = rw (m.is_marked, there, q) in
            let w = count_less (lone n) (lone (suc n)) n j m.below before after (λ k l d. same n k (λ z p. d (one n k j (omega arith) (omega arith) below (back k n (omega arith) (omega arith) p) m.stands))) in
            rw (q, other n (omega arith), r) (omega (arith, so, w))

    -- the count says whether every marked one has a marked partner
    pub pairs_all : count_up_to closes N * 2 ≡ count_up_to marked N → (k : ℕ) → k < N → lone N k ≡ false
    pairs_all e = count_none (lone N) N (omega (arith, pairs N (omega arith)))

    pub all_pairs : ((k : ℕ) → k < N → lone N k ≡ false) → count_up_to closes N * 2 ≡ count_up_to marked N
    all_pairs h = omega (arith, pairs N (omega arith), none_count (lone N) N h)
