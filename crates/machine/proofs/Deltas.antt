-- What an effect does to a state, by key and by cell: the outputs and where their content comes from, what it writes and reads (`Delta`), what it leaves of the
-- cells; and the operands of a tag. Assumes nothing.
use mathlib.Core.Path.{◌≡◌, refl, sym, ap, ◌∙◌}
use mathlib.Core.List.{List}
use mathlib.Core.Option.{Option, none, some}
use mathlib.Core.Bool.{Bool, true, false, cond}
use Prim.Native.Nat.{ℕ, zero, suc, ◌<◌}
use native.Mathlib.Decide.{ℕ_discrete}
use native.Mathlib.Omega.{arith}
use Rattle.machine.specs.Machine.{Key, Content, live, spent, deferred, Cell, absent, waiting, present}
use Rattle.machine.specs.Machine.{when, on_option, live_value, cell_read, content_read, Operands, all_there, two_values}

-- ---- small tools

pub when_yes {ℓ κ} : {P : Type ℓ} {A : Type κ} (d : Dec P) (a b : A) → P → when d a b ≡ a
when_yes (yes p) a b h = refl
when_yes (no n) a b h = absurd (n h)

pub when_no {ℓ κ} : {P : Type ℓ} {A : Type κ} (d : Dec P) (a b : A) → ¬ P → when d a b ≡ b
when_no (yes p) a b h = absurd (h p)
when_no (no n) a b h = refl

pub none_some {ℓ} : {A : Type 0} {B : Type ℓ} {a : A} → none ≡ some a → B
none_some p = absurd (let z : ◌≡◌ {A = ℕ} 0 1 = cc in omega arith)

pub false_true {ℓ} : {B : Type ℓ} → false ≡ true → B
false_true p = absurd (let z : ◌≡◌ {A = ℕ} 0 1 = cc in omega arith)

abbrev pub omap : {A B : Type 0} → (A → B) → Option A → Option B
omap f none = none
omap f (some a) = some (f a)

abbrev pub or_else : {A : Type 0} → Option A → Option A → Option A
or_else none y = y
or_else (some x) y = some x

abbrev pub given : {A : Type 0} → Bool → A → Option A
given true a = some a
given false a = none

pub key_path : {T : Type 0} {a b : Key T} → a.tag ≡ b.tag → a.port ≡ b.port → a ≡ b
key_path p q = λ i. record { tag = p i; port = q i }

pub both_none : {A C : Type 0} (f : A → C) (x : Option A) (b : Bool) (c : C) → or_else (omap f x) (given b c) ≡ none → (x ≡ none) × (b ≡ false)
both_none f none false c e = (refl, refl)
both_none f none true c e = none_some (sym e)
both_none f (some a) b c e = none_some (sym e)

-- ---- what an effect does to a state

-- where an output's content comes from: the effect, or a cell
pub data Source (W : Type 0) : Type 0 where
  value : W → Source W
  fetched : (cell : ℕ) → Source W

abbrev pub resolve : {W : Type 0} → (ℕ → Cell W) → Source W → Content W
resolve cell (value v) = live v
resolve cell (fetched c) = content_read c (cell c)

-- what the writes make of a token
abbrev pub settle : {W : Type 0} → (ℕ → Option W) → Content W → Content W
settle writes (live v) = live v
settle writes (spent v) = spent v
settle writes (deferred c) = on_option (writes c) (deferred c) live

abbrev pub only_at : {A : Type 0} → ℕ → A → A → ℕ → A
only_at c a b i = when (ℕ_discrete i c) a b

abbrev pub cell_step : {W : Type 0} → Option W → Bool → Cell W → Cell W
cell_step (some v) r x = present v
cell_step none true x = cell_read x
cell_step none false x = x

abbrev pub NotPresent : {W : Type 0} → Cell W → Type 0
NotPresent absent = Unit {0}
NotPresent waiting = Unit {0}
NotPresent (present v) = ⊥

abbrev pub Unwritten : {W : Type 0} → (ℕ → Cell W) → (ℕ → Option W) → Type 0
Unwritten {W} cell writes = (c : ℕ) (v : W) → writes c ≡ some v → NotPresent (cell c)

-- outputs, all with one content; writes and reads by cell number
pub record Delta (T W : Type 0) : Type 0 where
  pub keys : List (Key T)
  pub source : Source W
  pub writes : ℕ → Option W
  pub reads : ℕ → Bool

abbrev pub cell_after : {T W : Type 0} → Delta T W → (ℕ → Cell W) → ℕ → Cell W
cell_after d cell c = cell_step (d.writes c) (d.reads c) (cell c)

-- ---- cells

module _ {W : Type 0} where
  pub cell_swap : (f g : Option W) (p q : Bool) (x : Cell W) → ((v : W) → g ≡ some v → NotPresent (cell_step f p x)) → cell_step g q (cell_step f p x) ≡ cell_step f p (cell_step g q x)
  cell_swap (some v) (some w) p q x h = absurd (h w refl)
  cell_swap (some v) none p true x h = refl
  cell_swap (some v) none p false x h = refl
  cell_swap none (some w) true q x h = refl
  cell_swap none (some w) false q x h = refl
  cell_swap none none true true x h = refl
  cell_swap none none true false x h = refl
  cell_swap none none false true x h = refl
  cell_swap none none false false x h = refl

  pub not_before : (f : Option W) (p : Bool) (x : Cell W) → NotPresent (cell_step f p x) → NotPresent x
  not_before f p absent h = tt
  not_before f p waiting h = tt
  not_before (some v) p (present w) h = h
  not_before none true (present w) h = h
  not_before none false (present w) h = h

  pub not_after : (f g : Option W) (p q : Bool) (x : Cell W) (v : W) → f ≡ some v → NotPresent x → ((w : W) → g ≡ some w → NotPresent (cell_step f p x)) → NotPresent (cell_step g q x)
  not_after (some u) (some w) p q x v e n h = h w refl
  not_after none (some w) p q x v e n h = none_some e
  not_after f none p true absent v e n h = tt
  not_after f none p true waiting v e n h = tt
  not_after f none p true (present w) v e n h = n
  not_after f none p false x v e n h = n

  -- what is settled later is what would have been found later
  later_absent : (c : ℕ) (f : Option W) (r : Bool) → on_option f (deferred c) live ≡ content_read c (cell_step f r absent)
  later_absent c none true = refl
  later_absent c none false = refl
  later_absent c (some v) r = refl

  later_waiting : (c : ℕ) (f : Option W) (r : Bool) → on_option f (deferred c) live ≡ content_read c (cell_step f r waiting)
  later_waiting c none true = refl
  later_waiting c none false = refl
  later_waiting c (some v) r = refl

  later_present : (c : ℕ) (f : Option W) (r : Bool) (u : W) → ((v : W) → f ≡ some v → ⊥) → live u ≡ content_read c (cell_step f r (present u))
  later_present c none true u h = refl
  later_present c none false u h = refl
  later_present c (some v) r u h = absurd (h v refl)

  later_at : (c : ℕ) (f : ℕ → Option W) (r : Bool) (x : Cell W) → ((v : W) → f c ≡ some v → NotPresent x) → settle f (content_read c x) ≡ content_read c (cell_step (f c) r x)
  later_at c f r absent h = later_absent c (f c) r
  later_at c f r waiting h = later_waiting c (f c) r
  later_at c f r (present u) h = later_present c (f c) r u h

  pub later : {T : Type 0} (d : Delta T W) (cell : ℕ → Cell W) → Unwritten cell d.writes → (o : Source W) → settle d.writes (resolve cell o) ≡ resolve (cell_after d cell) o
  later d cell h (value v) = refl
  later d cell h (fetched c) = later_at c d.writes (d.reads c) (cell c) (h c)

  -- two writes of different cells commute
  settle_swap_at : (f g : ℕ → Option W) (c : ℕ) (p q : Option W) → f c ≡ p → g c ≡ q → ((v w : W) → p ≡ some v → q ≡ some w → ⊥)
      → settle g (on_option p (deferred c) live) ≡ settle f (on_option q (deferred c) live)
  settle_swap_at f g c none none ef eg h = rw (ef, eg)
  settle_swap_at f g c none (some w) ef eg h = rw eg
  settle_swap_at f g c (some v) none ef eg h = rw ef
  settle_swap_at f g c (some v) (some w) ef eg h = absurd (h v w refl refl)

  pub settle_swap : (f g : ℕ → Option W) (y : Content W) → ((c : ℕ) (v w : W) → f c ≡ some v → g c ≡ some w → ⊥) → settle g (settle f y) ≡ settle f (settle g y)
  settle_swap f g (live v) h = refl
  settle_swap f g (spent v) h = refl
  settle_swap f g (deferred c) h = settle_swap_at f g c (f c) (g c) refl refl (h c)

-- ---- operands

pub live_of : {W : Type 0} (x : Option (Content W)) (v : W) → live_value x ≡ some v → x ≡ some (live v)
live_of none v e = none_some e
live_of (some (live u)) v e = ap (λ o. omap live o) e
live_of (some (spent u)) v e = none_some e
live_of (some (deferred c)) v e = none_some e

module _ {W : Type 0} where
  pub both_parts : {p : Operands W} (b : Bool) (x : Option (Operands W)) → cond b x none ≡ some p → (b ≡ true) × (x ≡ some p)
  both_parts true x e = (refl, e)
  both_parts false x e = none_some e

  pub below_at : (f : ℕ → Option W) (n q : ℕ) → all_there f n ≡ true → q < n → (v : W) × (f q ≡ some v)
  below_at f zero q e h = absurd (omega arith)
  below_at f (suc n) q e h = go (f n) refl e (λ r. below_at f n q r)
    where
      here : (v : W) → f n ≡ some v → (q < n → (u : W) × (f q ≡ some u)) → Dec (q ≡ n) → (u : W) × (f q ≡ some u)
      here v g rec (yes p) = (v, ap f p ∙ g)
      here v g rec (no ne) = rec (omega arith)

      go : (x : Option W) → f n ≡ x → on_option x false (λ v. all_there f n) ≡ true → (all_there f n ≡ true → q < n → (u : W) × (f q ≡ some u)) → (u : W) × (f q ≡ some u)
      go none g r rec = false_true r
      go (some v) g r rec = here v g (rec r) (ℕ_discrete q n)

  pub below_all_lem : (f : ℕ → Option W) (n : ℕ) → ((q : ℕ) → q < n → (v : W) × (f q ≡ some v)) → all_there f n ≡ true
  below_all_lem f zero h = refl
  below_all_lem f (suc n) h = let (v, e) = h n (omega arith) in rw e (below_all_lem f n (λ q l. h q (omega arith)))

  pub two_kept : {p : Operands W} (n : ℕ) (x y x' y' : Option W) → two_values n x y ≡ some p → (0 < n → (v : W) → x ≡ some v → x' ≡ some v) → (1 < n → (v : W) → y ≡ some v → y' ≡ some v)
      → two_values n x' y' ≡ some p
  two_kept zero x y x' y' e h k = none_some e
  two_kept (suc zero) none y x' y' e h k = none_some e
  two_kept (suc zero) (some v) y x' y' e h k = rw (h (omega arith) v refl) e
  two_kept (suc (suc n)) none y x' y' e h k = none_some e
  two_kept (suc (suc n)) (some v) none x' y' e h k = none_some e
  two_kept (suc (suc n)) (some v) (some w) x' y' e h k = rw (h (omega arith) v refl, k (omega arith) w refl) e

  pub positive : {p : Operands W} (n : ℕ) (x y : Option W) → two_values n x y ≡ some p → 0 < n
  positive zero x y e = none_some e
  positive (suc n) x y e = omega arith

  pub two_there : (n : ℕ) (f : ℕ → Option W) → 0 < n → ((q : ℕ) → q < n → (v : W) × (f q ≡ some v)) → (p : Operands W) × (two_values n (f 0) (f 1) ≡ some p)
  two_there zero f l h = absurd (omega arith)
  two_there (suc zero) f l h = let (v, e) = h 0 (omega arith) in (record { left = v; right = v }, rw e)
  two_there (suc (suc n)) f l h =
      let (v, e) = h 0 (omega arith) in
      let (w, g) = h 1 (omega arith) in
      (record { left = v; right = w }, rw (e, g))
