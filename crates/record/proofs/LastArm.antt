-- The last arm of a match on the keys of a list: the number is none of them (`Absent`), and a search of the list by key finds nothing (`last_arm`). What the
-- arm knows has the last key's fact outermost; it is turned round, one key at a time (`turned`). Assumes nothing.
use Rattle.std.proofs.Common.{◌≡◌, ℕ, cond, eqb, List, [], ◌∷◌, refl, ne_eqb}

module _ {A : Type 0} (key : A → ℕ) where
  -- n is no element's key
  abbrev pub Absent : List A → ℕ → Type 0
  Absent [] n = Unit {0}
  Absent (r ∷ rs) n = (n ≡ key r → ⊥) × Absent rs n

  abbrev pub Back : List A → ℕ → Type 0
  Back [] n = Unit {0}
  Back (r ∷ rs) n = Back rs n × (n ≡ key r → ⊥)

  abbrev pub onto : List A → List A → List A
  onto [] acc = acc
  onto (r ∷ rs) acc = onto rs (r ∷ acc)

  pub turned : (rs acc : List A) (n : ℕ) → Back (onto rs acc) n → Absent rs n × Back acc n
  turned [] acc n h = (tt, h)
  turned (r ∷ rs) acc n h = let t = turned rs (r ∷ acc) n h in ((t.1.1, t.0), t.1.0)

module _ {A B : Type 0} (key : A → ℕ) (value : A → B) (other : ℕ → B) where
  -- what the first element with that key has, and the other where none has it
  abbrev pub value_with : List A → ℕ → B
  value_with [] n = other n
  value_with (r ∷ rs) n = cond (eqb n (key r)) (value r) (value_with rs n)

  absent : (rs : List A) (n : ℕ) → Absent key rs n → other n ≡ value_with rs n
  absent [] n h = refl
  absent (r ∷ rs) n h = rw (ne_eqb n (key r) h.0) (absent rs n h.1)

  pub last_arm : (rs : List A) (n : ℕ) → Back key (onto key rs []) n → other n ≡ value_with rs n
  last_arm rs n h = absent rs n (turned key rs [] n h).0
