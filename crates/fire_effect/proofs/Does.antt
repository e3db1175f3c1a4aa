-- The promises of operation and new tags, case by case: what is sent, what is refused, the cell that an operand names, a return. Assumes nothing.
use Prim.Native.Nat.{ℕ, zero, suc, ◌+◌, ◌-◌, ◌/◌, ◌≤◌, ◌<◌}
use mathlib.Core.Path.{◌≡◌, refl, sym, ap, ◌∙◌}
use mathlib.Core.Bool.{Bool, true, false, ◌&&◌}
use mathlib.Core.List.{List, [], ◌∷◌, map}
use native.Mathlib.Omega.{arith}
use native.Mathlib.Nat.{zero-add}
use borrow.Author.Tests.{leb-true, le-leb, lt-leb, ltb-true, ltb-false, lt-ltb, le-ltb}
use lib.ListN.{length, get_or}
use lib.Dec.{T, leb}
use lib.IntN.{ℤ, pos, negsuc, nat_abs}
use lib.Signed.{lt_z, non_neg}
use mir.Syntax.{w8, w32}
use mir.Val.{Fits, SFits}
use Rattle.std.specs.Prelude.{None, Some, Result, Ok, Err}
use Rattle.std.specs.Result.{IsErr, IsErrAnd}
use Rattle.std.proofs.lemmas.Result.{err_from_is_err_and}
use Rattle.record.specs.declared.array.NamedArray.{NamedArray}
use Rattle.record.specs.declared.tag.Tag.{Tag}
use Rattle.record.specs.declared.instruction.Destination.{Destination}
use Rattle.record.specs.GraphRecords.{decode_instruction, graph_of, in_use}
use Rattle.buffer.proofs.Tables.{length_rows}
use Rattle.record.specs.TokensAndTags.{to_of}
use Rattle.record.specs.Widths.{graph_width}
use Rattle.machine.specs.Machine as Machine
use Rattle.machine.specs.Machine.{refuse, send}
use Rattle.rules.specs.declared.answer.Refusal.{Refusal}
use Rattle.rules.specs.declared.answer.Refusal.TheVariants as Refusals
use Rattle.rules.specs.Check.{within}
use Rattle.rules.specs.InstructionSet.{EffectHere, key_under, send_returned, number_in, array_at, cell_number}
use Rattle.rules.proofs.Below.{listed, unlisted}
use Rattle.abstraction.specs.Tables.{array_from, arrays_in}
use Rattle.fire_effect.specs.declared.output.Key.{Key}
use Rattle.fire_effect.specs.declared.output.Outputs.{Outputs}
use Rattle.fire_effect.specs.Effects.{key_held, keys_held, output_keys, Sends, Makes, named_of}

abbrev pub Clash : Type 0
Clash = ◌≡◌ {A = ℕ} 0 1

pub clash : {A : Type 0} → Clash → A
clash z = absurd (omega arith)

-- ---- outputs

-- the count is the number of keys
pub length_keys : (o : Outputs) → o.count ≤ 2 → length (output_keys o) ≡ o.count
length_keys o h = go o.count h
  where
    go : (n : ℕ) → n ≤ 2 → length (keys_held n o.first o.second) ≡ n
    go zero h = refl
    go (suc zero) h = refl
    go (suc (suc zero)) h = refl
    go (suc (suc (suc n))) h = absurd (omega arith)

-- a fan-out of 2 or more uses both destinations
pub both_used : (n : ℕ) (d e : Destination) → 2 ≤ n → in_use n d e ≡ d ∷ e ∷ []
both_used zero d e h = absurd (omega arith)
both_used (suc zero) d e h = absurd (omega arith)
both_used (suc (suc n)) d e h = refl

-- a lower one uses as many as it says
pub few_used : (n : ℕ) (τ : Tag) (d e : Destination) (j k : Key) → n < 2 → key_held j ≡ key_under τ d → keys_held n j k ≡ map (key_under τ) (in_use n d e)
few_used zero τ d e j k h p = refl
few_used (suc zero) τ d e j k h p = λ i. p i ∷ []
few_used (suc (suc n)) τ d e j k h p = absurd (omega arith)

pub sends_key : {o : Outputs} {k : Key} {j : Machine.Key Tag} → key_held k ≡ j → Sends o (key_held k ∷ []) → Sends o (j ∷ [])
sends_key e s = rw (← e) s

-- ---- new tags

pub made : {o : Outputs} {keys : List (Machine.Key Tag)} → Sends o keys → Makes (Ok o) (λ v. send v keys)
made s = record { held = λ v. ap (send v) s.held; counted = s.counted }

pub refused : (r : Refusal) → Makes (Err r) (λ v. refuse r)
refused r = record { held = λ v. refl; counted = tt }

-- what `?` hands on is the refusal
abbrev again : {A : Type 0} → Result A Refusal → Result Outputs Refusal
again (Ok x) = Err Refusals.Iteration
again (Err e) = Err e

pub passed_on : {A : Type 0} {m : Result Outputs Refusal} {found : Result A Refusal} {e r : Refusal}
    → IsErr m × IsErrAnd m (λ x. x ≡ e) → found ≡ Err e → found ≡ Err r → m ≡ Err r
passed_on h was is = let p = err_from_is_err_and _ h.1 in p.1 ∙ ap (λ x. Err x) p.2 ∙ ap again (sym was ∙ is)

-- the same, otherwise named
pub made_as : {m : Result Outputs Refusal} {f h : ℤ → EffectHere} → ((v : ℤ) → f v ≡ h v) → Makes m h → Makes m f
made_as e d = record { held = λ v. d.held v ∙ sym (e v); counted = d.counted }

-- ---- a constant of at most a byte

pub byte_fits : (k : ℤ) → within 0 255 k ≡ true → T (non_neg k) × Fits w8 (nat_abs k)
unfolding within
byte_fits (pos n) e = (tt, record { fits = omega (arith, leb-true n 255 (upper (leb 0 n) e)) })
  where
    upper : (a : Bool) → (a && leb n 255) ≡ true → leb n 255 ≡ true
    upper true e = e
    upper false e = clash cc
byte_fits (negsuc n) e = clash cc

-- ---- the cell that an operand names

pub below_cells : (cells : ℕ) {a : ℤ} {n : ℕ} → a ≡ negsuc n → None ≡ named_of cells a
below_cells cells e = rw e

module _ (cells : ℕ) {a : ℤ} {n : ℕ} (e : a ≡ pos n) where
  pub in_cells : n < cells → Some n ≡ named_of cells a
  in_cells h = rw (e, lt-ltb n cells h)

  pub past_cells : cells ≤ n → None ≡ named_of cells a
  past_cells h = rw (e, le-ltb n cells h)

-- ---- the cell that an index names in an array

module _ (a : NamedArray) where
  pub below_one : (k : ℤ) → lt_z k (pos 1) ≡ true → number_in a k ≡ negsuc 0
  unfolding number_in within
  below_one (pos zero) e = refl
  below_one (pos (suc n)) e = absurd (omega (arith, ltb-true (suc n) 1 e))
  below_one (negsuc n) e = refl

  pub past_length : (k : ℤ) → k ≡ pos (nat_abs k) → 1 ≤ nat_abs k → a.length < nat_abs k → number_in a k ≡ negsuc 0
  unfolding number_in within
  past_length (pos n) e p h = rw (le-leb 1 n p, lt-leb n a.length h)
  past_length (negsuc n) e p h = refl

  pub inside_length : (k : ℤ) → k ≡ pos (nat_abs k) → 1 ≤ nat_abs k → nat_abs k ≤ a.length → number_in a k ≡ pos (a.first + nat_abs k - 1)
  unfolding number_in within
  inside_length (pos n) e p h = rw (le-leb 1 n p, le-leb n a.length h)
  inside_length (negsuc n) e p h = clash cc

pub from_one : (k : ℤ) → lt_z k (pos 1) ≡ false → (k ≡ pos (nat_abs k)) × (1 ≤ nat_abs k)
from_one (pos n) e = (refl, ltb-false n 1 e)
from_one (negsuc n) e = clash cc

-- a number of 32 signed bits that is not negative
pub size_fits : (k : ℤ) → SFits w32 k → k ≡ pos (nat_abs k) → nat_abs k < 2147483648
size_fits (pos n) f e = omega (arith, f.sfits)
size_fits (negsuc n) f e = clash cc

-- ---- the number of a cell, by a constant

module _ (table : List NamedArray) (a : ℤ) where
  pub by_negative : (k : ℤ) → lt_z k (pos 0) ≡ true → cell_number table k a ≡ negsuc 0
  unfolding cell_number
  by_negative (pos n) e = absurd (omega (arith, ltb-true n 0 e))
  by_negative (negsuc n) e = refl

  pub by_zero : (k : ℤ) → lt_z k (pos 0) ≡ false → lt_z k (pos 1) ≡ true → cell_number table k a ≡ a
  unfolding cell_number
  by_zero (pos zero) e f = refl
  by_zero (pos (suc n)) e f = absurd (omega (arith, ltb-true (suc n) 1 f))
  by_zero (negsuc n) e f = clash cc

  pub by_array : (k : ℤ) → lt_z k (pos 1) ≡ false → cell_number table k a ≡ number_in (array_at table (nat_abs k - 1)) a
  unfolding cell_number
  by_array (pos zero) e = absurd (omega (arith, ltb-false 0 1 e))
  by_array (pos (suc n)) e = let same : n ≡ suc n - 1 = omega arith in ap (λ (m : ℕ). number_in (array_at table m) a) same
  by_array (negsuc n) e = clash cc

-- ---- the arrays of the tables

module _ (tables : List ℕ) (n : ℕ) where
  pub in_table : n < get_or tables 256 0 → array_at (arrays_in tables) n ≡ array_from tables n
  unfolding array_at arrays_in
  in_table h = listed (array_from tables) _ 0 (get_or tables 256 0) n h ∙ ap (array_from tables) (zero-add n)

  pub past_table : get_or tables 256 0 ≤ n → array_at (arrays_in tables) n ≡ record { first = 0; length = 0 }
  unfolding array_at arrays_in
  past_table h = unlisted (array_from tables) _ 0 (get_or tables 256 0) n h

-- ---- a return

-- as many as the whole records of the bytes
pub records : (l : List ℕ) → length (graph_of l) ≡ length l / graph_width
records l = length_rows graph_width decode_instruction (length l / graph_width) l

module _ (l : List ℕ) (i k : ℕ) (τ : Tag) where
  pub to_site : i + k < length l / graph_width → (v : ℤ) → send_returned (graph_of l) i k τ v ≡ send v (record { tag = to_of τ (i + k); port = 0 } ∷ [])
  unfolding send_returned
  to_site h v = rw (records l, lt-ltb _ _ h)

  pub past_graph : length l / graph_width ≤ i + k → (v : ℤ) → send_returned (graph_of l) i k τ v ≡ refuse Refusals.NoReturn
  unfolding send_returned
  past_graph h v = rw (records l, le-ltb _ _ h)
