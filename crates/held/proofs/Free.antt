-- The free activities are those flags that are raised among the enabled and not among the held. Assumes nothing.
use Prim.Native.Nat.{ℕ, zero, suc, ◌+◌, ◌-◌, ◌≤◌, ◌<◌}
use mathlib.Core.Path.{◌≡◌, refl, sym, ap, ◌∙◌}
use mathlib.Core.Bool.{Bool, true, false, ◌&&◌, cond}
use mathlib.Core.List.{List, [], ◌∷◌, map}
use native.Mathlib.Omega.{arith}
use native.Mathlib.Nat.{add-zero, zero-add, add-suc, suc-add}
use lib.Dec.{eqb, ltb}
use lib.ListN.{length, get_or, length-map}
use borrow.Author.Tests.{eqb-true, ltb-true, ltb-false}
use Rattle.record.specs.declared.array.NamedArray.{NamedArray}
use Rattle.record.specs.declared.tag.Tag.{Tag}
use Rattle.record.specs.declared.token.Token as Record
use Rattle.record.specs.declared.cell.Cell.{Cell}
use Rattle.record.specs.declared.instruction.Instruction.{Instruction}
use Rattle.record.specs.TokensAndTags.{tokens, token_at, decode_token}
use Rattle.record.specs.Widths.{token_width}
use Rattle.buffer.proofs.Tables.{length_rows, get_d_rows}
use Rattle.machine.specs.Machine.{Machine, Activity}
use Rattle.machine.specs.Bounded.{without_held, free_of}
use Rattle.rules.specs.InstructionSet.{machine_of}
use Rattle.rules.specs.Run.{token_held}
use Rattle.rules.specs.Held.{held_in}
use Rattle.store_flags.specs.Flags.{places, places_from, minus, Under}
use Rattle.store_flags.specs.Marks.{bit}
use Rattle.store_flags.proofs.Laws.{Binary, zero_at}
use Rattle.store_flags.proofs.Marks.{marked_past}
use Rattle.store_enabled.specs.Enabled.{tag_of, tag_same, tags_in, is_enabled}
use Rattle.store_enabled.specs.Store.{Right}
use Rattle.store.specs.Matching.{Matching}
use Rattle.store.proofs.Laws.{matching_stored, matching_list, matching_places}
use Rattle.abstraction.specs.States.{no_token, state_held, OnPorts}
use Rattle.abstraction.specs.Tables.{Arities}
use Rattle.abstraction.proofs.Enabled.{held_enabled}
use Rattle.held.specs.Deciding.{held_by, HeldDecided}
use Rattle.held.proofs.Laws.{held_rule}

-- ---- flags l, and m of those that a test of the activities passes

module _ (M : Machine) (act : ℕ → Activity M.Tag) (test : Activity M.Tag → Bool) where
  abbrev Sifted : (i : ℕ) → (l m : List ℕ) → Type 0
  Sifted i l m = (j : ℕ) → get_or m j 0 ≡ bit (eqb (get_or l j 0) 1 && test (act (i + j)))

  sifted_on : (i x y : ℕ) (l m : List ℕ) → Sifted i (x ∷ l) (y ∷ m) → Sifted (suc i) l m
  sifted_on i x y l m h j = h (suc j) ∙ ap (λ n. bit (eqb (get_or l j 0) 1 && test (act n))) (add-suc i j ∙ sym (suc-add i j))

  sifted_step : (i x y : ℕ) (l m : List ℕ) → Binary (x ∷ l) → Sifted i (x ∷ l) (y ∷ m)
      → without_held M test (map act (places_from (suc i) l)) ≡ map act (places_from (suc i) (minus l m))
      → without_held M test (map act (places_from i (x ∷ l))) ≡ map act (places_from i ((x - y) ∷ minus l m))
  sifted_step i zero y l m b h r =
      let none : y ≡ 0 = h 0 in
      rw none r
  sifted_step i (suc (suc x)) y l m b h r = absurd (omega (arith, b 0))
  sifted_step i (suc zero) y l m b h r = go (test (act i)) y (h 0 ∙ ap (λ n. bit (test (act n))) (add-zero i)) r
    where
      go : (t : Bool) (y : ℕ) → y ≡ bit t → without_held M test (map act (places_from (suc i) l)) ≡ map act (places_from (suc i) (minus l m))
          → cond t (without_held M test (map act (places_from (suc i) l))) (act i ∷ without_held M test (map act (places_from (suc i) l))) ≡ map act (places_from i ((1 - y) ∷ minus l m))
      go true y e r = rw e r
      go false y e r = rw e (ap (λ k. act i ∷ k) r)

  -- a list that has come to its end is as if zeros followed
  minus_none : (l : List ℕ) → minus l [] ≡ l
  minus_none [] = refl
  minus_none (x ∷ l) = refl

  sifted : (i : ℕ) (l m : List ℕ) → Binary l → Sifted i l m → without_held M test (map act (places_from i l)) ≡ map act (places_from i (minus l m))
  sifted i [] m b h = refl
  sifted i (x ∷ l) [] b h =
      let as_zero : Sifted i (x ∷ l) (0 ∷ []) = λ j. zero_at 1 j ∙ h j in
      let whole : x - 0 ≡ x = omega arith in
      rw (whole, minus_none l) at (sifted_step i x 0 l [] b as_zero (sifted (suc i) l [] (λ j. b (suc j)) (sifted_on i x 0 l [] as_zero)))
  sifted i (x ∷ l) (y ∷ m) b h = sifted_step i x y l m b h (sifted (suc i) l m (λ j. b (suc j)) (sifted_on i x y l m h))

  under_sifted : (l m : List ℕ) → Sifted 0 l m → Under m l
  under_sifted l m h i = go (eqb (get_or l i 0) 1) refl (test (act (0 + i))) (h i)
    where
      go : (b : Bool) → eqb (get_or l i 0) 1 ≡ b → (t : Bool) → get_or m i 0 ≡ bit (b && t) → get_or m i 0 ≤ get_or l i 0
      go true e true f = omega (arith, eqb-true (get_or l i 0) 1 e, f)
      go true e false f = omega (arith, f)
      go false e t f = omega (arith, f)

-- ---- the enabled of a ledger, and the held of those

module _ (g : List Instruction) (table : List NamedArray) (capacity count : ℕ) (k : ℕ) (tables links flags held ledger : List ℕ) (used : ℕ) (cs : List Cell)
    (right : Arities g tables) (ports : OnPorts g (tokens used ledger)) (matching : Matching tables links flags ledger used) (decided : HeldDecided g k flags held ledger used) where
  abbrev M : Machine
  M = machine_of g table capacity count

  abbrev activity : ℕ → Activity Tag
  activity p = record { place = p; tag = (get_or (tokens used ledger) p no_token).tag }

  abbrev test : Activity Tag → Bool
  test = held_in g k (state_held (tokens used ledger) cs)

  none_past : (i : ℕ) → used ≤ i → get_or flags i 0 ≡ 0
  unfolding Right
  none_past i h =
      let few : length (tags_in (tokens used ledger)) ≤ i = omega (arith, length-map (tokens used ledger) tag_of, length_rows token_width decode_token used ledger) in
      marked_past tag_same (is_enabled tables (tokens used ledger)) (tags_in (tokens used ledger)) flags i few (matching_stored matching).right

  both : Sifted M activity test 0 flags held
  both j = go (ltb j used) refl (decided.right j)
    where
      here : j < used → get_or (tokens used ledger) j no_token ≡ token_at ledger j
      here h = get_d_rows token_width decode_token used j ledger no_token h

      go : (b : Bool) → ltb j used ≡ b → get_or held j 0 ≡ bit (b && (eqb (get_or flags j 0) 1 && held_by g k (map token_held (tokens used ledger)) (token_at ledger j).tag))
          → get_or held j 0 ≡ bit (eqb (get_or flags j 0) 1 && test (activity (0 + j)))
      go true e f = f ∙ ap (λ (b : Bool). bit (eqb (get_or flags j 0) 1 && b))
          (ap (λ (t : Record.Token). held_by g k (map token_held (tokens used ledger)) t.tag) (sym (here (ltb-true j used e))) ∙ sym (held_rule g k (state_held (tokens used ledger) cs) (activity j))
          ∙ ap (λ n. test (activity n)) (sym (zero-add j)))
      go false e f = f ∙ sym (ap (λ n. bit (eqb n 1 && test (activity (0 + j)))) (none_past j (ltb-false j used e)))

  pub held_under : Under held flags
  held_under = under_sifted M activity test flags held both

  -- "Picks count without held activities."
  pub free_places : free_of M (held_in g k) (state_held (tokens used ledger) cs) ≡ map activity (places (minus flags held))
  free_places =
      ap (without_held M test) (held_enabled g table capacity count tables (tokens used ledger) cs no_token right ports ∙ ap (map activity) (sym (matching_places matching)))
      ∙ sifted M activity test 0 flags held (matching_list matching).binary both
