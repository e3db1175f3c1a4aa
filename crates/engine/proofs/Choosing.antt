-- The choice of a turn: the activity at the place that the code finds is the one that the chooser takes, and it is enabled; where the code finds none, the chooser
-- ends the run. By picks, and by the names of a log. Assumes nothing.
use Prim.Native.Nat.{ℕ, zero, suc, ◌+◌, ◌-◌, ◌*◌, ◌/◌, ◌%◌, ◌≤◌, ◌<◌}
use mathlib.Core.Path.{◌≡◌, refl, sym, ap, subst, ◌∙◌}
use mathlib.Core.Bool.{Bool, true, false, ◌&&◌, cond}
use mathlib.Core.Option.{Option, none, some}
use mathlib.Core.List.{List, [], ◌∷◌, map}
use native.Mathlib.Omega.{arith}
use native.Mathlib.Decide.{dec_le}
use native.Mathlib.Nat.{mod-lt}
use lib.Dec.{eqb, leb}
use lib.ListN.{length, get_or, drop, length-map, length-drop}
use borrow.Author.Tests.{eq-eqb, eqb-true, leb-true}
use Rattle.buffer.proofs.Tables.{length_rows, get_d_rows}
use Rattle.record.specs.declared.array.NamedArray.{NamedArray}
use Rattle.record.specs.declared.tag.Tag.{Tag}
use Rattle.record.specs.declared.token.Token as Record
use Rattle.record.specs.declared.cell.Cell.{Cell}
use Rattle.record.specs.declared.instruction.Instruction.{Instruction}
use Rattle.record.specs.TokensAndTags.{tokens, token_at, tag_in, port_in}
use Rattle.record.specs.TokensAndTags as Tokens
use Rattle.record.specs.Logs.{name_of}
use Rattle.record.specs.Widths.{token_width, log_width}
use Rattle.store_flags.specs.Flags.{places}
use Rattle.std.specs.Prelude.{Some, None}
use Rattle.std.specs.Prelude as Std
use Rattle.store_chains.proofs.Index.{and_left, and_right}
use Rattle.store_enabled.specs.Enabled.{operands_live, is_enabled, tag_same, earliest_of, leads_in, enabled_places}
use Rattle.store_enabled.specs.Store.{enabled_at}
use Rattle.store_enabled.proofs.Right.{tag_equal}
use Rattle.store.specs.Matching.{Matching}
use Rattle.store.proofs.Laws.{matching_places, matching_enabled_below, matching_leads}
use Rattle.machine.specs.Machine.{Machine, StateOf, Activity, on_list, look, ending, enabled, pick_of, by_picks}
use Rattle.machine.specs.Machine as Machines
use Rattle.machine.specs.Replay.{with_tag, named_in}
use Rattle.machine.specs.Choosers.{Chosen, takes, ends, by_pick, or_refused, by_name}
use Rattle.machine.proofs.Replay.{found_by_tag}
use Rattle.rules.specs.declared.answer.Refusal.{Refusal}
use Rattle.rules.specs.declared.answer.Refusal.TheVariants.{NotEnabled}
use Rattle.rules.specs.declared.answer.Outcome as AnswerOutcome
use Rattle.rules.specs.declared.answer.Outcome.TheVariants as Outcomes
use Rattle.rules.specs.InstructionSet.{arity_in, machine_of}
use Rattle.rules.specs.Log.{names_in}
use Rattle.abstraction.specs.States.{no_token, state_held}
use Rattle.abstraction.specs.Tables.{Arities}
use Rattle.abstraction.proofs.Arities.{arity_small}
use Rattle.abstraction.proofs.Enabled.{held_enabled, held_below, held_place}
use Rattle.fire.proofs.Place.{on_ports}
use Rattle.fire.specs.Running.{Arrived}
use Rattle.ending.specs.Endings.{EndsWith}
use Rattle.engine.specs.Turns.{TakesPlace, Ends}

-- ---- lists

pub get_d_map : {A B : Type 0} (f : A → B) (xs : List A) (k : ℕ) (d : A) (e : B) → k < length xs → get_or (map f xs) k e ≡ f (get_or xs k d)
get_d_map f [] k d e h = absurd (omega arith)
get_d_map f (x ∷ xs) zero d e h = refl
get_d_map f (x ∷ xs) (suc k) d e h = get_d_map f xs k d e (omega arith)

past : {A : Type 0} (l : List A) (k : ℕ) (d : A) → length l ≤ k → get_or l k d ≡ d
past [] k d h = refl
past (x ∷ l) zero d h = absurd (omega arith)
past (x ∷ l) (suc k) d h = past l k d (omega arith)

-- ---- the names of a log

-- what is not whole names nothing
short_name : (l : List ℕ) → length l < log_width → name_of l ≡ none
unfolding name_of
short_name l h = go (leb log_width (length l)) refl
  where
    go : (b : Bool) → leb log_width (length l) ≡ b → cond (b && eqb (port_in l) 0) (some (tag_in l)) none ≡ none
    go true e = absurd (omega (arith, leb-true log_width (length l) e))
    go false e = refl

pub name_there : (log : List ℕ) (i : ℕ) → i ≤ length log / log_width → name_of (drop (i * log_width) log) ≡ get_or (names_in log) i none
unfolding names_in
name_there log i h = go (dec_le (suc i) n)
  where
    n : ℕ
    n = (length log + (log_width - 1)) / log_width

    go : Dec (suc i ≤ n) → name_of (drop (i * log_width) log) ≡ get_or (names_in log) i none
    go (yes l) = sym (get_d_rows log_width name_of n i log none l)
    go (no z) = short_name (drop (i * log_width) log) (omega (arith, length-drop (i * log_width) log)) ∙ sym (past (names_in log) i none (omega (arith, length_rows log_width name_of n log)))

pub name_past : (log : List ℕ) (i : ℕ) → length log / log_width < i → none ≡ get_or (names_in log) i none
unfolding names_in
name_past log i h = sym (past (names_in log) i none (omega (arith, length_rows log_width name_of ((length log + (log_width - 1)) / log_width) log)))

-- the earliest token of a tag has the tag
place_tag : (tag : Tag) (d : Record.Token) (ts : List Record.Token) → earliest_of ts tag < length ts → (get_or ts (earliest_of ts tag) d).tag ≡ tag
place_tag tag d [] h = absurd (omega arith)
place_tag tag d (t ∷ ts) h = go (tag_same tag t.tag) refl h (place_tag tag d ts)
  where
    go : (b : Bool) → tag_same tag t.tag ≡ b → cond b 0 (suc (earliest_of ts tag)) < suc (length ts) → (earliest_of ts tag < length ts → (get_or ts (earliest_of ts tag) d).tag ≡ tag)
        → (get_or (t ∷ ts) (cond b 0 (suc (earliest_of ts tag))) d).tag ≡ tag
    go true e l ih = sym (tag_equal tag t.tag e)
    go false e l ih = ih (omega arith)

live_some : (n : ℕ) (ts : List Record.Token) (tag : Tag) → operands_live n ts tag ≡ true → 0 < n
unfolding operands_live
live_some zero ts tag e = let z : ◌≡◌ {A = ℕ} 0 1 = cc in absurd (omega arith)
live_some (suc n) ts tag e = omega arith

when_at : (b : Bool) (q p : ℕ) → cond b (Some q) None ≡ Some p → (b ≡ true) × (q ≡ p)
when_at true q p e = (refl, cc)
when_at false q p e = let z : ◌≡◌ {A = ℕ} 0 1 = cc in absurd (omega arith)

when_nothing : (b : Bool) (q : ℕ) → cond b (Some q) None ≡ None → b ≡ false
when_nothing true q e = let z : ◌≡◌ {A = ℕ} 0 1 = cc in absurd (omega arith)
when_nothing false q e = refl

-- ---- what the flags say

module _ {tables links flags ledger : List ℕ} {used : ℕ} (m : Matching tables links flags ledger used) where
  -- the place that a pick finds among the flags is that among the enabled activities
  pub pick_number : (picks : List ℕ) (f e pick number place : ℕ) → e ≡ length (places flags) → pick ≡ get_or picks f 0 → number ≡ pick % e → place ≡ get_or (places flags) number 0
      → place ≡ get_or (enabled_places tables (tokens used ledger)) (get_or picks f 0 % length (enabled_places tables (tokens used ledger))) 0
  pick_number picks f e pick number place all taken numbered at =
      at ∙ (λ i. get_or (matching_places m i) ((numbered ∙ λ j. taken j % (all ∙ ap length (matching_places m)) j) i) 0)

  -- the first enabled activity, and that it is the one of its tag
  module _ (some : ¬ (length (places flags) ≡ 0)) (place : ℕ) (first : place ≡ get_or (places flags) 0 0) where
    among : 0 < length (enabled_places tables (tokens used ledger))
    among = subst (λ (l : List ℕ). 0 < length l) (matching_places m) (omega (arith, some))

    at_first : place ≡ get_or (enabled_places tables (tokens used ledger)) 0 0
    at_first = first ∙ ap (λ (l : List ℕ). get_or l 0 0) (matching_places m)

    pub first_there : place < used
    first_there = subst (λ (p : ℕ). p < used) (sym at_first) (matching_enabled_below m 0 among)

    pub first_named : (tag : Tag) → Tokens.same_tag (token_at ledger place).tag tag ≡ true → Some place ≡ enabled_at tables (tokens used ledger) tag
    first_named tag same =
        let own = (token_at ledger place).tag in
        let lead = subst (λ (p : ℕ). leads_in tables (tokens used ledger) p (token_at ledger p) ≡ true) (sym at_first) (matching_leads m 0 among) in
        let there = eqb-true (earliest_of (tokens used ledger) own) place (and_left _ _ lead) in
        let on = and_right (eqb (earliest_of (tokens used ledger) own) place) _ lead in
        rw (tag_equal tag own same, on) (ap Some (sym there))

-- ---- what the machine has enabled

module _ (tables ledger : List ℕ) (used : ℕ) (g : List Instruction) (right : Arities g tables) (arrived : Arrived g (tokens used ledger)) (table : List NamedArray) (capacity count : ℕ) (cs : List Cell) where
  abbrev ts : List Record.Token
  ts = tokens used ledger

  abbrev M : Machine
  M = machine_of g table capacity count

  abbrev s : StateOf M
  s = state_held ts cs

  abbrev activity : ℕ → Activity Tag
  activity p = record { place = p; tag = (get_or ts p no_token).tag }

  enabled_here : enabled M s ≡ map activity (enabled_places tables ts)
  enabled_here = held_enabled g table capacity count tables ts cs no_token right (on_ports g ts arrived)

  -- an enabled activity by its place
  recorded_there : (place : ℕ) → place < used → activity place ≡ record { place = place; tag = (token_at ledger place).tag }
  recorded_there place h = ap (λ (t : Record.Token). record { place = place; tag = t.tag }) (get_d_rows token_width Tokens.decode_token used place ledger no_token h)

  pub taken_there : {links flags : List ℕ} → Matching tables links flags ledger used → (chosen : Chosen Refusal Tag) (place k : ℕ) → k < length (enabled_places tables ts) → place ≡ get_or (enabled_places tables ts) k 0
      → chosen ≡ takes (activity place) → TakesPlace place chosen tables ledger used
  taken_there m chosen place k h at e =
      let below : place < used = subst (λ (p : ℕ). p < used) (sym at) (matching_enabled_below m k h) in
      record {
        taken = e ∙ ap takes (recorded_there place below);
        below = below;
        enabled_there = subst (λ (p : ℕ). leads_in tables ts p (token_at ledger p) ≡ true) (sym at) (matching_leads m k h);
      }

  -- ---- by picks

  module _ (picks : List ℕ) (f : ℕ) where
    pub pick_none : length (enabled_places tables ts) ≡ 0 → (o : AnswerOutcome.Outcome) → EndsWith o tables ts → Ends o (by_pick M (by_picks M) picks f s)
    pick_none z o said = record {
      outcome = ending M s;
      told = sym (said g right table capacity count cs);
      ended = ap (λ (l : List (Activity Tag)). on_list l (ends (ending M s)) (λ a more. takes (by_picks M s (get_or picks f 0) a more))) (enabled_here ∙ go (enabled_places tables ts) z);
    }
      where
        go : (l : List ℕ) → length l ≡ 0 → map activity l ≡ []
        go [] h = refl
        go (p ∷ l) h = absurd (omega arith)

    -- of as many as there are
    picked : (p : ℕ) (l : List ℕ) → pick_of M (get_or picks f 0) (activity p) (map activity l) ≡ activity (get_or (p ∷ l) (get_or picks f 0 % length (p ∷ l)) 0)
    picked p l =
        let size : length (map activity (p ∷ l)) ≡ length (p ∷ l) = length-map (p ∷ l) activity in
        ap (λ (n : ℕ). get_or (activity p ∷ map activity l) (get_or picks f 0 % n) (activity p)) size
        ∙ get_d_map activity (p ∷ l) (get_or picks f 0 % length (p ∷ l)) 0 (activity p) (mod-lt (get_or picks f 0) (omega arith))

    pub pick_there : {links flags : List ℕ} → Matching tables links flags ledger used → (place : ℕ) → (length (enabled_places tables ts) ≡ 0 → ⊥)
        → place ≡ get_or (enabled_places tables ts) (get_or picks f 0 % length (enabled_places tables ts)) 0 → TakesPlace place (by_pick M (by_picks M) picks f s) tables ledger used
    pick_there m place n at =
        let all = ap (λ (l : List (Activity Tag)). on_list l (ends (ending M s)) (λ a more. takes (by_picks M s (get_or picks f 0) a more))) enabled_here in
        taken_there m _ place (get_or picks f 0 % length (enabled_places tables ts)) (mod-lt (get_or picks f 0) (omega arith)) at (all ∙ go (enabled_places tables ts) n at)
      where
        go : (l : List ℕ) → (length l ≡ 0 → ⊥) → place ≡ get_or l (get_or picks f 0 % length l) 0
            → on_list (map activity l) (ends (ending M s)) (λ a more. takes (by_picks M s (get_or picks f 0) a more)) ≡ takes (activity place)
        go [] h e = absurd (h refl)
        go (p ∷ l) h e = ap takes (picked p l ∙ ap activity (sym e))

  -- ---- by the names of a log

  -- all operands of a tag are live, in the machine's words and in those of the records
  all_live_lem : (τ : Tag) → 0 < arity_in g τ → Machines.all_live M (look M s) τ ≡ is_enabled tables ts τ
  all_live_lem τ l = held_below g table capacity count (arity_in g τ) τ ts l (arity_small g τ) ∙ ap (λ (n : ℕ). operands_live n ts τ) (sym (right τ))

  absent : (τ : Tag) → is_enabled tables ts τ ≡ false → with_tag M τ (enabled M s) ≡ none
  absent τ e = (found_by_tag M s τ).absent (λ h. let z : ◌≡◌ {A = Bool} false true = sym e ∙ sym (all_live_lem τ h.0) ∙ h.1 in let y : ◌≡◌ {A = ℕ} 0 1 = cc in omega arith)

  present : (τ : Tag) → is_enabled tables ts τ ≡ true → with_tag M τ (enabled M s) ≡ some (record { place = earliest_of ts τ; tag = τ })
  present τ e =
      let l : 0 < arity_in g τ = subst (λ (n : ℕ). 0 < n) (right τ) (live_some _ ts τ e) in
      (found_by_tag M s τ).present l (all_live_lem τ l ∙ e) ∙ ap (λ (n : ℕ). some (record { place = n; tag = τ })) (held_place g table capacity count τ ts l (on_ports g ts arrived))

  module _ (names : List (Option Tag)) (f : ℕ) where
    not_named : named_in M (get_or names f none) (enabled M s) ≡ none → Ends (Outcomes.Refused NotEnabled f) (by_name M NotEnabled names f s)
    not_named e = record { outcome = Machines.refused NotEnabled f; told = refl; ended = ap (or_refused M NotEnabled f) e }

    by_name_lem : (x : Option Tag) → get_or names f none ≡ x → named_in M (get_or names f none) (enabled M s) ≡ named_in M x (enabled M s)
    by_name_lem x e = ap (λ (n : Option Tag). named_in M n (enabled M s)) e

    -- it "lacks its zero byte or isn't whole"
    pub names_nothing : none ≡ get_or names f none → Ends (Outcomes.Refused NotEnabled f) (by_name M NotEnabled names f s)
    names_nothing e = not_named (by_name_lem none (sym e))

    module _ (τ : Tag) (is : some τ ≡ get_or names f none) (found : Std.Option ℕ) (searched : found ≡ enabled_at tables ts τ) where
      -- it "names no enabled activity"
      pub names_none : found ≡ None → Ends (Outcomes.Refused NotEnabled f) (by_name M NotEnabled names f s)
      names_none e = not_named (by_name_lem (some τ) (sym is) ∙ absent τ (when_nothing (is_enabled tables ts τ) (earliest_of ts τ) (sym searched ∙ e)))

      pub names_there : (place : ℕ) → found ≡ Some place → place < used → TakesPlace place (by_name M NotEnabled names f s) tables ledger used
      names_there place at within =
          let (on, first) = when_at (is_enabled tables ts τ) (earliest_of ts τ) place (sym searched ∙ at) in
          let size = length_rows token_width Tokens.decode_token used ledger in
          let that : (token_at ledger place).tag ≡ τ =
          ap (λ (t : Record.Token). t.tag) (sym (get_d_rows token_width Tokens.decode_token used place ledger no_token within))
          ∙ subst (λ (n : ℕ). (get_or ts n no_token).tag ≡ τ) first (place_tag τ no_token ts (omega (arith, first, size))) in
          record {
            taken = ap (or_refused M NotEnabled f) (by_name_lem (some τ) (sym is) ∙ present τ on) ∙ (λ i. takes (record { place = first i; tag = sym that i }));
            below = within;
            enabled_there = rw (that, eq-eqb _ _ first) on;
          }
