-- 02, R-11, proved: from states of which one is within the other a range run and a plain run go in step (`states_in_step`), and so they do from inputs
-- (`runs_in_step`); what a range run that completes or hangs promises of every choice of inputs within the ranges (`ranges_promise`); and any two orders of
-- range runs agree (`any_two_range_orders`). Assumes nothing.
use Rattle.std.proofs.Common.{Ok, Err}
use Prim.Native.Nat.{ℕ, zero, suc, ◌/◌}
use mathlib.Core.Path.{◌≡◌, refl, sym, ap, ◌∙◌, subst}
use mathlib.Core.Bool.{Bool, true, not, ◌&&◌}
use mathlib.Core.List.{List, [], ◌∷◌, map}
use native.Mathlib.Omega.{arith}
use lib.ListN.{length, take, drop, replicate, length-map, length-replicate}
use lib.Dec.{eqb, leb, ltb}
use lib.IntN.{ℤ, pos}
use borrow.Author.Tests.{eqb-true, leb-true}
use Rattle.record.specs.declared.tag.Tag.{Tag}
use Rattle.record.specs.declared.array.NamedArray.{NamedArray}
use Rattle.record.specs.declared.token.Token as Record
use Rattle.record.specs.declared.token.Content as RecordContent
use Rattle.record.specs.declared.token.Content.TheVariants.{Live, Spent, Deferred}
use Rattle.record.specs.declared.instruction.Instruction.{Instruction}
use Rattle.number.specs.Number.{byte_at, number32, signed_of}
use Rattle.buffer.specs.Rows.{whole, rows, all_rows}
use Rattle.buffer.proofs.Tables.{length_rows}
use Rattle.record.specs.GraphRecords.{graph_of}
use Rattle.record.specs.Paths.{is_root}
use Rattle.record.specs.Arrays.{arrays_of}
use Rattle.record.specs.TokensAndTags.{path_in, tag_in, port_in, is_input, stands_at, same_tag, content_of, most_tokens, capacity_of}
use Rattle.record.specs.TokensAndTags as Tokens
use Rattle.record.specs.Widths.{range_token_width, range_cell_width, token_width, state_offset, cell_width, pick_width}
use Rattle.arithmetic.specs.declared.Range.{Range}
use Rattle.arithmetic.specs.Ranges.{Holds}
use Rattle.arithmetic.proofs.Order.{le_test}
use Rattle.arithmetic.proofs.Corners.{holds_proper}
use Rattle.machine.specs.Machine.{Key, Content, absent, State, End, Machine, output, by_picks, run}
use Rattle.machine.specs.Bounded.{run_bounded}
use Rattle.machine.specs.Orders.{Good, Quiescent}
use Rattle.machine.specs.InStep.{PlaceByPlace, no_more, pair, RelatedContent, both_live, both_spent, both_deferred, RelatedCell, both_absent, RelatedToken, at_key, RelatedState, RelatedEnds, InStep, alike, stopped}
use Rattle.machine.proofs.Kept.{Each}
use Rattle.machine.proofs.InStep.{pair_length, pair_map, pair_same, pair_grows, good_related, in_step}
use Rattle.machine.proofs.Orders.{orders}
use Rattle.machine.proofs.Bounded.{unbounded}
use Rattle.rules.specs.declared.answer.Refusal.{Refusal}
use Rattle.rules.specs.declared.answer.Refusal.TheVariants as Refusals
use Rattle.rules.specs.Check.{demand, any, in_turn, operands_at, check_graph, check_stores, check_arrays, good_input, second_input, check_inputs, Checked}
use Rattle.rules.specs.InstructionSet.{effect_in, machine_of}
use Rattle.rules.specs.Run.{content_held, token_held, first_state, picks_of, unless_failed}
use Rattle.rules.specs.Held.{held_in}
use Rattle.rules.specs.Bounded.{and_bound, check_bounded, bounded}
use Rattle.rules.specs.Run as Plain
use Rattle.rules.specs.RangeSet.{range_machine_of}
use Rattle.rules.specs.RangeRun.{range_in, with_high, decode_range, range_capacity_of, check_range_stores, is_proper_range, check_range_inputs, check_ranges, first_ranges, RangeResult, refused_at_once, ran_to, ranges_unless_failed, range_result}
use Rattle.rules.specs.Ranges.{ChosenFrom, ChosenInputs, AsManyRecords, Promised, RangesPromise, SameEnds, AnyTwoRangeOrders}
use Rattle.rules.proofs.Passed.{both, demand_passed, and_then_passed}
use Rattle.rules.proofs.Inputs.{inputs_distinct}
use Rattle.rules.proofs.RangeSet.{held_same, ranges_lawful, OfRanges}
use Rattle.rules.proofs.RangeEffects.{effects_related}

-- ---- the claims

-- the runs go in step, with a bound or none: keys and states are equal place by place and each value lies in its token's range, cells too, unless the range run is
-- refused by 12 or 23
abbrev pub StatesInStep : Type 0
StatesInStep = (g : List Instruction) (table : List NamedArray) (capacity cells k : ℕ) (s : State Tag Range) (u : State Tag ℤ) → RelatedState Holds s u → (budget : ℕ) (picks : List ℕ)
    → let M = range_machine_of g table capacity cells in
    let N = machine_of g table capacity cells in
    InStep Holds OfRanges (run_bounded M (held_in g k) (by_picks M) budget picks 0 s) (run_bounded N (held_in g k) (by_picks N) budget picks 0 u)

-- refused at once alike; else they go in step
abbrev pub ResultsInStep : RangeResult → Plain.Result → Type 0
ResultsInStep (refused_at_once r p) (Plain.refused_at_once q o) = (r ≡ q) × (p ≡ o)
ResultsInStep (refused_at_once r p) (Plain.ran_to e) = ⊥
ResultsInStep (ran_to d) (Plain.refused_at_once q o) = ⊥
ResultsInStep (ran_to d) (Plain.ran_to e) = InStep Holds OfRanges d e

-- so the plain run answers as the range run does, with the same number and place if refused, unless that is refused by 12 or 23 in a firing
abbrev pub RunsInStep : Type 0
RunsInStep = (graph arrays ranges inputs picks : List ℕ) (budget k range_ledger range_cells ledger cells : ℕ) → ChosenInputs ranges inputs → AsManyRecords range_ledger range_cells ledger cells
    → ResultsInStep (range_result graph arrays ranges picks budget k range_ledger range_cells) (bounded graph arrays inputs picks budget k ledger cells)

-- ---- from states

pub states_in_step : StatesInStep
states_in_step g table capacity cells k s u h budget picks =
    in_step (range_machine_of g table capacity cells) ℤ (effect_in g table cells) (pos 0) Holds OfRanges (effects_related g table capacity cells)
    (by_picks (range_machine_of g table capacity cells)) (by_picks (machine_of g table capacity cells)) (λ x y r pick a more. refl) (held_in g k) (held_in g k) (held_same Holds g k) s u h budget picks 0

-- completed or hung is not refused
at_rest : (d : End Refusal Tag Range) (e : End Refusal Tag ℤ) → InStep Holds OfRanges d e → Quiescent d.outcome → RelatedEnds Holds d e
at_rest d e (alike h) q = h
at_rest d e (stopped r p f a) q = absurd (subst Quiescent f q)

-- ---- rows

-- what is read of records is read of the bytes from each on
rows_read : {A : Type 0} (width : ℕ) (read : List ℕ → A) (n : ℕ) (l : List ℕ) → rows width read n l ≡ map read (rows width (λ b. b) n l)
rows_read width read zero l = refl
rows_read width read (suc n) l = ap (λ (xs : List _). read l ∷ xs) (rows_read width read n (drop width l))

pub all_read : {A : Type 0} (width : ℕ) (read : List ℕ → A) (l : List ℕ) → all_rows width read l ≡ map read (all_rows width (λ b. b) l)
all_read width read l = rows_read width read (length l / width) l

map_map : {A B C : Type 0} (f : A → B) (g : B → C) (xs : List A) → map g (map f xs) ≡ map (λ x. g (f x)) xs
map_map f g [] = refl
map_map f g (x ∷ xs) = ap (λ (ys : List _). g (f x) ∷ ys) (map_map f g xs)

-- ---- lists, place by place

module _ {A B : Type 0} (R : A → B → Type 0) where
  same_map : {C : Type 0} (f : A → C) (g : B → C) → ((x : A) (y : B) → R x y → f x ≡ g y) → {xs : List A} {ys : List B} → PlaceByPlace R xs ys → map f xs ≡ map g ys
  same_map f g h no_more = refl
  same_map f g h (pair {x = x} {y = y} k t) = rw (h x y k, same_map f g h t)

  pair_with : (P : A → Type 0) {xs : List A} {ys : List B} → Each P xs → PlaceByPlace R xs ys → PlaceByPlace (λ x y. P x × R x y) xs ys
  pair_with P e no_more = no_more
  pair_with P e (pair k t) = pair (e.0, k) (pair_with P e.1 t)

  pair_take : (n : ℕ) {xs : List A} {ys : List B} → PlaceByPlace R xs ys → PlaceByPlace R (take n xs) (take n ys)
  pair_take zero h = no_more
  pair_take (suc n) no_more = no_more
  pair_take (suc n) (pair k t) = pair k (pair_take n t)

  same_any : (f : A → Bool) (g : B → Bool) → ((x : A) (y : B) → R x y → f x ≡ g y) → {xs : List A} {ys : List B} → PlaceByPlace R xs ys → any f xs ≡ any g ys
  same_any f g h no_more = refl
  same_any f g h (pair {x = x} {y = y} k t) = rw (h x y k, same_any f g h t)

  same_turn : (f : ℕ → A → Checked) (g : ℕ → B → Checked) → ((i : ℕ) (x : A) (y : B) → R x y → f i x ≡ g i y) → (i : ℕ) {xs : List A} {ys : List B} → PlaceByPlace R xs ys → in_turn f i xs ≡ in_turn g i ys
  same_turn f g h i no_more = refl
  same_turn f g h i (pair {x = x} {y = y} k t) = rw (h i x y k, same_turn f g h (suc i) t)

-- ---- an input of a range run and a plain one, which differ in the value alone

pub record SameFields (range input : List ℕ) : Type 0 where
  pub tag : tag_in range ≡ tag_in input
  pub port : port_in range ≡ port_in input
  pub state : number32 range state_offset ≡ number32 input state_offset

chosen_fields : {l m : List ℕ} → ChosenFrom l m → SameFields l m
chosen_fields c = record { tag = c.tag; port = c.port; state = c.state }

module _ {l m : List ℕ} (c : SameFields l m) where
  same_good : (g : List Instruction) → good_input g l ≡ good_input g m
  unfolding good_input is_input
  same_good g =
      ap (λ (τ : Tag). (is_root τ.path && (eqb τ.iteration 0 && eqb (number32 l state_offset) 0)) && ltb (port_in l) (operands_at g τ.instruction)) c.tag
      ∙ rw (c.state, c.port)

  same_key_lem : (token_held (Tokens.decode_token l)).key ≡ (token_held (Tokens.decode_token m)).key
  unfolding Tokens.decode_token
  same_key_lem = λ i. record { tag = c.tag i; port = c.port i }

-- a good input is live
pub zero_state : (g : List Instruction) (l : List ℕ) → good_input g l ≡ true → byte_at l state_offset ≡ 0
unfolding good_input is_input
zero_state g l e =
    let good = (both (is_input l) _ e).0 in
    let rest = (both (is_root (path_in l)) _ good).1 in
    let zeros : number32 l state_offset ≡ 0 = eqb-true (number32 l state_offset) 0 (both (eqb (tag_in l).iteration 0) (eqb (number32 l state_offset) 0) rest).1 in
    omega arith

at_same : {R : Range → ℤ → Type 0} {k j : Key Tag} {x : Content Range} {y : Content ℤ} → k ≡ j → RelatedContent R x y → RelatedToken R (output x k) (output y j)
at_same {R} {k} {j} {x} {y} e h = subst (λ (z : Key Tag). RelatedToken R (output x k) (output y z)) e (at_key h)

chosen_related : (g : List Instruction) (l m : List ℕ) → (good_input g l ≡ true) × ChosenFrom l m → RelatedToken Holds (decode_range l) (token_held (Tokens.decode_token m))
unfolding decode_range Tokens.decode_token content_of
chosen_related g l m (e, c) =
    let live-l = zero_state g l e in
    let live-m = zero_state g m (sym (same_good (chosen_fields c) g) ∙ e) in
    at_same (same_key_lem (chosen_fields c)) (rw (live-l, live-m) (both_live c.value))

-- ---- from inputs

-- each row is good
pub good_rows : (g : List Instruction) (n i : ℕ) (l : List ℕ) → in_turn (λ k good. demand good Refusals.BadInput k) i (rows range_token_width (good_input g) n l) ≡ Ok tt
    → Each (λ b. good_input g b ≡ true) (rows range_token_width (λ b. b) n l)
good_rows g zero i l e = tt
good_rows g (suc n) i l e =
    let parts = and_then_passed (demand (good_input g l) Refusals.BadInput i) _ e in
    (demand_passed (good_input g l) Refusals.BadInput i parts.0, good_rows g n (suc i) (drop range_token_width l) parts.1)

pub cells_related : (R : Range → ℤ → Type 0) (n : ℕ) → PlaceByPlace (RelatedCell R) (replicate n absent) (replicate n absent)
cells_related R zero = no_more
cells_related R (suc n) = pair both_absent (cells_related R n)

module _ (g : List Instruction) (ranges inputs : List ℕ) (c : ChosenInputs ranges inputs) where
  abbrev Rows : List (List ℕ)
  Rows = all_rows range_token_width (λ b. b) ranges

  first_related : (cells : ℕ) → in_turn (λ k good. demand good Refusals.BadInput k) 0 (all_rows range_token_width (good_input g) ranges) ≡ Ok tt → RelatedState Holds (first_ranges ranges cells) (first_state inputs cells)
  unfolding first_ranges first_state
  first_related cells e = record {
    tokens = rw (all_read range_token_width decode_range ranges, all_read token_width Tokens.decode_token inputs, map_map Tokens.decode_token token_held (all_rows token_width (λ b. b) inputs))
        (pair_map (λ l m. (good_input g l ≡ true) × ChosenFrom l m) (RelatedToken Holds) decode_range (λ m. token_held (Tokens.decode_token m)) (chosen_related g)
        (pair_with ChosenFrom (λ l. good_input g l ≡ true) (good_rows g (length ranges / range_token_width) 0 ranges e) c.each));
    cells = cells_related Holds cells;
  }

-- inputs whose fields are the same but for the values
module _ (ranges inputs : List ℕ) (each : PlaceByPlace SameFields (all_rows range_token_width (λ b. b) ranges) (all_rows token_width (λ b. b) inputs)) where
  -- as many inputs
  pub same_count : length ranges / range_token_width ≡ length inputs / token_width
  same_count = sym (length_rows range_token_width (λ b. b) (length ranges / range_token_width) ranges) ∙ pair_length SameFields each ∙ length_rows token_width (λ b. b) (length inputs / token_width) inputs

  -- tokens at one port of one tag
  abbrev SamePlace : Record.Token → Record.Token → Type 0
  SamePlace t u = (token_held t).key ≡ (token_held u).key

  tokens_placed : PlaceByPlace SamePlace (all_rows range_token_width Tokens.decode_token ranges) (all_rows token_width Tokens.decode_token inputs)
  tokens_placed = rw (all_read range_token_width Tokens.decode_token ranges, all_read token_width Tokens.decode_token inputs) (pair_map SameFields SamePlace Tokens.decode_token Tokens.decode_token (λ l m k. same_key_lem k) each)

  stands_same : (τ : Tag) (p : ℕ) (t u : Record.Token) → SamePlace t u → stands_at τ p t ≡ stands_at τ p u
  unfolding stands_at
  stands_same τ p t u e = ap (λ (k : Key Tag). eqb k.port p && same_tag k.tag τ) e

  second_same : (i : ℕ) (t u : Record.Token) → SamePlace t u
      → demand (not (second_input (take i (all_rows range_token_width Tokens.decode_token ranges)) t)) Refusals.SecondToken i ≡ demand (not (second_input (take i (all_rows token_width Tokens.decode_token inputs)) u)) Refusals.SecondToken i
  unfolding second_input
  second_same i t u e =
      let before : any (stands_at t.tag t.port) (take i (all_rows range_token_width Tokens.decode_token ranges)) ≡ any (stands_at t.tag t.port) (take i (all_rows token_width Tokens.decode_token inputs)) =
      same_any SamePlace (stands_at t.tag t.port) (stands_at t.tag t.port) (stands_same t.tag t.port) (pair_take SamePlace i tokens_placed) in
      let there = ap (λ (k : Key Tag). any (stands_at k.tag k.port) (take i (all_rows token_width Tokens.decode_token inputs))) e in
      ap (λ (b : Bool). demand (not b) Refusals.SecondToken i) (before ∙ there)

  -- 6 looks at no value
  pub same_good_rows : (g : List Instruction) → all_rows range_token_width (good_input g) ranges ≡ all_rows token_width (good_input g) inputs
  same_good_rows g = all_read range_token_width (good_input g) ranges ∙ same_map SameFields (good_input g) (good_input g) (λ l m k. same_good k g) each ∙ sym (all_read token_width (good_input g) inputs)

  -- nor do 8 and 9: where no range is refused by 23, all of the check is that of the plain inputs
  pub same_fields : (g : List Instruction) (capacity : ℕ) → in_turn (λ k r. demand (is_proper_range r) Refusals.Undecided k) 0 (all_rows range_token_width range_in ranges) ≡ Ok tt
      → check_range_inputs g capacity ranges ≡ check_inputs g capacity inputs
  unfolding check_range_inputs check_inputs
  same_fields g capacity proper =
      let nine = same_turn SamePlace _ _ second_same 0 tokens_placed in
      rw (same_good_rows g, proper, pair_length SamePlace tokens_placed, nine)

-- each range holds its choice, so that none is refused by 23
all_proper_lem : (i : ℕ) {xs ys : List (List ℕ)} → PlaceByPlace ChosenFrom xs ys → in_turn (λ k r. demand (is_proper_range r) Refusals.Undecided k) i (map range_in xs) ≡ Ok tt
all_proper_lem i no_more = refl
all_proper_lem i (pair {x = l} k t) = rw (le_test (range_in l).low (range_in l).high (holds_proper (range_in l) _ k.value)) (all_proper_lem (suc i) t)

module _ (ranges inputs : List ℕ) (c : ChosenInputs ranges inputs) where
  fields_each : PlaceByPlace SameFields (all_rows range_token_width (λ b. b) ranges) (all_rows token_width (λ b. b) inputs)
  fields_each = pair_grows ChosenFrom SameFields (λ l m k. chosen_fields k) c.each

  same_inputs : (g : List Instruction) (capacity : ℕ) → check_range_inputs g capacity ranges ≡ check_inputs g capacity inputs
  same_inputs g capacity = same_fields ranges inputs fields_each g capacity (rw (all_read range_token_width range_in ranges) (all_proper_lem 0 c.each))

-- ---- whole runs

-- of a check that passed
record RangesPassed (graph arrays ranges picks : List ℕ) (k ledger cells : ℕ) : Type 0 where
  graph_passed : check_graph graph ≡ Ok tt
  inputs_passed : check_range_inputs (graph_of graph) (range_capacity_of ledger) ranges ≡ Ok tt

ranges_passed : (graph arrays ranges picks : List ℕ) (k ledger cells : ℕ) → check_ranges graph arrays ranges picks k ledger cells ≡ Ok tt → RangesPassed graph arrays ranges picks k ledger cells
unfolding check_ranges
ranges_passed graph arrays ranges picks k ledger cells e =
    let parts = and_then_passed (check_graph graph) _ e in
    let later = and_then_passed (and_bound (check_range_stores (length ranges) (length picks) ledger cells) k) _ parts.1 in
    let last = and_then_passed (check_arrays (graph_of graph) (cells / range_cell_width) arrays) _ later.1 in
    record { graph_passed = parts.0; inputs_passed = last.1 }

-- the first of the tests passed
pub sixth_passed : (g : List Instruction) (capacity : ℕ) (ranges : List ℕ) → check_range_inputs g capacity ranges ≡ Ok tt → in_turn (λ k good. demand good Refusals.BadInput k) 0 (all_rows range_token_width (good_input g) ranges) ≡ Ok tt
unfolding check_range_inputs
sixth_passed g capacity ranges e = (and_then_passed (in_turn (λ k good. demand good Refusals.BadInput k) 0 (all_rows range_token_width (good_input g) ranges)) _ e).0

module _ (graph arrays ranges inputs picks : List ℕ) (k range_ledger range_cells ledger cells : ℕ) (c : ChosenInputs ranges inputs) (m : AsManyRecords range_ledger range_cells ledger cells) where
  -- as many inputs, the same picks
  same_stores : check_range_stores (length ranges) (length picks) range_ledger range_cells ≡ check_stores (length inputs) (length picks) ledger cells
  unfolding check_range_stores check_stores
  same_stores =
      rw (c.whole_ranges, c.whole_inputs, same_count ranges inputs (fields_each ranges inputs c), m.whole_range_ledger, m.whole_range_cells, m.whole_ledger, m.whole_cells)

  same_checks : check_ranges graph arrays ranges picks k range_ledger range_cells ≡ check_bounded graph arrays inputs picks k ledger cells
  unfolding check_ranges check_bounded
  same_checks = rw (same_stores, m.capacity, m.cell_count, same_inputs ranges inputs c (graph_of graph) (capacity_of ledger))

  passed_in_step : (budget : ℕ) → RangesPassed graph arrays ranges picks k range_ledger range_cells
      → let M = range_machine_of (graph_of graph) (arrays_of arrays) (range_capacity_of range_ledger) (range_cells / range_cell_width) in
      let N = machine_of (graph_of graph) (arrays_of arrays) (capacity_of ledger) (cells / cell_width) in
      InStep Holds OfRanges (run_bounded M (held_in (graph_of graph) k) (by_picks M) budget (picks_of picks) 0 (first_ranges ranges (range_cells / range_cell_width)))
      (run_bounded N (held_in (graph_of graph) k) (by_picks N) budget (picks_of picks) 0 (first_state inputs (cells / cell_width)))
  passed_in_step budget p =
      rw (← m.capacity, ← m.cell_count)
      (states_in_step (graph_of graph) (arrays_of arrays) (range_capacity_of range_ledger) (range_cells / range_cell_width) k _ _
      (first_related (graph_of graph) ranges inputs c (range_cells / range_cell_width) (sixth_passed (graph_of graph) (range_capacity_of range_ledger) ranges p.inputs_passed)) budget (picks_of picks))

pub runs_in_step : RunsInStep
unfolding range_result ranges_unless_failed bounded unless_failed
runs_in_step graph arrays ranges inputs picks budget k range_ledger range_cells ledger cells c m = go (check_ranges graph arrays ranges picks k range_ledger range_cells) refl
  where
    go : (x : Checked) → check_ranges graph arrays ranges picks k range_ledger range_cells ≡ x
        → ResultsInStep (range_result graph arrays ranges picks budget k range_ledger range_cells) (bounded graph arrays inputs picks budget k ledger cells)
    go (Err fault) e = let f = sym (same_checks graph arrays ranges inputs picks k range_ledger range_cells ledger cells c m) ∙ e in rw (e, f) (refl, refl)
    go (Ok _) e =
        let f = sym (same_checks graph arrays ranges inputs picks k range_ledger range_cells ledger cells c m) ∙ e in
        rw (e, f) (passed_in_step graph arrays ranges inputs picks k range_ledger range_cells ledger cells c m budget (ranges_passed graph arrays ranges picks k range_ledger range_cells e))

pub ranges_promise : RangesPromise
ranges_promise graph arrays ranges inputs picks budget k range_ledger range_cells ledger cells c m =
    rest (range_result graph arrays ranges picks budget k range_ledger range_cells) (bounded graph arrays inputs picks budget k ledger cells)
    (runs_in_step graph arrays ranges inputs picks budget k range_ledger range_cells ledger cells c m)
  where
    rest : (x : RangeResult) (y : Plain.Result) → ResultsInStep x y → Promised x y
    rest (refused_at_once r p) y h = tt
    rest (ran_to d) (Plain.refused_at_once r p) h = h
    rest (ran_to d) (Plain.ran_to e) h = at_rest d e h

-- ---- any two orders

-- the plain state of the low values: it has the same keys
lows : (ranges : List ℕ) (cells : ℕ) → State Tag ℤ
lows ranges n = record { tokens = map token_held (all_rows range_token_width Tokens.decode_token ranges); cells = replicate n absent }

Any : Range → ℤ → Type 0
Any r v = Unit {0}

low_related : (l : List ℕ) → RelatedToken Any (decode_range l) (token_held (Tokens.decode_token l))
unfolding decode_range Any
low_related l = at_key (content (Tokens.decode_token l).content)
  where
    content : (x : RecordContent.Content) → RelatedContent Any (with_high (signed_of (number32 l token_width)) x) (content_held x)
    content (Live v) = both_live tt
    content (Spent v) = both_spent tt
    content (Deferred d) = both_deferred

lows_related : (ranges : List ℕ) (cells : ℕ) → RelatedState Any (first_ranges ranges cells) (lows ranges cells)
unfolding first_ranges lows
lows_related ranges cells = record {
  tokens = rw (all_read range_token_width decode_range ranges, all_read range_token_width Tokens.decode_token ranges, map_map Tokens.decode_token token_held (all_rows range_token_width (λ b. b) ranges))
      (pair_same (RelatedToken Any) decode_range (λ l. token_held (Tokens.decode_token l)) low_related (all_rows range_token_width (λ b. b) ranges));
  cells = cells_related Any cells;
}

ranges_good : (g : List Instruction) (table : List NamedArray) (capacity cells : ℕ) (ranges : List ℕ) → check_range_inputs g capacity ranges ≡ Ok tt → Good (range_machine_of g table capacity cells) (first_ranges ranges cells)
unfolding check_range_inputs lows
ranges_good g table capacity cells ranges e =
    let ts = all_rows range_token_width Tokens.decode_token ranges in
    let six = and_then_passed (in_turn (λ k good. demand good Refusals.BadInput k) 0 (all_rows range_token_width (good_input g) ranges)) _ e in
    let proper = and_then_passed (in_turn (λ i r. demand (is_proper_range r) Refusals.Undecided i) 0 (all_rows range_token_width range_in ranges)) _ six.1 in
    let eight = and_then_passed (demand (leb (length ts) capacity) Refusals.LedgerFull capacity) _ proper.1 in
    good_related (range_machine_of g table capacity cells) ℤ (effect_in g table cells) (pos 0) Any (first_ranges ranges cells) (lows ranges cells) (lows_related ranges cells)
    (record {
      distinct = inputs_distinct g table capacity cells ts eight.1;
      room = rw (length-map ts token_held) (leb-true (length ts) capacity (demand_passed (leb (length ts) capacity) Refusals.LedgerFull capacity eight.0));
      cell_count = length-replicate cells absent;
    })

-- the checks look at no pick
same_check : (graph arrays ranges picks picks' : List ℕ) (k ledger cells : ℕ) → whole pick_width most_tokens (length picks) ≡ true → whole pick_width most_tokens (length picks') ≡ true
    → check_ranges graph arrays ranges picks k ledger cells ≡ check_ranges graph arrays ranges picks' k ledger cells
unfolding check_ranges check_range_stores
same_check graph arrays ranges picks picks' k ledger cells a b = rw (a, b)

-- with bound 0 nothing is held back
pub none_held : (g : List Instruction) (table : List NamedArray) (capacity cells budget : ℕ) (picks : List ℕ) (s : State Tag Range)
    → let M = range_machine_of g table capacity cells in run_bounded M (held_in g 0) (by_picks M) budget picks 0 s ≡ run M budget picks s
unfolding held_in
none_held g table capacity cells budget picks s = let M = range_machine_of g table capacity cells in (unbounded M (held_in g 0) (λ x a. refl) (by_picks M) budget picks 0 s).0

pub any_two_range_orders : AnyTwoRangeOrders
unfolding range_result ranges_unless_failed
any_two_range_orders graph arrays ranges picks picks' budget ledger cells a b = go (check_ranges graph arrays ranges picks 0 ledger cells) refl
  where
    M : Machine
    M = range_machine_of (graph_of graph) (arrays_of arrays) (range_capacity_of ledger) (cells / range_cell_width)

    go : (x : Checked) → check_ranges graph arrays ranges picks 0 ledger cells ≡ x → SameEnds (range_result graph arrays ranges picks budget 0 ledger cells) (range_result graph arrays ranges picks' budget 0 ledger cells)
    go (Err fault) e = let e' = sym (same_check graph arrays ranges picks picks' 0 ledger cells a b) ∙ e in rw (e, e') (refl, refl)
    go (Ok _) e =
        let p = ranges_passed graph arrays ranges picks 0 ledger cells e in
        let e' = sym (same_check graph arrays ranges picks picks' 0 ledger cells a b) ∙ e in
        let n = none_held (graph_of graph) (arrays_of arrays) (range_capacity_of ledger) (cells / range_cell_width) budget in
        let first = first_ranges ranges (cells / range_cell_width) in
        rw (e, e', n (picks_of picks) first, n (picks_of picks') first)
        (orders M (ranges_lawful graph p.graph_passed (arrays_of arrays) (range_capacity_of ledger) (cells / range_cell_width)) first
        (ranges_good (graph_of graph) (arrays_of arrays) (range_capacity_of ledger) (cells / range_cell_width) ranges p.inputs_passed) budget (picks_of picks) (picks_of picks'))
