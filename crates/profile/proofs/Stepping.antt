-- A step of a profile: what is enabled at its start by the arrays is what the machine has enabled there, and the activities at their places, fired in turn, are the
-- machine's step. Assumes nothing.
use Prim.Native.Nat.{ℕ, zero, suc, ◌+◌, ◌-◌, ◌*◌, ◌/◌, ◌≤◌, ◌<◌}
use mathlib.Core.Path.{◌≡◌, refl, sym, ap, ◌∙◌, subst}
use mathlib.Core.List.Memᴰ
use mathlib.Core.List.{List, [], ◌∷◌, ◌++◌, map, Memᴰ}
use mathlib.Core.Logic.{◌⊎◌, inl, inr}
use mathlib.Core.Bool.{true}
use native.Mathlib.Omega.{arith}
use lib.Dec.{eqb}
use lib.ListN.{length, get_or, drop, length-map, length-append}
use lib.IntN.{ℤ}
use Rattle.record.specs.declared.tag.Tag.{Tag}
use Rattle.record.specs.declared.array.NamedArray.{NamedArray}
use Rattle.record.specs.declared.token.Token as Record
use Rattle.record.specs.declared.cell.Cell.{Cell}
use Rattle.record.specs.declared.instruction.Instruction.{Instruction}
use Rattle.record.specs.GraphRecords.{graph_of}
use Rattle.record.specs.TokensAndTags.{tokens, token_at}
use Rattle.record.specs.TokensAndTags as Tokens
use Rattle.record.specs.Widths.{token_width, cell_width}
use Rattle.buffer.proofs.Tables.{length_rows, get_d_rows}
use Rattle.machine.specs.Machine.{Machine, State, Ledger, Activity, live, spent, deferred, Content, refused, FiredOf, ending, enabled, fire, fired, not_fired, end}
use Rattle.machine.specs.Orders.{Lawful, Good}
use Rattle.machine.specs.Steps.{Profile, is_unspent, unspent_in, ends_here, after_step, tried, fires_in_turn, profile}
use Rattle.machine.specs.Sequences.{Fires}
use Rattle.machine.proofs.Sequences.{joined}
use Rattle.machine.proofs.Steps.{Waiting, at_start, waits_on, unspent_fired, profile_rests, profile_no_record, profile_step}
use Rattle.machine.proofs.Choosers.{places_of}
use Rattle.rules.specs.declared.answer.Refusal.{Refusal}
use Rattle.rules.specs.declared.answer.Refusal.TheVariants.{ProfileFull}
use Rattle.rules.specs.declared.answer.Outcome as AnswerOutcome
use Rattle.rules.specs.declared.answer.Outcome.TheVariants as Outcomes
use Rattle.rules.specs.InstructionSet.{machine_of}
use Rattle.rules.specs.Run.{token_held}
use Rattle.rules.proofs.Lawful.{lawful}
use Rattle.store_flags.specs.Flags.{places}
use Rattle.store_chains.proofs.Index.{and_right}
use Rattle.store.proofs.Laws.{matching_places, matching_enabled_below, matching_leads, matching_room}
use Rattle.store_enabled.specs.Enabled.{arity_of, operands_live, earliest_of, leads_in, enabled_places}
use Rattle.abstraction.specs.States.{no_token, state_held, OnPorts}
use Rattle.abstraction.specs.Tables.{Arities, arrays_in}
use Rattle.abstraction.proofs.Arities.{arity_small}
use Rattle.abstraction.proofs.Enabled.{held_enabled}
use Rattle.ending.specs.Endings.{EndsWith}
use Rattle.fire_outputs.specs.Outputs.{cells_in}
use Rattle.fire.specs.Running.{machine_over, state_in, asked_in, Running, Prepared}
use Rattle.fire.specs.Running as Firing
use Rattle.fire.proofs.Effects.{fires_asked}
use Rattle.fire.proofs.Place.{on_ports}
use Rattle.engine.proofs.Looping.{Underway, none_fired, as_lent, went_on}
use Rattle.profile.specs.Steps.{OneOrTwo, PlacesIn, unspent_at, WentBy, SteppedWhole, ProfileHalted, AllFired, LastAs}

-- ---- live and deferred tokens

one_at_most : {W : Type 0} (x : Content W) → is_unspent x ≤ 1
one_at_most (live v) = omega arith
one_at_most (spent v) = omega arith
one_at_most (deferred c) = omega arith

pub unspent_few : (M : Machine) (ts : Ledger M) → unspent_in M ts ≤ length ts
unspent_few M [] = omega arith
unspent_few M (t ∷ ts) = omega (arith, unspent_few M ts, one_at_most t.content)

pub held_size : (used : ℕ) (ledger : List ℕ) → length (map token_held (tokens used ledger)) ≡ used
held_size used ledger = length-map (tokens used ledger) token_held ∙ length_rows token_width Tokens.decode_token used ledger

pub unspent_below : {g : List Instruction} {tables links flags ledger cells : List ℕ} {used live : ℕ} → Running g tables links flags ledger cells used → live ≡ unspent_at g tables ledger cells used → live ≤ used
unspent_below {g} {tables} {ledger = ledger} {cells = cells} {used = used} now e = omega (arith, unspent_few (machine_over g tables ledger cells) (state_in ledger cells used).tokens, held_size used ledger)

-- ---- what is enabled

module _ (g : List Instruction) (table : List NamedArray) (capacity count : ℕ) (tables : List ℕ) (ts : List Record.Token) (cs : List Cell) (right : Arities g tables) (ports : OnPorts g ts) where
  abbrev M : Machine
  M = machine_of g table capacity count

  abbrev activity : ℕ → Activity Tag
  activity p = record { place = p; tag = (get_or ts p no_token).tag }

  enabled_here : enabled M (state_held ts cs) ≡ map activity (enabled_places tables ts)
  enabled_here = held_enabled g table capacity count tables ts cs no_token right ports

  none_enabled : length (enabled_places tables ts) ≡ 0 → enabled M (state_held ts cs) ≡ []
  none_enabled e = enabled_here ∙ go (enabled_places tables ts) e
    where
      go : (l : List ℕ) → length l ≡ 0 → map activity l ≡ []
      go [] h = refl
      go (p ∷ l) h = absurd (omega arith)

  full_here : Lawful M → (f : ℕ) → (length (enabled_places tables ts) ≡ 0 → ⊥) → profile M ProfileFull 0 f (state_held ts cs) ≡ ends_here M (end M (refused ProfileFull 0) f (state_held ts cs))
  full_here law f n = go (enabled_places tables ts) refl n
    where
      go : (l : List ℕ) → enabled_places tables ts ≡ l → (length l ≡ 0 → ⊥) → profile M ProfileFull 0 f (state_held ts cs) ≡ ends_here M (end M (refused ProfileFull 0) f (state_held ts cs))
      go [] e h = absurd (h refl)
      go (p ∷ l) e h = profile_no_record M law ProfileFull f (state_held ts cs) (activity p) (map activity l) (enabled_here ∙ ap (map activity) e)

-- ---- no record left

pub last_ended : (tables : List ℕ) (ts : List Record.Token) → length (enabled_places tables ts) ≡ 0 → (o : AnswerOutcome.Outcome) → EndsWith o tables ts → LastAs o tables ts
last_ended tables ts z o e g right ports table capacity count law cs f =
    let M₁ = machine_of g table capacity count in
    (ending M₁ (state_held ts cs), sym (e g right table capacity count cs), profile_rests M₁ law ProfileFull 0 f (state_held ts cs) (none_enabled g table capacity count tables ts cs right ports z))

pub last_full : (tables : List ℕ) (ts : List Record.Token) → (length (enabled_places tables ts) ≡ 0 → ⊥) → LastAs (Outcomes.Refused ProfileFull 0) tables ts
last_full tables ts n g right ports table capacity count law cs f = (refused ProfileFull 0, refl, full_here g table capacity count tables ts cs right ports law f n)

-- ---- a step, activity by activity

-- of an enabled activity by its place: its token is the earliest of its tag, and it has an operand or two
pub record Standing (tables ledger : List ℕ) (used place : ℕ) : Type 0 where
  pub below : place < used
  pub room : place < length ledger / token_width
  pub leading : leads_in tables (tokens used ledger) place (token_at ledger place) ≡ true
  pub arity : OneOrTwo (arity_of tables (token_at ledger place).tag)

-- after k of a step's activities, from a ledger and cells as lent
pub record Midway (g : List Instruction) (tables ledger₀ cells₀ : List ℕ) (start count : ℕ) (from links flags ledger cells : List ℕ) (used k spent : ℕ) : Type 0 where
  pub log : List Tag
  pub fires : Fires (machine_over g tables ledger₀ cells₀) (state_in ledger₀ cells₀ start) log (state_in ledger cells used)
  pub counted : length log ≡ k
  pub few : spent ≤ 2 * k
  pub unspent : unspent_in (machine_over g tables ledger₀ cells₀) (state_in ledger cells used).tokens + spent ≡ unspent_at g tables ledger₀ cells₀ start + (used - start)
  pub under : Underway g ledger₀ cells₀ start tables links flags ledger cells used
  -- those that are left
  pub more : List (Activity Tag)
  pub waiting : Waiting (machine_over g tables ledger₀ cells₀) more (state_in ledger cells used)
  pub size : length more + k ≡ count
  pub at : (j : ℕ) → j < length more → get_or (places_of (machine_over g tables ledger₀ cells₀) more) j 0 ≡ get_or from (k + j) 0
  pub to_do : (f : ℕ) (next : ℕ → State Tag ℤ → Profile Refusal Tag ℤ) → fires_in_turn (machine_over g tables ledger₀ cells₀) (enabled (machine_over g tables ledger₀ cells₀) (state_in ledger₀ cells₀ start)) f (state_in ledger₀ cells₀ start) next
      ≡ fires_in_turn (machine_over g tables ledger₀ cells₀) more (f + k) (state_in ledger cells used) next

-- the first of these activities stands at its place
pub record Next (tables : List ℕ) (more : List (Activity Tag)) (ledger : List ℕ) (used place : ℕ) : Type 0 where
  pub after : List (Activity Tag)
  pub split : more ≡ record { place = place; tag = (token_at ledger place).tag } ∷ after
  pub standing : Standing tables ledger used place

among_map : (f : ℕ → Activity Tag) (l : List ℕ) (a : Activity Tag) → Memᴰ a (map f l) → (j : ℕ) × (j < length l) × (a ≡ f (get_or l j 0))
among_map f [] a m = absurd (Memᴰ.not-nil m)
among_map f (p ∷ l) a m = go (Memᴰ.cases_cons m) (λ h. among_map f l a h)
  where
    go : (a ≡ f p) ⊎ Memᴰ a (map f l) → (Memᴰ a (map f l) → (j : ℕ) × (j < length l) × (a ≡ f (get_or l j 0))) → (j : ℕ) × (j < length (p ∷ l)) × (a ≡ f (get_or (p ∷ l) j 0))
    go (inl e) rec = (0, omega arith, e)
    go (inr h) rec = let (j, lt, e) = rec h in (suc j, omega arith, e)

live_some : (n : ℕ) (ts : List Record.Token) (τ : Tag) → operands_live n ts τ ≡ true → 0 < n
unfolding operands_live
live_some zero ts τ e = let z : ◌≡◌ {A = ℕ} 0 1 = cc in absurd (omega arith)
live_some (suc n) ts τ e = omega arith

module _ (graph : List ℕ) {tables links₀ flags₀ ledger₀ cells₀ : List ℕ} {start : ℕ} (ready : Prepared graph tables)
    (now₀ : Running (graph_of graph) tables links₀ flags₀ ledger₀ cells₀ start) where
  abbrev g : List Instruction
  g = graph_of graph

  abbrev M₀ : Machine
  M₀ = machine_over g tables ledger₀ cells₀

  abbrev s₀ : State Tag ℤ
  s₀ = state_in ledger₀ cells₀ start

  abbrev acts : List (Activity Tag)
  acts = enabled M₀ s₀

  abbrev started : ℕ → Activity Tag
  started p = record { place = p; tag = (get_or (tokens start ledger₀) p no_token).tag }

  law : Lawful M₀
  law = lawful graph ready.passed (arrays_in tables) (length ledger₀ / token_width) (length cells₀ / cell_width)

  acts_here : acts ≡ map started (enabled_places tables (tokens start ledger₀))
  acts_here = enabled_here g (arrays_in tables) (length ledger₀ / token_width) (length cells₀ / cell_width) tables (tokens start ledger₀) (cells_in cells₀) ready.arities_right (on_ports g (tokens start ledger₀) now₀.arrived)

  places_here : places_of M₀ acts ≡ places flags₀
  places_here = ap (places_of M₀) acts_here ∙ go (enabled_places tables (tokens start ledger₀)) ∙ sym (matching_places now₀.matching)
    where
      go : (l : List ℕ) → places_of M₀ (map started l) ≡ l
      go [] = refl
      go (p ∷ l) = ap (λ (r : List ℕ). p ∷ r) (go l)

  acts_all : (count : ℕ) → count ≡ length (places flags₀) → count ≡ length acts
  acts_all count e = e ∙ ap length (sym places_here) ∙ length-map acts (λ (a : Activity Tag). a.place)

  -- nothing is enabled
  pub step_none : (count : ℕ) → count ≡ length (places flags₀) → count ≡ 0 → (o : AnswerOutcome.Outcome) → EndsWith o tables (tokens start ledger₀)
      → ProfileHalted o g tables links₀ flags₀ ledger₀ cells₀ 0 start start ledger₀ cells₀
  step_none count e z o said = record {
    went = record { log = []; fires = refl; counted = refl; running = now₀; grown = omega arith; size = refl; rest = refl; cell_size = refl };
    outcome = ending M₀ s₀;
    told = sym (said g ready.arities_right (arrays_in tables) (length ledger₀ / token_width) (length cells₀ / cell_width) (cells_in cells₀));
    ends = λ left f.
        let same : f ≡ f + 0 = omega arith in
        profile_rests M₀ law ProfileFull (suc left) f s₀
        (none_enabled g (arrays_in tables) (length ledger₀ / token_width) (length cells₀ / cell_width) tables (tokens start ledger₀) (cells_in cells₀) ready.arities_right (on_ports g (tokens start ledger₀) now₀.arrived)
        (sym (e ∙ ap length (matching_places now₀.matching)) ∙ z))
        ∙ ap (λ (n : ℕ). ends_here M₀ (end M₀ (ending M₀ s₀) n s₀)) same;
  }

  -- a step of the machine is its activities in turn
  by_turns : (left f : ℕ) → 0 < length acts
      → profile M₀ ProfileFull (suc left) f s₀ ≡ fires_in_turn M₀ acts f s₀ (λ n x. after_step M₀ (record { firings = length acts; unspent = unspent_in M₀ x.tokens }) (profile M₀ ProfileFull left n x))
  by_turns left f h = go acts refl h
    where
      go : (l : List (Activity Tag)) → acts ≡ l → 0 < length l
          → profile M₀ ProfileFull (suc left) f s₀ ≡ fires_in_turn M₀ l f s₀ (λ n x. after_step M₀ (record { firings = length l; unspent = unspent_in M₀ x.tokens }) (profile M₀ ProfileFull left n x))
      go [] e h = absurd (omega arith)
      go (a ∷ more) e h = profile_step M₀ law ProfileFull left f s₀ a more e

  -- what comes after the last of them
  abbrev next : (left : ℕ) → ℕ → State Tag ℤ → Profile Refusal Tag ℤ
  next left n y = after_step M₀ (record { firings = length acts; unspent = unspent_in M₀ y.tokens }) (profile M₀ ProfileFull left n y)

  module _ {count : ℕ} {from : List ℕ} (w : PlacesIn count flags₀ from) where
    some_enabled : 0 < count → 0 < length acts
    some_enabled h = omega (arith, acts_all count w.counted)

    pub begun : Midway g tables ledger₀ cells₀ start count from links₀ flags₀ ledger₀ cells₀ start 0 0
    begun = record {
      log = [];
      fires = refl;
      counted = refl;
      few = omega arith;
      unspent = omega arith;
      under = none_fired g ledger₀ cells₀ start tables now₀;
      more = acts;
      waiting = at_start M₀ s₀;
      size = omega (arith, acts_all count w.counted);
      at = λ j h. let z : 0 + j ≡ j = omega arith in ap (λ (l : List ℕ). get_or l j 0) places_here ∙ sym (rw z (w.written j (omega (arith, acts_all count w.counted, h))));
      to_do = λ f go. let z : f ≡ f + 0 = omega arith in ap (λ (n : ℕ). fires_in_turn M₀ acts n s₀ go) z;
    }

    module _ {links flags ledger cells : List ℕ} {used k spent : ℕ} (m : Midway g tables ledger₀ cells₀ start count from links flags ledger cells used k spent) where
      abbrev x : State Tag ℤ
      x = state_in ledger cells used

      good_now : Good M₀ x
      good_now = as_lent g ledger₀ cells₀ start tables m.under (λ capacity cell_count. Good (machine_of g (arrays_in tables) capacity cell_count) x) m.under.running.good

      stands : (a : Activity Tag) → Memᴰ a (enabled M₀ x) → Standing tables ledger used a.place × (a.tag ≡ (token_at ledger a.place).tag)
      stands a h =
          let run = m.under.running in
          let ts = tokens used ledger in
          let all = enabled_here g (arrays_in tables) (length ledger₀ / token_width) (length cells₀ / cell_width) tables ts (cells_in cells) ready.arities_right (on_ports g ts run.arrived) in
          let (j, lt, e) = among_map (λ p. record { place = p; tag = (get_or ts p no_token).tag }) (enabled_places tables ts) a (subst (λ (l : List (Activity Tag)). Memᴰ a l) all h) in
          let p = get_or (enabled_places tables ts) j 0 in
          let at : a.place ≡ p = ap (λ (b : Activity Tag). b.place) e in
          let low = matching_enabled_below run.matching j lt in
          let lead = matching_leads run.matching j lt in
          let tag : (get_or ts p no_token).tag ≡ (token_at ledger p).tag = ap (λ (t : Record.Token). t.tag) (get_d_rows token_width Tokens.decode_token used p ledger no_token low) in
          let on = and_right (eqb (earliest_of ts (token_at ledger p).tag) p) _ lead in (
            subst (λ (q : ℕ). Standing tables ledger used q) (sym at) (record { below = low; room = omega (arith, low, matching_room run.matching); leading = lead; arity = (live_some _ ts _ on, omega (arith, ready.arities_right (token_at ledger p).tag, arity_small g (token_at ledger p).tag)) }),
            ap (λ (b : Activity Tag). b.tag) e ∙ tag ∙ ap (λ (q : ℕ). (token_at ledger q).tag) (sym at),
          )

      pub next_here : k < count → Next tables m.more ledger used (get_or from k 0)
      next_here h = go m.more refl (omega (arith, m.size))
        where
          go : (l : List (Activity Tag)) → m.more ≡ l → 0 < length l → Next tables m.more ledger used (get_or from k 0)
          go [] e z = absurd (omega arith)
          go (a ∷ l) e z =
              let (s, τ) = stands a (m.waiting.enabled_now a (subst (λ (r : List (Activity Tag)). Memᴰ a r) (sym e) (Memᴰ.head refl))) in
              let same : k + 0 ≡ k = omega arith in
              let here : a.place ≡ get_or from k 0 = ap (λ (r : List (Activity Tag)). get_or (places_of M₀ r) 0 0) (sym e) ∙ m.at 0 (subst (λ (r : List (Activity Tag)). 0 < length r) (sym e) z) ∙ ap (λ (n : ℕ). get_or from n 0) same in
              record {
                after = l;
                split = e ∙ (λ i. record { place = here i; tag = (τ ∙ ap (λ (q : ℕ). (token_at ledger q).tag) here) i } ∷ l);
                standing = subst (λ (q : ℕ). Standing tables ledger used q) here s;
              }

      went_so : {links' flags' ledger' cells' : List ℕ} → Running g tables links' flags' ledger' cells' used → ledger' ≡ ledger → cells' ≡ cells → WentBy g tables links' flags' ledger' cells' k used start ledger₀ cells₀
      went_so r l c = record {
        log = m.log;
        fires = subst (λ (y : State Tag ℤ). Fires M₀ s₀ m.log y) (λ i. state_in (sym l i) (sym c i) used) m.fires;
        counted = m.counted;
        running = r;
        grown = m.under.grown;
        size = ap length l ∙ m.under.size;
        rest = ap (drop (used * token_width)) l ∙ m.under.rest;
        cell_size = ap length c ∙ m.under.cell_size;
      }

      -- all fired
      pub all_done : 0 < count → ¬ (k < count) → AllFired g tables links flags ledger cells k used spent start ledger₀ cells₀
      all_done some end' =
          let same : unspent_in M₀ x.tokens ≡ unspent_at g tables ledger cells used = λ i. unspent_in (machine_of g (arrays_in tables) (sym m.under.size i / token_width) (sym m.under.cell_size i / cell_width)) x.tokens in
          let size : length acts ≡ k = omega (arith, acts_all count w.counted, m.size, end') in
          record {
            went = went_so m.under.running refl refl;
            unspent_left = omega (arith, m.unspent, same);
            goes_on = λ left f.
                by_turns left f (some_enabled some) ∙ m.to_do f (next left) ∙ ap (λ (l : List (Activity Tag)). fires_in_turn M₀ l (f + k) x (next left)) (none_left m.more (omega (arith, m.size, end')))
                ∙ (λ i. after_step M₀ (record { firings = size i; unspent = same i }) (profile M₀ ProfileFull left (f + k) x));
          }
        where
          none_left : (l : List (Activity Tag)) → length l ≡ 0 → l ≡ []
          none_left [] h = refl
          none_left (a ∷ l) h = absurd (omega arith)

      module _ {place : ℕ} (n : Next tables m.more ledger used place) where
        abbrev τ : Tag
        τ = (token_at ledger place).tag

        fired_here : {links' flags' ledger' cells' : List ℕ} {tokens' : ℕ} → Firing.Went g τ (asked_in g tables ledger cells used τ) tables links' flags' ledger' cells' tokens' used ledger cells → fire M₀ x τ ≡ fired (state_in ledger' cells' tokens')
        fired_here {ledger' = ledger'} {cells' = cells'} {tokens' = tokens'} d =
            as_lent g ledger₀ cells₀ start tables m.under (λ capacity cell_count. fire (machine_of g (arrays_in tables) capacity cell_count) x τ ≡ fired (state_in ledger' cells' tokens'))
            (fires_asked (machine_over g tables ledger cells) x τ ∙ d.step)

        -- it fired
        pub fired_on : {links' flags' ledger' cells' : List ℕ} {tokens' one : ℕ} → one ≡ arity_of tables τ → Firing.Went g τ (asked_in g tables ledger cells used τ) tables links' flags' ledger' cells' tokens' used ledger cells
            → Midway g tables ledger₀ cells₀ start count from links' flags' ledger' cells' tokens' (k + 1) (spent + one)
        fired_on {ledger' = ledger'} {cells' = cells'} {tokens' = tokens'} {one = one} is d =
            let y = state_in ledger' cells' tokens' in
            let a : Activity Tag = record { place = place; tag = τ } in
            let e = fired_here d in
            let (grown, unspent) = unspent_fired M₀ law x good_now τ y e in
            let arity : arity_of tables τ ≡ M₀.arity τ = ready.arities_right τ in
            let waits : Waiting M₀ (a ∷ n.after) x = subst (λ (l : List (Activity Tag)). Waiting M₀ l x) n.split m.waiting in
            record {
              log = m.log ++ (τ ∷ []);
              fires = joined M₀ m.log (τ ∷ []) s₀ x y m.fires (y, e, refl);
              counted = length-append m.log (τ ∷ []) ∙ omega (arith, m.counted);
              few = omega (arith, m.few, is, n.standing.arity.1);
              unspent = omega (arith, m.unspent, unspent, is, arity, held_size used ledger, held_size tokens' ledger', m.under.grown, d.grown);
              under = went_on g ledger₀ cells₀ start tables m.under d;
              more = n.after;
              waiting = waits_on M₀ law a n.after x y good_now waits e;
              size = omega (arith, m.size, ap length n.split);
              at = λ j h.
                  let z : k + suc j ≡ k + 1 + j = omega arith in
                  ap (λ (l : List (Activity Tag)). get_or (places_of M₀ l) (suc j) 0) (sym n.split) ∙ m.at (suc j) (omega (arith, ap length n.split, h)) ∙ ap (λ (i : ℕ). get_or from i 0) z;
              to_do = λ f go.
                  let z : suc (f + k) ≡ f + (k + 1) = omega arith in
                  m.to_do f go ∙ ap (λ (l : List (Activity Tag)). fires_in_turn M₀ l (f + k) x go) n.split ∙ ap (λ (q : FiredOf M₀). tried M₀ (f + k) x a q (λ u. fires_in_turn M₀ n.after (suc (f + k)) u go)) e ∙ ap (λ (i : ℕ). fires_in_turn M₀ n.after i y go) z;
            }

        -- it was refused
        pub cut_here : {links' flags' ledger' cells' : List ℕ} {r : Refusal} → 0 < count → Firing.Stopped r g τ (asked_in g tables ledger cells used τ) tables links' flags' ledger' cells' used ledger cells
            → ProfileHalted (Outcomes.Refused r place) g tables links' flags' ledger' cells' k used start ledger₀ cells₀
        cut_here {ledger' = ledger'} {cells' = cells'} {r = r} some d =
            let a : Activity Tag = record { place = place; tag = τ } in
            let e : fire M₀ x τ ≡ not_fired r = as_lent g ledger₀ cells₀ start tables m.under (λ capacity cell_count. fire (machine_of g (arrays_in tables) capacity cell_count) x τ ≡ not_fired r) (fires_asked (machine_over g tables ledger cells) x τ ∙ d.step) in
            let same : x ≡ state_in ledger' cells' used = λ i. state_in (sym d.same_ledger i) (sym d.same_cells i) used in
            record {
              went = went_so d.running d.same_ledger d.same_cells;
              outcome = refused r place;
              told = refl;
              ends = λ left f. by_turns left f (some_enabled some) ∙ m.to_do f (next left) ∙ ap (λ (l : List (Activity Tag)). fires_in_turn M₀ l (f + k) x (next left)) n.split
                  ∙ ap (λ (q : FiredOf M₀). tried M₀ (f + k) x a q (λ u. fires_in_turn M₀ n.after (suc (f + k)) u (next left))) e ∙ ap (λ (u : State Tag ℤ). ends_here M₀ (end M₀ (refused r place) (f + k) u)) same;
            }

-- a whole step, by what was live or deferred before it
pub step_whole : {g : List Instruction} {tables links flags ledger' cells' : List ℕ} {count n gone used unspent : ℕ} {ledger cells : List ℕ} → AllFired g tables links flags ledger' cells' count n gone used ledger cells
    → unspent ≡ unspent_at g tables ledger cells used → SteppedWhole g tables links flags ledger' cells' count n (unspent + (n - used) - gone) used ledger cells
step_whole {g} {tables} {ledger' = ledger'} {cells' = cells'} {count = count} {n = n} {gone = gone} {used = used} {unspent = before} {ledger = ledger} {cells = cells} a e =
    let same : unspent_at g tables ledger' cells' n ≡ before + (n - used) - gone = omega (arith, a.unspent_left, e) in
    let M = machine_over g tables ledger cells in
    record {
      went = a.went;
      unspent_left = sym same;
      goes_on = λ left f. a.goes_on left f ∙ (λ i. after_step M (record { firings = count; unspent = same i }) (profile M ProfileFull left (f + count) (state_in ledger' cells' n)));
    }
