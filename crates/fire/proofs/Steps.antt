-- A firing, from matching to output, in the terms of the machine: what the code leaves is what the machine's `commit` of the effect gives, and what holds
-- between firings holds again. Assumes nothing.
use Rattle.std.proofs.Common.{Ok}
use Prim.Native.Nat.{ℕ, zero, suc, ◌+◌, ◌/◌, ◌≤◌, ◌<◌}
use mathlib.Core.Path.{◌≡◌, refl, sym, ap, ◌∙◌, subst}
use mathlib.Core.Bool.{Bool, true, false, cond}
use mathlib.Core.Option.{some}
use mathlib.Core.List.{List, [], ◌∷◌, ◌++◌, map}
use native.Mathlib.Omega.{arith}
use lib.ListN.{length, get_or, length-append, length-map, length-set}
use lib.Dec.{eqb}
use borrow.Author.Tests.{eqb-true}
use lib.IntN.{ℤ}
use Rattle.std.specs.Prelude.{Result, Ok, Err}
use Rattle.record.specs.declared.tag.Tag.{Tag}
use Rattle.record.specs.declared.token.Token as Record
use Rattle.record.specs.declared.token.Content as RecordContent
use Rattle.record.specs.declared.cell.Cell as RecordCell
use Rattle.record.specs.declared.instruction.Instruction.{Instruction}
use Rattle.buffer.specs.Rows.{All}
use Rattle.record.specs.TokensAndTags.{tokens, token_at}
use Rattle.record.specs.declared.operation.Operation.{Operation}
use Rattle.record.specs.GraphRecords.{graph_of, instruction_in, operation_of}
use Rattle.record.specs.TokensAndTags as Tokens
use Rattle.buffer.proofs.Tables.{length_rows, get_d_rows}
use Rattle.record.specs.Widths.{token_width, cell_width, graph_width}
use Rattle.store_chains.specs.Deferred.{woken}
use Rattle.store.specs.Matching.{spent_token, Matching}
use Rattle.store.proofs.Laws.{matching_room, matching_ports, matching_raised}
use Rattle.machine.specs.Machine.{Key, Machine, State, Effect, refuse, fired, not_fired, look, operands, commit}
use Rattle.machine.specs.Orders.{Good, CellsBelow, ReadsForSome}
use Rattle.rules.specs.declared.answer.Refusal.{Refusal}
use Rattle.rules.specs.declared.answer.Refusal.TheVariants.{SecondWrite}
use Rattle.rules.specs.Check.{operands_at, check_graph}
use Rattle.rules.specs.InstructionSet.{arity_in, machine_of}
use Rattle.fire_effect.specs.declared.output.Key as EffectKey
use Rattle.fire_effect.specs.declared.output.Outputs.{Outputs}
use Rattle.fire_effect.specs.declared.operate.Action.{Action}
use Rattle.fire_effect.specs.declared.operate.Action.TheVariants.{Send, Read, Write}
use Rattle.fire_effect.specs.Effects.{key_held, keys_held, output_keys, action_held, Arrives, AllSent, Makes, new_tags_of, then_tags}
use Rattle.fire_effect.proofs.Arrives.{arrives_port, arrives_inside}
use Rattle.fire_effect.proofs.Does.{records}
use Rattle.fire_effect.proofs.Parted.{first_refused, second_refused, both_held}
use Rattle.abstraction.proofs.Arities.{arity_small}
use Rattle.store_chains.proofs.Index.{and_left}
use Rattle.store_enabled.specs.Enabled.{arity_of, is_enabled, earliest_of, leads_in}
use Rattle.abstraction.specs.Tables.{arrays_in}
use Rattle.abstraction.specs.States.{no_token, state_held}
use Rattle.fire_operands.specs.Operands.{Matched, Both, by_port, both_at, matched_at}
use Rattle.fire_operands.proofs.AsMachine.{values_of, Places, matched_places, held_operands}
use Rattle.fire_outputs.specs.Outputs.{spend_one, spent_at, outputs_by, output_tokens, LowPortsBy, cells_in, OnCells, content_given, cells_by, woken_by, writes_again, Kept, CellsKept, Fireable}
use Rattle.fire_outputs.proofs.Laws.{spent_by_port}
use Rattle.fire_commit.specs.Admitted.{Verdict, Yes, No, admitted_of}
use Rattle.fire_commit.specs.Commit.{Committed, done, refused, if_admitted, committed_of, CommittedTo, Fitting}
use Rattle.fire_commit.proofs.AsMachine.{fired_of, commit_held}
use Rattle.fire.proofs.Place.{place_here, operands_here}
use Rattle.fire.proofs.Effects.{good_committed}
use Rattle.fire.specs.Running.{machine_over, state_in, Arrived, Running, Went, Stopped, Stepped, Prepared}
use Rattle.fire.specs.Operating.{Operated, After, Asks, Keeps, asked_with, kept_with, asked_by, kept_by, InTurn, AllSound}

-- ---- what holds of a token by its tag and port alone

module _ (P : Record.Token → Type 0) where
  abbrev ByKey : Type 0
  ByKey = (t u : Record.Token) → t.tag ≡ u.tag → t.port ≡ u.port → P t → P u

  all_map : (f : Record.Token → Record.Token) → ((t : Record.Token) → P t → P (f t)) → (ts : List Record.Token) → All P ts → All P (map f ts)
  all_map f h [] a = tt
  all_map f h (t ∷ ts) a = (h t a.0, all_map f h ts a.1)

  all_append : (ts us : List Record.Token) → All P ts → All P us → All P (ts ++ us)
  all_append [] us a b = b
  all_append (t ∷ ts) us a b = (a.0, all_append ts us a.1 b)

  all_spent_lem : ByKey → (i : ℕ) (ts : List Record.Token) → All P ts → All P (spend_one i ts)
  unfolding spend_one
  all_spent_lem k i [] a = tt
  all_spent_lem k zero (t ∷ ts) a = (k t (spent_token t) refl refl a.0, a.1)
  all_spent_lem k (suc i) (t ∷ ts) a = (a.0, all_spent_lem k i ts a.1)

  all_spent_at : ByKey → (i j : ℕ) (ts : List Record.Token) → All P ts → All P (spent_at i j ts)
  unfolding spent_at
  all_spent_at k i j ts a = go (eqb i j)
    where
      go : (b : Bool) → All P (cond b (spend_one i ts) (spend_one j (spend_one i ts)))
      go true = all_spent_lem k i ts a
      go false = all_spent_lem k j (spend_one i ts) (all_spent_lem k i ts a)

-- ---- outputs

sent_arrive : (g : List Instruction) (n : ℕ) (j k : EffectKey.Key) (x : RecordContent.Content) → All (Arrives g) (keys_held n j k) → Arrived g (outputs_by n j k x)
sent_arrive g zero j k x a = tt
sent_arrive g (suc zero) j k x a = (a.0, tt)
sent_arrive g (suc (suc n)) j k x a = (a.0, (a.1.0, tt))

pub low_ports : (g : List Instruction) (n : ℕ) (j k : EffectKey.Key) → All (Arrives g) (keys_held n j k) → LowPortsBy n j k
low_ports g zero j k a = tt
low_ports g (suc zero) j k a = arrives_port g (key_held j) a.0
low_ports g (suc (suc n)) j k a = (arrives_port g (key_held j) a.0, arrives_port g (key_held k) a.1.0)

-- an action's outputs and its cell, as its effect has them
pub sent_keys : (P : Key Tag → Type 0) (a : Action) (keys : List (Key Tag)) → AllSent P (action_held a keys) → All P keys
sent_keys P (Send v) keys h = h
sent_keys P (Read c) keys h = h
sent_keys P (Write c v) keys h = h

pub on_cells : (n : ℕ) (a : Action) (keys : List (Key Tag)) → CellsBelow n (action_held a keys) → OnCells n a
on_cells n (Send v) keys h = tt
on_cells n (Read c) keys h = h
on_cells n (Write c v) keys h = h

-- ---- tokens after a firing

-- each stands at a port of an instruction, and none is dropped
abbrev pub Grown : List Instruction → ℕ → Committed → Type 0
Grown g n (done us ds) = Arrived g us × (n ≤ length us)
Grown g n (refused r) = Unit {0}

if_admitted_lem : (g : List Instruction) (n : ℕ) (m : Verdict) (x : Committed) → Grown g n x → Grown g n (if_admitted m x)
unfolding if_admitted
if_admitted_lem g n Yes x h = h
if_admitted_lem g n (No r) x h = tt

unless_again : (g : List Instruction) (n : ℕ) (again : Bool) (x : Committed) → Grown g n x → Grown g n (cond again (refused SecondWrite) x)
unless_again g n true x h = tt
unless_again g n false x h = h

length_spent : (i : ℕ) (ts : List Record.Token) → length (spend_one i ts) ≡ length ts
unfolding spend_one
length_spent i ts = length-set ts i _

length_spent_at : (i j : ℕ) (ts : List Record.Token) → length (spent_at i j ts) ≡ length ts
unfolding spent_at
length_spent_at i j ts = go (eqb i j)
  where
    go : (b : Bool) → length (cond b (spend_one i ts) (spend_one j (spend_one i ts))) ≡ length ts
    go true = length_spent i ts
    go false = length_spent j (spend_one i ts) ∙ length_spent i ts

module _ (g : List Instruction) (ts : List Record.Token) (h : Arrived g ts) (i j : ℕ) where
  abbrev P : Record.Token → Type 0
  P t = t.port < operands_at g t.tag.instruction

  by_key : (t u : Record.Token) → t.tag ≡ u.tag → t.port ≡ u.port → P t → P u
  by_key t u p r l = rw (← p, ← r) l

  with_outputs : (vs : List Record.Token) (o : Outputs) (x : RecordContent.Content) → All P vs → length vs ≡ length ts → All (Arrives g) (output_keys o) → Grown g (length ts) (done (vs ++ output_tokens x o) [])
  with_outputs vs o x b e c = (all_append P vs (output_tokens x o) b (sent_arrive g o.count o.first o.second x c), omega (arith, length-append vs (output_tokens x o)))

  length_woken : (a : Action) (us : List Record.Token) → length (woken_by a us) ≡ length us
  length_woken (Send v) us = refl
  length_woken (Read c) us = refl
  length_woken (Write c v) us = length-map us (woken c v)

  all_woken : (a : Action) (us : List Record.Token) → All P us → All P (woken_by a us)
  all_woken (Send v) us b = b
  all_woken (Read c) us b = b
  all_woken (Write c v) us b = all_map P (woken c v) (λ t l. l) us b

  pub grown : (capacity : ℕ) (cs : List RecordCell.Cell) (x : Action) (o : Outputs) → AllSent (Arrives g) (action_held x (output_keys o)) → Grown g (length ts) (committed_of capacity ts cs i j x o)
  unfolding committed_of
  grown capacity cs x o a =
      let us = spent_at i j ts in
      let out = with_outputs (woken_by x us) o (content_given x cs) (all_woken x us (all_spent_at P by_key i j ts h)) (length_woken x us ∙ length_spent_at i j ts) (sent_keys (Arrives g) x (output_keys o) a) in
      unless_again g (length ts) (writes_again x cs) _ (if_admitted_lem g (length ts) (admitted_of capacity ts o) _ out)

-- ---- a firing

-- an effect is what an action asks for, with these outputs: they arrive, its cell is one of the store, and a read has a key
pub record Done (g : List Instruction) (cells : ℕ) (x : Action) (o : Outputs) (e : Effect Refusal Tag ℤ) : Type 0 where
  pub held : action_held x (output_keys o) ≡ e
  pub counted : o.count ≤ 2
  pub arrives : AllSent (Arrives g) (action_held x (output_keys o))
  pub cells_below : CellsBelow cells e
  pub reads_for_some : ReadsForSome e

-- what the code's commit requires of them
fitting : (g : List Instruction) (cells : ℕ) (x : Action) (o : Outputs) {e : Effect Refusal Tag ℤ} → Done g cells x o e → Fitting cells x o
fitting g cells x o d =
    (d.counted, low_ports g o.count o.first o.second (sent_keys (Arrives g) x (output_keys o) d.arrives), on_cells cells x (output_keys o) (rw (← d.held) at d.cells_below))

module _ (graph : List ℕ) (passed : check_graph graph ≡ Ok tt) {tables links flags ledger cells : List ℕ} {used : ℕ}
    (now : Running (graph_of graph) tables links flags ledger cells used) (τ : Tag) (few : arity_in (graph_of graph) τ ≤ 2) where
  abbrev g : List Instruction
  g = graph_of graph

  abbrev M : Machine
  M = machine_over (graph_of graph) tables ledger cells

  abbrev s : State Tag ℤ
  s = state_in ledger cells used

  -- operands that matching found
  module _ (i j : ℕ) (v w : ℤ) (matched : matched_at (arity_in (graph_of graph) τ) (tokens used ledger) τ ≡ Both i j v w) where
    pub places : Places (arity_in (graph_of graph) τ) (tokens used ledger) τ i j v w
    places = matched_places (tokens used ledger) τ (arity_in (graph_of graph) τ) few matched

    pub there : operands M (look M s) τ ≡ some (record { left = v; right = w })
    there = held_operands (graph_of graph) (arrays_in tables) (length ledger / token_width) (length cells / cell_width) (tokens used ledger) (cells_in cells) τ few ∙ ap values_of matched

    asked_found : (asks : Tag → ℤ → ℤ → Effect Refusal Tag ℤ) → asked_with M asks s τ ≡ asks τ v w
    asked_found asks = rw there

    kept_found : {S : Type 0} (x : S) (keeps : Tag → ℤ → ℤ → S) → kept_with M x keeps s τ ≡ keeps τ v w
    kept_found x keeps = rw there

    -- an effect that the code's action and outputs are
    module _ (x : Action) (o : Outputs) (e : Effect Refusal Tag ℤ) (does : Done (graph_of graph) (length cells / cell_width) x o e) where
      committed : commit M s τ e ≡ fired_of (committed_of (length ledger / token_width) (tokens used ledger) (cells_in cells) i j x o)
      committed =
          ap (commit M s τ) (sym does.held)
          ∙ commit_held (graph_of graph) (arrays_in tables) (length ledger / token_width) (length cells / cell_width) (tokens used ledger) (cells_in cells) τ i j v w now.good.distinct places x o does.counted

      good_after_lem : (y : State Tag ℤ) → commit M s τ e ≡ fired y → Good M y
      good_after_lem y f = good_committed M s τ (record { left = v; right = w }) there e does.cells_below does.reads_for_some now.good y f

      module _ (links' flags' ledger' cells' : List ℕ) where
        -- done: the tokens and cells that it left are those of the machine
        went : (n : ℕ) (us : List Record.Token) (ds : List RecordCell.Cell) → commit M s τ e ≡ fired (state_held us ds) → Arrived (graph_of graph) us × (length (tokens used ledger) ≤ length us)
            → Kept tables links' flags' ledger' n us ledger → CellsKept cells' ds cells
            → Went (graph_of graph) τ e tables links' flags' ledger' cells' n used ledger cells
        went n us ds f a k c =
            let same : state_held us ds ≡ state_in ledger' cells' n = λ x. state_held (sym k.held x) (sym c.held x) in
            record {
              step = f ∙ ap fired same;
              running = record {
                matching = k.matching;
                few = rw k.size now.few;
                store = c.store;
                arrived = rw k.held a.0;
                good =
                    subst (λ (b : ℕ). Good (machine_of (graph_of graph) (arrays_in tables) (b / token_width) (length cells' / cell_width)) (state_in ledger' cells' n)) (sym k.size)
                    (subst (λ (b : ℕ). Good (machine_of (graph_of graph) (arrays_in tables) (length ledger / token_width) (b / cell_width)) (state_in ledger' cells' n)) (sym c.size)
                    (subst (λ (x : State Tag ℤ). Good M x) same (good_after_lem (state_held us ds) f)));
              };
              grown = omega (arith, a.1, length_rows token_width Tokens.decode_token used ledger, length_rows token_width Tokens.decode_token n ledger', ap length k.held);
              size = k.size;
              rest = k.rest;
              cell_size = c.size;
            }

        -- refused: ledger and cells are as they were
        stopped : (r : Refusal) → commit M s τ e ≡ not_fired r → ledger' ≡ ledger → cells' ≡ cells → Matching tables links' flags' ledger' used
            → Stopped r (graph_of graph) τ e tables links' flags' ledger' cells' used ledger cells
        stopped r f l c m = record {
          step = f;
          running = record {
            matching = m;
            few = rw l now.few;
            store = rw c now.store;
            arrived = rw l now.arrived;
            good = rw (l, c) now.good;
          };
          same_ledger = l;
          same_cells = c;
        }

        pub stepped : (r : Result ℕ Refusal) → CommittedTo r (committed_of (length ledger / token_width) (tokens used ledger) (cells_in cells) i j x o) tables links' flags' ledger' cells' used ledger cells
            → Stepped r (graph_of graph) τ e tables links' flags' ledger' cells' used ledger cells
        stepped r h = go r (committed_of (length ledger / token_width) (tokens used ledger) (cells_in cells) i j x o) committed
            (grown (graph_of graph) (tokens used ledger) now.arrived i j (length ledger / token_width) (cells_in cells) x o does.arrives) h
          where
            go : (q : Result ℕ Refusal) (y : Committed) → commit M s τ e ≡ fired_of y → Grown (graph_of graph) (length (tokens used ledger)) y
                → CommittedTo q y tables links' flags' ledger' cells' used ledger cells → Stepped q (graph_of graph) τ e tables links' flags' ledger' cells' used ledger cells
            go (Ok n) (done us ds) f a l = went n us ds f a l.0 l.1
            go (Ok n) (refused q) f a l = absurd l
            go (Err q) (done us ds) f a l = absurd l
            go (Err q) (refused p) f a l = stopped q (f ∙ ap not_fired (sym l.0)) l.1 l.2 l.3

-- ---- operands by ports

sum_by_port : (port p q : ℕ) → p + q ≡ by_port port p q + by_port port q p
sum_by_port port p q = go (eqb port 0)
  where
    go : (b : Bool) → p + q ≡ cond b p q + cond b q p
    go true = refl
    go false = omega arith

pub committed_by_port : (port p q capacity : ℕ) (ts : List Record.Token) (cs : List RecordCell.Cell) (x : Action) (o : Outputs)
    → committed_of capacity ts cs p q x o ≡ committed_of capacity ts cs (by_port port p q) (by_port port q p) x o
unfolding committed_of
committed_by_port port p q capacity ts cs x o =
    ap (λ (us : List Record.Token). cond (writes_again x cs) (refused SecondWrite) (if_admitted (admitted_of capacity ts o) (done (woken_by x us ++ output_tokens (content_given x cs) o) (cells_by x cs))))
    (spent_by_port port p q ts)

-- ---- what the code finds

at_place : (P : Record.Token → Type 0) (d : Record.Token) (ts : List Record.Token) (i : ℕ) → i < length ts → All P ts → P (get_or ts i d)
at_place P d [] i h a = absurd (omega arith)
at_place P d (t ∷ ts) zero h a = a.0
at_place P d (t ∷ ts) (suc i) h a = at_place P d ts i (omega arith) a.1

module _ (graph : List ℕ) {tables links flags ledger cells : List ℕ} {used : ℕ} (ready : Prepared graph tables)
    (now : Running (graph_of graph) tables links flags ledger cells used) (place : ℕ) (within : place < used) where
  pub room : place < length ledger / token_width
  room = omega (arith, matching_room now.matching)

  -- the token at the place is of an instruction of the graph
  pub inside : (t : Record.Token) → t ≡ token_at ledger place → t.tag.instruction < length graph / graph_width
  inside t e =
      let size = length_rows token_width Tokens.decode_token used ledger in
      let here = at_place (λ (u : Record.Token). u.port < operands_at (graph_of graph) u.tag.instruction) no_token (tokens used ledger) place (omega arith) now.arrived in
      let same : get_or (tokens used ledger) place no_token ≡ t = get_d_rows token_width Tokens.decode_token used place ledger no_token within ∙ sym e in
      let arrives : t.port < operands_at (graph_of graph) t.tag.instruction = subst (λ (u : Record.Token). u.port < operands_at (graph_of graph) u.tag.instruction) same here in
      omega (arith, arrives_inside (graph_of graph) (record { tag = t.tag; port = t.port }) arrives, records graph)

  -- what matching found for it
  pub matched_here : (t : Record.Token) (a : ℕ) (m : Matched) → t ≡ token_at ledger place → a ≡ arity_of tables t.tag → m ≡ matched_at a (tokens used ledger) t.tag
      → matched_at (arity_in (graph_of graph) (token_at ledger place).tag) (tokens used ledger) (token_at ledger place).tag ≡ m
  matched_here t a m e f q =
      sym
      (q
      ∙ ap (λ (n : ℕ). matched_at n (tokens used ledger) t.tag) (f ∙ ready.arities_right t.tag)
      ∙ ap (λ (u : Record.Token). matched_at (arity_in (graph_of graph) u.tag) (tokens used ledger) u.tag) e)

  -- what commit is lent
  pub lent_here : leads_in tables (tokens used ledger) place (token_at ledger place) ≡ true → (other : ℕ) (v w : ℤ)
      → matched_at (arity_in (graph_of graph) (token_at ledger place).tag) (tokens used ledger) (token_at ledger place).tag ≡ both_at (token_at ledger place).port place other v w
      → Fireable tables links flags ledger cells used place other
  lent_here on other v w e =
      let τ = (token_at ledger place).tag in
      let port = (token_at ledger place).port in
      let p = matched_places (tokens used ledger) τ (arity_in (graph_of graph) τ) (arity_small (graph_of graph) τ) e in
      let first : earliest_of (tokens used ledger) τ ≡ place =
      eqb-true (earliest_of (tokens used ledger) τ) place (and_left (eqb (earliest_of (tokens used ledger) τ) place) (is_enabled tables (tokens used ledger) τ) on) in
      record {
        matching = now.matching;
        few = now.few;
        activity = record {
          first = by_port port place other;
          second = by_port port other place;
          operands = operands_here (graph_of graph) ledger used (matching_ports now.matching) now.arrived τ p;
          order = record {
            lead = sym first ∙ place_here (graph_of graph) ledger used (matching_ports now.matching) now.arrived τ p;
            rest = sum_by_port port place other;
          };
        };
        raised = rw first at (matching_raised now.matching place within on);
        store = now.store;
      }

  abbrev M₁ : Machine
  M₁ = machine_over (graph_of graph) tables ledger cells

  abbrev s₁ : State Tag ℤ
  s₁ = state_in ledger cells used

  -- whatever asks for it, a refusal: nothing was written
  pub asks_refusal : (σ : Tag) {e : Effect Refusal Tag ℤ} {r : Refusal} → e ≡ refuse r → Stopped r (graph_of graph) σ e tables links flags ledger cells used ledger cells
  unfolding commit
  asks_refusal σ h = record { step = ap (commit M₁ s₁ σ) h; running = now; same_ledger = refl; same_cells = refl }

  -- the operands that matching found, and the token, its instruction and the operation that the code read; the operation gives `did`, and then there is kept what `y` is
  module _ (t : Record.Token) (same : t ≡ token_at ledger place) (other : ℕ) (v w : ℤ)
      (matched : matched_at (arity_in (graph_of graph) (token_at ledger place).tag) (tokens used ledger) (token_at ledger place).tag ≡ both_at (token_at ledger place).port place other v w)
      (r : Instruction) (o : Operation) (fetched : r ≡ instruction_in graph t.tag.instruction) (decoded : o ≡ operation_of r.code)
      {S : Type 0} (x : S) {operated : Operated} {after : After S} {control : ℤ → ℤ} {asks : Asks} {keeps : Keeps S} (turn : InTurn operated after control asks keeps) (sound : AllSound asks) where
    abbrev τ : Tag
    τ = (token_at ledger place).tag

    abbrev i : ℕ
    i = by_port (token_at ledger place).port place other

    abbrev j : ℕ
    j = by_port (token_at ledger place).port other place

    abbrev its : Effect Refusal Tag ℤ
    its = asked_by asks (graph_of graph) tables ledger cells used (token_at ledger place).tag

    abbrev effect : Effect Refusal Tag ℤ
    effect = asks (graph_of graph) (arrays_in tables) (length cells / cell_width) t.tag v w

    found : its ≡ effect
    found =
        asked_found graph ready.passed now τ (arity_small (graph_of graph) τ) i j v w matched (asks (graph_of graph) (arrays_in tables) (length cells / cell_width))
        ∙ ap (λ (u : Record.Token). asks (graph_of graph) (arrays_in tables) (length cells / cell_width) u.tag v w) (sym same)

    in_turn_lem : effect ≡ then_tags (operated o (arrays_in tables) r.constant (length cells / cell_width) v w) (new_tags_of o (graph_of graph) t.tag r (control w))
    in_turn_lem = rw (decoded, fetched) (turn.asked graph (arrays_in tables) (length cells / cell_width) t.tag v w (inside t same))

    -- what is kept after it
    pub kept_here : {y : S} → y ≡ after o (arrays_in tables) r.constant (length cells / cell_width) v w → y ≡ kept_by x keeps (graph_of graph) tables ledger cells used (token_at ledger place).tag
    kept_here e =
        e
        ∙ sym
        (kept_found graph ready.passed now τ (arity_small (graph_of graph) τ) i j v w matched x (keeps (graph_of graph) (arrays_in tables) (length cells / cell_width))
        ∙ ap (λ (u : Record.Token). keeps (graph_of graph) (arrays_in tables) (length cells / cell_width) u.tag v w) (sym same)
        ∙ rw (decoded, fetched) (turn.kept graph (arrays_in tables) (length cells / cell_width) t.tag v w (inside t same)))

    -- a refusal: nothing was written
    stopped_here : {q : Refusal} → effect ≡ refuse q → Stopped q (graph_of graph) τ its tables links flags ledger cells used ledger cells
    stopped_here e = asks_refusal τ (found ∙ e)

    module _ {did : Result Action Refusal} (gives : did ≡ operated o (arrays_in tables) r.constant (length cells / cell_width) v w) where
      -- the operation is refused
      pub operation_refused : {q : Refusal} → did ≡ Err q → Stopped q (graph_of graph) τ its tables links flags ledger cells used ledger cells
      operation_refused e = stopped_here (first_refused _ _ in_turn_lem (sym gives ∙ e))

      module _ {a : Action} (acts : did ≡ Ok a) {m : Result Outputs Refusal} (made : Makes m (new_tags_of o (graph_of graph) t.tag r (control w))) where
        -- the new tags are
        pub tags_refused : {q : Refusal} → m ≡ Err q → Stopped q (graph_of graph) τ its tables links flags ledger cells used ledger cells
        tags_refused e = stopped_here (second_refused _ _ in_turn_lem (sym gives ∙ acts) made e)

        module _ {s : Outputs} (to : m ≡ Ok s) where
          does : Done (graph_of graph) (length cells / cell_width) a s effect
          does =
              let held : action_held a (output_keys s) ≡ effect = both_held _ _ in_turn_lem (sym gives ∙ acts) made to in
              let fine = sound graph ready.passed (arrays_in tables) (length cells / cell_width) t.tag v w in
              record {
                held = held;
                counted = rw to at made.counted;
                arrives = rw held fine.arrives;
                cells_below = fine.cells_below;
                reads_for_some = fine.reads_for_some;
              }

          -- what commit requires of action and outputs
          pub fits_commit : Fitting (length cells / cell_width) a s
          fits_commit = fitting (graph_of graph) (length cells / cell_width) a s does

          -- from matching to output
          pub stepped_here : (links' flags' ledger' cells' : List ℕ) (f : Result ℕ Refusal)
              → CommittedTo f (committed_of (length ledger / token_width) (tokens used ledger) (cells_in cells) place other a s) tables links' flags' ledger' cells' used ledger cells
              → Stepped f (graph_of graph) τ its tables links' flags' ledger' cells' used ledger cells
          stepped_here links' flags' ledger' cells' f left =
              stepped graph ready.passed now τ (arity_small (graph_of graph) τ) i j v w matched a s its
              (subst (Done (graph_of graph) (length cells / cell_width) a s) (sym found) does) links' flags' ledger' cells' f
              (subst (λ (z : Committed). CommittedTo f z tables links' flags' ledger' cells' used ledger cells) (committed_by_port (token_at ledger place).port place other (length ledger / token_width) (tokens used ledger) (cells_in cells) a s) left)
