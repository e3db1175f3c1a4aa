-- 02, R-9: a choice among the activities that are not held back; what is known of them from firing to firing; and how a run with a bound is settled. Assumes nothing.
use Prim.Native.Nat.{ℕ, zero, suc, ◌+◌, ◌-◌, ◌/◌, ◌%◌, ◌≤◌, ◌<◌}
use mathlib.Core.Path.{◌≡◌, refl, sym, ap, subst, ◌∙◌}
use mathlib.Core.Bool.{◌&&◌}
use mathlib.Core.List.{List, [], ◌∷◌, map}
use native.Mathlib.Omega.{arith}
use native.Mathlib.Nat.{mod-lt}
use lib.Dec.{ltb}
use lib.ListN.{length, get_or, take, drop, replicate, length-map}
use lib.IntN.{ℤ}
use Rattle.std.specs.Prelude.{Some}
use Rattle.record.specs.declared.array.NamedArray.{NamedArray}
use Rattle.record.specs.declared.tag.Tag.{Tag}
use Rattle.record.specs.declared.token.Token as Record
use Rattle.record.specs.declared.cell.Cell.{Cell}
use Rattle.record.specs.declared.instruction.Instruction.{Instruction}
use Rattle.record.specs.GraphRecords.{graph_of}
use Rattle.record.specs.TokensAndTags.{tokens}
use Rattle.record.specs.Widths.{token_width, cell_width}
use Rattle.buffer.proofs.Tables.{tail_part}
use Rattle.machine.specs.Machine.{Machine, StateOf, Effect, Activity, Outcome, End, on_list, ending, pick_of, by_picks, end}
use Rattle.machine.specs.Orders.{CellsBelow}
use Rattle.machine.specs.Bounded.{by_free, free_of, settled}
use Rattle.machine.specs.Choosers.{takes, ends}
use Rattle.rules.specs.declared.answer.Refusal.{Refusal}
use Rattle.rules.specs.declared.answer.Outcome as AnswerOutcome
use Rattle.rules.specs.declared.answer.Answer.{Answer}
use Rattle.rules.specs.InstructionSet.{machine_of}
use Rattle.rules.specs.Run.{outcome_of}
use Rattle.rules.specs.Held.{held_in}
use Rattle.store_flags.specs.Flags.{places, places_from, minus}
use Rattle.store_flags.specs.Marks.{bit, Marked}
use Rattle.store_enabled.specs.Enabled.{enabled_places}
use Rattle.store_enabled.specs.Store.{Right}
use Rattle.store.specs.Matching.{Matching}
use Rattle.store.proofs.Laws.{matching_stored, matching_list, matching_places, matching_room, matching_few}
use Rattle.abstraction.specs.States.{no_token, state_held}
use Rattle.abstraction.specs.Tables.{Arities, arrays_in}
use Rattle.fire_outputs.specs.Outputs.{cells_in}
use Rattle.fire.proofs.Place.{on_ports}
use Rattle.fire.specs.Running.{machine_over, state_in, Arrived, Running, Went, Prepared}
use Rattle.ending.specs.Endings.{EndsWith}
use Rattle.held.specs.Deciding.{held_at, HeldDecided, HeldKept}
use Rattle.held.proofs.Deciding.{places_one, among}
use Rattle.held.proofs.Following.{carried_later, carried_none}
use Rattle.held.proofs.Free.{held_under, free_places}
use Rattle.held.proofs.Fired.{went_later, flags_unspent}
use Rattle.engine.specs.declared.choice.Order.{Order}
use Rattle.engine.specs.declared.choice.Order.TheVariants.{Oldest, Picks, Log, Free}
use Rattle.engine.specs.Turns.{HeldBeside, HeldBack, Holding, Bounding, Followed, TakesPlace, Ends, Proceeded, Settled, rests_there, as_it_was}
use Rattle.engine.specs.Keeping.{settled_by}
use Rattle.engine.proofs.Choosing.{get_d_map, taken_there}

-- ---- a choice

minus_le : (l m : List ℕ) (i : ℕ) → get_or (minus l m) i 0 ≤ get_or l i 0
minus_le [] m i = omega arith
minus_le (x ∷ l) [] i = omega arith
minus_le (x ∷ l) (y ∷ m) zero = omega arith
minus_le (x ∷ l) (y ∷ m) (suc i) = minus_le l m i

-- where no flag is raised there, nothing is taken away
none_minus : (i : ℕ) (l m : List ℕ) → length (places_from i m) ≡ 0 → minus l m ≡ l
none_minus i [] m h = refl
none_minus i (x ∷ l) [] h = refl
none_minus i (x ∷ l) (zero ∷ m) h = λ j. less_none x j ∷ none_minus (suc i) l m h j
  where
    less_none : (n : ℕ) → n - 0 ≡ n
    less_none n = omega arith
none_minus i (x ∷ l) (suc y ∷ m) h = absurd (omega arith)

pub all_free_lem : (l m : List ℕ) → length (places m) ≡ 0 → minus l m ≡ l
all_free_lem l m h = none_minus 0 l m h

module _ (tables ledger : List ℕ) (used : ℕ) (g : List Instruction) (right : Arities g tables) (arrived : Arrived g (tokens used ledger)) (table : List NamedArray) (capacity count : ℕ) (cs : List Cell)
    (links flags held : List ℕ) (m : Matching tables links flags ledger used) (k : ℕ) (d : HeldDecided g k flags held ledger used) where
  abbrev ts : List Record.Token
  ts = tokens used ledger

  abbrev M : Machine
  M = machine_of g table capacity count

  abbrev s : StateOf M
  s = state_held ts cs

  abbrev activity : ℕ → Activity Tag
  activity p = record { place = p; tag = (get_or ts p no_token).tag }

  abbrev free : List ℕ
  free = places (minus flags held)

  free_here : free_of M (held_in g k) s ≡ map activity free
  free_here = free_places g table capacity count k tables links flags held ledger used cs right (on_ports g ts arrived) m d

  none_free : (l : List ℕ) → length l ≡ 0 → map activity l ≡ []
  none_free [] h = refl
  none_free (p ∷ l) h = absurd (omega arith)

  -- what is made of an outcome where none is free, and where one is
  pub none_left : {A : Type 0} (x : A) (f : Activity Tag → List (Activity Tag) → A) → length free ≡ 0 → on_list (free_of M (held_in g k) s) x f ≡ x
  none_left x f z = ap (λ (l : List (Activity Tag)). on_list l x f) (free_here ∙ none_free free z)

  pub some_left : {A : Type 0} (x y : A) → ¬ (length free ≡ 0) → on_list (free_of M (held_in g k) s) x (λ a more. y) ≡ y
  some_left x y n = ap (λ (l : List (Activity Tag)). on_list l x (λ a more. y)) free_here ∙ go free n
    where
      go : (l : List ℕ) → ¬ (length l ≡ 0) → on_list (map activity l) x (λ a more. y) ≡ y
      go [] h = absurd (h refl)
      go (p ∷ l) h = refl

  module _ (picks : List ℕ) (f : ℕ) where
    pub free_none : length free ≡ 0 → (o : AnswerOutcome.Outcome) → EndsWith o tables ts → Ends o (by_free M (held_in g k) (by_picks M) picks f s)
    free_none z o said = record {
      outcome = ending M s;
      told = sym (said g right table capacity count cs);
      ended = none_left (ends (ending M s)) (λ a more. takes (by_picks M s (get_or picks f 0) a more)) z;
    }

    picked : (p : ℕ) (l : List ℕ) → pick_of M (get_or picks f 0) (activity p) (map activity l) ≡ activity (get_or (p ∷ l) (get_or picks f 0 % length (p ∷ l)) 0)
    picked p l =
        let size : length (map activity (p ∷ l)) ≡ length (p ∷ l) = length-map (p ∷ l) activity in
        ap (λ (n : ℕ). get_or (activity p ∷ map activity l) (get_or picks f 0 % n) (activity p)) size
        ∙ get_d_map activity (p ∷ l) (get_or picks f 0 % length (p ∷ l)) 0 (activity p) (mod-lt (get_or picks f 0) (omega arith))

    pub free_there : (place : ℕ) → ¬ (length free ≡ 0) → place ≡ get_or free (get_or picks f 0 % length free) 0 → TakesPlace place (by_free M (held_in g k) (by_picks M) picks f s) tables ledger used
    free_there place n at =
        let chosen = ap (λ (l : List (Activity Tag)). on_list l (ends (ending M s)) (λ a more. takes (by_picks M s (get_or picks f 0) a more))) free_here in
        let low : get_or picks f 0 % length free < length free = mod-lt (get_or picks f 0) (omega arith) in
        let binary : (i : ℕ) → get_or (minus flags held) i 0 ≤ 1 = λ i. le_trans (minus_le flags held i) ((matching_list m).binary i) in
        let one : get_or (minus flags held) place 0 ≡ 1 = rw at (places_one (minus flags held) (get_or picks f 0 % length free) binary low) in
        let (j, lt, e) = among 0 place flags (omega (arith, one, minus_le flags held place)) in
        let all : places flags ≡ enabled_places tables ts = matching_places m in
        let there : place ≡ get_or (enabled_places tables ts) j 0 = zero_less place ∙ e ∙ ap (λ (l : List ℕ). get_or l j 0) all in
        taken_there tables ledger used g right arrived table capacity count cs m _ place j (subst (λ (l : List ℕ). j < length l) all lt) there (chosen ∙ go free n at)
      where
        zero_less : (i : ℕ) → i ≡ 0 + i
        zero_less i = omega arith

        le_trans : {a b : ℕ} → a ≤ b → b ≤ 1 → a ≤ 1
        le_trans h l = omega arith

        go : (l : List ℕ) → ¬ (length l ≡ 0) → place ≡ get_or l (get_or picks f 0 % length l) 0
            → on_list (map activity l) (ends (ending M s)) (λ a more. takes (by_picks M s (get_or picks f 0) a more)) ≡ takes (activity place)
        go [] h e = absurd (h refl)
        go (p ∷ l) h e = ap takes (picked p l ∙ ap activity (sym e))

-- ---- from firing to firing

-- said of graph and ledger from their starts on, which are all of them
abbrev whole : List ℕ → List ℕ
whole l = take (length l - 0) (drop 0 l)

module _ (graph ledger : List ℕ) {k : ℕ} {tables flags : List ℕ} {n : ℕ} {nexts held marks : List ℕ} where
  pub followed_whole : {used : ℕ} → Followed (graph_of graph) k tables flags ledger used n nexts held marks → Followed (graph_of (whole graph)) k tables flags (whole ledger) used n nexts held marks
  followed_whole {used} f =
      subst (λ (l : List ℕ). Followed (graph_of (whole graph)) k tables flags l used n nexts held marks) (sym (tail_part 0 ledger))
      (subst (λ (l : List ℕ). Followed (graph_of l) k tables flags ledger used n nexts held marks) (sym (tail_part 0 graph)) f)

  pub kept_whole : HeldKept (graph_of (whole graph)) tables flags (whole ledger) k n nexts held marks → HeldKept (graph_of graph) tables flags ledger k n nexts held marks
  kept_whole h =
      subst (λ (l : List ℕ). HeldKept (graph_of l) tables flags ledger k n nexts held marks) (tail_part 0 graph)
      (subst (λ (l : List ℕ). HeldKept (graph_of (whole graph)) tables flags l k n nexts held marks) (tail_part 0 ledger) h)

module _ (graph : List ℕ) {tables links flags ledger cells : List ℕ} {used : ℕ} (ready : Prepared graph tables) (now : Running (graph_of graph) tables links flags ledger cells used) where
  abbrev g : List Instruction
  g = graph_of graph

  pub back_of : (order : Order) (nexts held marks : List ℕ) → Bounding order g tables flags ledger used nexts held marks → HeldBack order g flags held ledger used
  back_of Oldest nexts held marks b = tt
  back_of Picks nexts held marks b = tt
  back_of Log nexts held marks b = tt
  back_of (Free k) nexts held marks b = b.kept.decided

  pub beside_of : (order : Order) (nexts held marks : List ℕ) → Bounding order g tables flags ledger used nexts held marks → HeldBeside order flags (Some held)
  beside_of Oldest nexts held marks b = tt
  beside_of Picks nexts held marks b = tt
  beside_of Log nexts held marks b = tt
  beside_of (Free k) nexts held marks b =
      let d = b.kept.decided in
      held_under g [] 0 0 k tables links flags held ledger used [] ready.arities_right (on_ports g (tokens used ledger) now.arrived) now.matching d

  -- a firing of whatever effect
  module _ {τ : Tag} {e : Effect Refusal Tag ℤ} (below : CellsBelow (length cells / cell_width) e) {links' flags' ledger' cells' : List ℕ} {n : ℕ} (w : Went g τ e tables links' flags' ledger' cells' n used ledger cells) where
    pub fired_on : (k : ℕ) (nexts held marks : List ℕ) → Holding g k tables flags ledger used nexts held marks → Followed g k tables flags' ledger' used n nexts held marks
    fired_on k nexts held marks b = record {
      arities = ready.arities_right;
      grown = w.grown;
      room = (matching_room w.running.matching, matching_few w.running.matching);
      bound = b.bound;
      unspent = flags_unspent g ready.arities_right (on_ports g (tokens n ledger') w.running.arrived) w.running.matching;
      carried = carried_later g tables ledger ledger' k used (went_later graph now below w) nexts held marks b.kept.carried;
    }

  pub started_on : (k : ℕ) → 0 < k → k < 65536 → Followed g k tables flags ledger 0 used (replicate 2048 0) (replicate 2048 0) (replicate 4096 0)
  started_on k pos small = record {
    arities = ready.arities_right;
    grown = omega arith;
    room = (matching_room now.matching, matching_few now.matching);
    bound = (pos, small);
    unspent = flags_unspent g ready.arities_right (on_ports g (tokens used ledger) now.arrived) now.matching;
    carried = carried_none g tables ledger k;
  }

  -- a turn that ended the run left the ledger as it was, and flags that say the same
  same_flags : {links' flags' : List ℕ} → Matching tables links' flags' ledger used → flags ≡ flags'
  unfolding Right Marked
  same_flags m = (matching_stored now.matching).right ∙ sym (matching_stored m).right

  pub halted_on : (order : Order) (nexts held marks : List ℕ) {links' flags' ledger' cells' : List ℕ} → Running g tables links' flags' ledger' cells' used → ledger' ≡ ledger
      → Bounding order g tables flags ledger used nexts held marks → Bounding order g tables flags' ledger' used nexts held marks
  halted_on Oldest nexts held marks r e b = tt
  halted_on Picks nexts held marks r e b = tt
  halted_on Log nexts held marks r e b = tt
  halted_on (Free k) nexts held marks {links'} {flags'} r e b =
      let m : Matching tables links' flags' ledger used = subst (λ (l : List ℕ). Matching tables links' flags' l used) e r.matching in
      let d = b.kept.decided in
      subst (λ (l : List ℕ). Bounding (Free k) g tables flags' l used nexts held marks) (sym e)
      (record {
        bound = b.bound;
        kept = record {
          carried = b.kept.carried;
          decided = record { right = λ i. d.right i ∙ ap (λ (l : List ℕ). bit (ltb i used && held_at g k l ledger used i)) (same_flags m) };
        };
      })

-- an order without a bound has nothing to keep
pub none_kept : (order : Order) → ((k : ℕ) → order ≡ Free k → ⊥) → (g : List Instruction) (tables flags ledger : List ℕ) (used : ℕ) (nexts held marks : List ℕ) → Bounding order g tables flags ledger used nexts held marks
none_kept Oldest n g tables flags ledger used nexts held marks = tt
none_kept Picks n g tables flags ledger used nexts held marks = tt
none_kept Log n g tables flags ledger used nexts held marks = tt
none_kept (Free k) n g tables flags ledger used nexts held marks = absurd (n k refl)

-- ---- the end of a run with a bound

-- "If only held ones remain, the answer is hung, at a used-up budget too.": a run that came to the end e, whatever its firings asked for, is settled
module _ (g : List Instruction) (k : ℕ) (tables links flags held ledger cells ledger₀ cells₀ : List ℕ) (start : ℕ) (e : End Refusal Tag ℤ) (own r : Answer) (right : Arities g tables)
    (p : Proceeded e own g tables links flags ledger cells start ledger₀ cells₀) (d : HeldDecided g k flags held ledger own.tokens) where
  abbrev M₀ : Machine
  M₀ = machine_over g tables ledger₀ cells₀

  abbrev s₁ : StateOf M₀
  s₁ = state_in ledger cells own.tokens

  as_settled : (o : Outcome Refusal) → on_list (free_of M₀ (held_in g k) s₁) (ending M₀ s₁) (λ a more. p.outcome) ≡ o → settled M₀ (held_in g k) 0 e ≡ end M₀ o own.firings s₁
  as_settled o h =
      ap (settled M₀ (held_in g k) 0) p.ends ∙ (λ i. end M₀ (h i) (zero_less own.firings i) s₁)
    where
      zero_less : (n : ℕ) → 0 + n ≡ n
      zero_less n = omega arith

  ended : (o : Outcome Refusal) (x : AnswerOutcome.Outcome) → outcome_of o ≡ x → settled M₀ (held_in g k) 0 e ≡ end M₀ o own.firings s₁
      → Proceeded (settled M₀ (held_in g k) 0 e) (record { outcome = x; firings = own.firings; tokens = own.tokens }) g tables links flags ledger cells start ledger₀ cells₀
  ended o x told h = record { outcome = o; told = told; ends = h; running = p.running; grown = p.grown; size = p.size; rest = p.rest; cell_size = p.cell_size }

  pub settled_end : Settled tables flags held ledger own r → Proceeded (settled M₀ (held_in g k) 0 e) r g tables links flags ledger cells start ledger₀ cells₀
  settled_end (rests_there z o said h) =
      subst (λ (a : Answer). Proceeded (settled M₀ (held_in g k) 0 e) a g tables links flags ledger cells start ledger₀ cells₀) (sym h)
      (ended (ending M₀ s₁) o (sym (said g right (arrays_in tables) (length ledger₀ / token_width) (length cells₀ / cell_width) (cells_in cells)))
      (as_settled (ending M₀ s₁) (none_left tables ledger own.tokens g right p.running.arrived (arrays_in tables) (length ledger₀ / token_width) (length cells₀ / cell_width) (cells_in cells) links flags held p.running.matching k d (ending M₀ s₁) _ z)))
  settled_end (as_it_was n h) =
      subst (λ (a : Answer). Proceeded (settled M₀ (held_in g k) 0 e) a g tables links flags ledger cells start ledger₀ cells₀) (sym h)
      (ended p.outcome own.outcome p.told
      (as_settled p.outcome (some_left tables ledger own.tokens g right p.running.arrived (arrays_in tables) (length ledger₀ / token_width) (length cells₀ / cell_width) (cells_in cells) links flags held p.running.matching k d (ending M₀ s₁) p.outcome n)))

-- the same of every order: where nothing is held back the answer stays
abbrev pub SettledBy : Order → (tables flags held ledger : List ℕ) → (own r : Answer) → Type 0
SettledBy Oldest tables flags held ledger own r = r ≡ own
SettledBy Picks tables flags held ledger own r = r ≡ own
SettledBy Log tables flags held ledger own r = r ≡ own
SettledBy (Free k) tables flags held ledger own r = Settled tables flags held ledger own r

pub none_settled : (order : Order) → ((k : ℕ) → order ≡ Free k → ⊥) → (tables flags held ledger : List ℕ) (own r : Answer) → r ≡ own → SettledBy order tables flags held ledger own r
none_settled Oldest n tables flags held ledger own r h = h
none_settled Picks n tables flags held ledger own r h = h
none_settled Log n tables flags held ledger own r h = h
none_settled (Free k) n tables flags held ledger own r h = absurd (n k refl)

module _ (g : List Instruction) (tables links flags held ledger cells ledger₀ cells₀ : List ℕ) (start : ℕ) (nexts marks : List ℕ) (own r : Answer) (right : Arities g tables) (e : End Refusal Tag ℤ)
    (p : Proceeded e own g tables links flags ledger cells start ledger₀ cells₀) where
  as_it_ended : r ≡ own → Proceeded e r g tables links flags ledger cells start ledger₀ cells₀
  as_it_ended h = subst (λ (a : Answer). Proceeded e a g tables links flags ledger cells start ledger₀ cells₀) (sym h) p

  pub settled_by_order : (order : Order) → Bounding order g tables flags ledger own.tokens nexts held marks → SettledBy order tables flags held ledger own r
      → Proceeded (settled_by order g tables ledger₀ cells₀ e) r g tables links flags ledger cells start ledger₀ cells₀
  settled_by_order Oldest b h = as_it_ended h
  settled_by_order Picks b h = as_it_ended h
  settled_by_order Log b h = as_it_ended h
  settled_by_order (Free k) b h = settled_end g k tables links flags held ledger cells ledger₀ cells₀ start e own r right p b.kept.decided h
