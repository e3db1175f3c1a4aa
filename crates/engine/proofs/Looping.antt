-- The loop of a run, whoever chooses: what holds of ledger, cells and log after some firings, and that a turn, a refusal, the chooser's end and a spent budget end
-- it as the machine's run ends. Assumes nothing.
use Rattle.std.proofs.Common.{Ok}
use Prim.Native.Nat.{ℕ, suc, ◌+◌, ◌-◌, ◌*◌, ◌/◌, ◌≤◌, ◌<◌}
use mathlib.Core.Path.{◌≡◌, refl, sym, ap, ◌∙◌, subst}
use mathlib.Core.Option.{Option, none, some}
use mathlib.Core.List.{List, [], ◌∷◌, ◌++◌, append-nil, append_assoc}
use native.Mathlib.Omega.{arith}
use native.Mathlib.Numerals.{add-one}
use lib.ListN.{length, drop, length-append}
use lib.IntN.{ℤ}
use Rattle.record.specs.declared.tag.Tag.{Tag}
use Rattle.record.specs.declared.instruction.Instruction.{Instruction}
use Rattle.record.specs.GraphRecords.{graph_of}
use Rattle.record.specs.TokensAndTags.{tokens, token_at}
use Rattle.record.specs.Widths.{token_width, cell_width}
use Rattle.machine.specs.Machine.{Machine, StateOf, State, Effect, Operands, Activity, Outcome, End, refuse, fired, on_option, look, operands, commit, by_picks, run_by, end}
use Rattle.machine.specs.Orders.{CellsBelow}
use Rattle.machine.specs.Choosers.{Chosen, takes, Chooser, rests_at}
use Rattle.fire_outputs.proofs.Laws.{rest_on}
use Rattle.rules.specs.declared.answer.Refusal.{Refusal}
use Rattle.rules.specs.declared.answer.Refusal.TheVariants.{SecondToken}
use Rattle.rules.specs.declared.answer.Outcome as AnswerOutcome
use Rattle.rules.specs.declared.answer.Answer.{Answer}
use Rattle.rules.specs.Check.{check_graph}
use Rattle.rules.specs.InstructionSet.{machine_of}
use Rattle.rules.specs.Run.{outcome_of}
use Rattle.abstraction.specs.Tables.{Arities, arrays_in}
use Rattle.fire_outputs.specs.Outputs.{cells_in}
use Rattle.fire.proofs.Place.{on_ports}
use Rattle.fire.specs.Running.{machine_over, state_in, Running, Went}
use Rattle.fire.specs.Operating.{Asks, Keeps, asked_with, kept_with, asked_by, kept_by, AllSound}
use Rattle.ending.specs.Endings.{RestsAs}
use Rattle.ending.proofs.Laws.{rests_there_lem}
use Rattle.start.specs.Ended.{EndedAt}
use Rattle.start.proofs.Ending.{left}
use Rattle.engine.specs.declared.choice.Order.{Order}
use Rattle.engine.specs.Turns.{chooser_of, chooser_for, Advanced, Stops, Halted, log_noted, recorded, Proceeded}
use Rattle.engine.specs.Keeping.{Kept, kept_chosen, run_over, log_over, end_keeping, fired_keeping}
use Rattle.engine.proofs.Keeping.{keeping_zero, logging_zero, keeping_fired, logging_fired, keeping_stopped, logging_stopped}
use Rattle.engine.proofs.Recording.{recorded_none, length_recorded, noted_next}

-- a run with no budget left rests alike, whoever chose
rest_is : (M : Machine) (f : ℕ) (s : StateOf M) → rests_at M f s ≡ run_by M (by_picks M) 0 [] f s
unfolding run_by
rest_is M f s = refl

-- what it answers, and leaves in ledger and cells
pub ended_at : {e : End Refusal Tag ℤ} {r : Answer} {g : List Instruction} {tables links flags ledger' cells' : List ℕ} {used : ℕ} {ledger cells : List ℕ}
    → Proceeded e r g tables links flags ledger' cells' used ledger cells → EndedAt e r ledger cells ledger' cells'
ended_at {e} {r} {g} {tables} {ledger' = ledger'} {cells' = cells'} {ledger = ledger} {cells = cells} p =
    subst (λ (x : End Refusal Tag ℤ). EndedAt x r ledger cells ledger' cells') (sym p.ends)
    (subst (λ (o : AnswerOutcome.Outcome). EndedAt (end (machine_over g tables ledger cells) p.outcome r.firings (state_in ledger' cells' r.tokens)) (record { outcome = o; firings = r.firings; tokens = r.tokens }) ledger cells ledger' cells') p.told
    (left g p.running ledger cells p.rest p.cell_size p.outcome r.firings))

-- ---- between firings, whatever they asked for

-- after some firings, from a ledger and cells as lent
pub record Underway (g : List Instruction) (ledger₀ cells₀ : List ℕ) (start : ℕ) (tables links flags ledger cells : List ℕ) (used : ℕ) : Type 0 where
  pub running : Running g tables links flags ledger cells used
  pub grown : start ≤ used
  pub size : length ledger ≡ length ledger₀
  pub rest : drop (used * token_width) ledger ≡ drop (used * token_width) ledger₀
  pub cell_size : length cells ≡ length cells₀

module _ (g : List Instruction) (ledger₀ cells₀ : List ℕ) (start : ℕ) (tables : List ℕ) where
  pub none_fired : {links flags : List ℕ} → Running g tables links flags ledger₀ cells₀ start → Underway g ledger₀ cells₀ start tables links flags ledger₀ cells₀ start
  none_fired r = record { running = r; grown = omega arith; size = refl; rest = refl; cell_size = refl }

  module _ {links flags ledger cells : List ℕ} {used : ℕ} (u : Underway g ledger₀ cells₀ start tables links flags ledger cells used) where
    -- what holds at the lengths of these buffers holds at those of the lent ones, which are the same
    pub as_lent : (P : (capacity count : ℕ) → Type 0) → P (length ledger / token_width) (length cells / cell_width) → P (length ledger₀ / token_width) (length cells₀ / cell_width)
    as_lent P h = subst (λ (b : ℕ). P (length ledger₀ / token_width) (b / cell_width)) u.cell_size (subst (λ (b : ℕ). P (b / token_width) (length cells / cell_width)) u.size h)

    pub went_on : {τ : Tag} {e : Effect Refusal Tag ℤ} {links' flags' ledger' cells' : List ℕ} {n : ℕ} → Went g τ e tables links' flags' ledger' cells' n used ledger cells
        → Underway g ledger₀ cells₀ start tables links' flags' ledger' cells' n
    went_on {n = n} w = record {
      running = w.running;
      grown = omega (arith, u.grown, w.grown);
      size = w.size ∙ u.size;
      rest = w.rest ∙ rest_on ledger ledger₀ used n w.grown u.rest;
      cell_size = w.cell_size ∙ u.cell_size;
    }

    module _ {e : End Refusal Tag ℤ} (f : ℕ) where
      -- the run ends here
      pub ends_here_lem : (o : Outcome Refusal) (w : AnswerOutcome.Outcome) {links' flags' ledger' cells' : List ℕ} → outcome_of o ≡ w → e ≡ end (machine_over g tables ledger₀ cells₀) o f (state_in ledger cells used)
          → Running g tables links' flags' ledger' cells' used → ledger' ≡ ledger → cells' ≡ cells
          → Proceeded e (record { outcome = w; firings = f; tokens = used }) g tables links' flags' ledger' cells' start ledger₀ cells₀
      ends_here_lem o w told h r l c = record {
        outcome = o;
        told = told;
        ends = h ∙ (λ i. end (machine_over g tables ledger₀ cells₀) o f (state_in (sym l i) (sym c i) used));
        running = r;
        grown = u.grown;
        size = ap length l ∙ u.size;
        rest = ap (drop (used * token_width)) l ∙ u.rest;
        cell_size = ap length c ∙ u.cell_size;
      }

      -- with no firing left to do
      pub rests_here : Arities g tables → (w : AnswerOutcome.Outcome) → RestsAs w tables (tokens used ledger) → e ≡ rests_at (machine_over g tables ledger₀ cells₀) f (state_in ledger cells used)
          → Proceeded e (record { outcome = w; firings = f; tokens = used }) g tables links flags ledger cells start ledger₀ cells₀
      rests_here right w said h =
          let M = machine_over g tables ledger₀ cells₀ in
          let s = state_in ledger cells used in
          let told = said g right (on_ports g (tokens used ledger) u.running.arrived) (arrays_in tables) (length ledger₀ / token_width) (length cells₀ / cell_width) (cells_in cells) (by_picks M) [] f in
          ends_here_lem (run_by M (by_picks M) 0 [] f s).outcome w (sym told) (h ∙ rest_is M f s ∙ rests_there_lem M (by_picks M) [] f s) u.running refl refl

-- what an activity asks for by a sound operation names cells of the store
pub asked_below_by : (asks : Asks) → AllSound asks → (graph : List ℕ) → check_graph graph ≡ Ok tt → (tables ledger cells : List ℕ) (used : ℕ) (τ : Tag) → CellsBelow (length cells / cell_width) (asked_by asks (graph_of graph) tables ledger cells used τ)
asked_below_by asks sound graph passed tables ledger cells used τ = go (let M = machine_over (graph_of graph) tables ledger cells in operands M (look M (state_in ledger cells used)) τ)
  where
    go : (q : Option (Operands ℤ)) → CellsBelow (length cells / cell_width) (on_option q (refuse SecondToken) (λ p. asks (graph_of graph) (arrays_in tables) (length cells / cell_width) τ p.left p.right))
    go none = tt
    go (some p) = (sound graph passed (arrays_in tables) (length cells / cell_width) τ p.left p.right).cells_below

-- ---- the loop, by any operation

module _ {S : Type 0} (asks : S → Asks) (keeps : S → Keeps S) where
  -- after some firings, from a ledger and cells as lent, with x₀ kept
  pub record SoFar (g : List Instruction) (order : Order) (source ledger₀ cells₀ : List ℕ) (start budget : ℕ) (x₀ : S) (tables links flags ledger cells : List ℕ) (used firings : ℕ) (x : S) : Type 0 where
    pub within : firings ≤ budget
    pub under : Underway g ledger₀ cells₀ start tables links flags ledger cells used
    -- the run that is left to do
    pub to_do : end_keeping asks keeps order source g tables ledger₀ cells₀ start budget x₀ ≡ run_over asks keeps order source g tables ledger₀ cells₀ (budget - firings) firings x (state_in ledger cells used)

  -- the log after some firings, from one as lent
  pub record Noted (g : List Instruction) (order : Order) (source tables ledger₀ cells₀ log₀ : List ℕ) (start budget : ℕ) (x₀ : S) (ledger cells log : List ℕ) (used firings : ℕ) (x : S) : Type 0 where
    pub done : List Tag
    pub count : length done ≡ firings
    pub size : length log ≡ length log₀
    pub written : log ≡ recorded done log₀
    -- the log that is left to write
    pub to_log : fired_keeping asks keeps order source g tables ledger₀ cells₀ start budget x₀ ≡ done ++ log_over asks keeps order source g tables ledger₀ cells₀ (budget - firings) firings x (state_in ledger cells used)

  module _ (g : List Instruction) (order : Order) (source ledger₀ cells₀ : List ℕ) (start budget : ℕ) (x₀ : S) (tables : List ℕ) where
    abbrev M₀ : Machine
    M₀ = machine_over g tables ledger₀ cells₀

    abbrev c₀ : Chooser (machine_over g tables ledger₀ cells₀)
    c₀ = chooser_for order source g tables ledger₀ cells₀

    abbrev a₀ : S → Tag → ℤ → ℤ → Effect Refusal Tag ℤ
    a₀ y = asks y g (arrays_in tables) (length cells₀ / cell_width)

    abbrev k₀ : S → Tag → ℤ → ℤ → S
    k₀ y = keeps y g (arrays_in tables) (length cells₀ / cell_width)

    abbrev runs : (b f : ℕ) → S → State Tag ℤ → Kept S Refusal Tag ℤ
    runs = run_over asks keeps order source g tables ledger₀ cells₀

    abbrev logs : (b f : ℕ) → S → State Tag ℤ → List Tag
    logs = log_over asks keeps order source g tables ledger₀ cells₀

    abbrev whole_run : Kept S Refusal Tag ℤ
    whole_run = end_keeping asks keeps order source g tables ledger₀ cells₀ start budget x₀

    abbrev whole_log : List Tag
    whole_log = fired_keeping asks keeps order source g tables ledger₀ cells₀ start budget x₀

    all_left : budget ≡ budget - 0
    all_left = omega arith

    pub begun : {links flags : List ℕ} → Running g tables links flags ledger₀ cells₀ start → SoFar g order source ledger₀ cells₀ start budget x₀ tables links flags ledger₀ cells₀ start 0 x₀
    begun r = record {
      within = omega arith;
      under = none_fired g ledger₀ cells₀ start tables r;
      to_do = ap (λ (b : ℕ). runs b 0 x₀ (state_in ledger₀ cells₀ start)) all_left;
    }

    pub noted_none : (log₀ : List ℕ) → Noted g order source tables ledger₀ cells₀ log₀ start budget x₀ ledger₀ cells₀ log₀ start 0 x₀
    noted_none log₀ = record {
      done = [];
      count = refl;
      size = refl;
      written = sym (recorded_none log₀);
      to_log = ap (λ (b : ℕ). logs b 0 x₀ (state_in ledger₀ cells₀ start)) all_left;
    }

    module _ {links flags ledger cells : List ℕ} {used firings : ℕ} {x : S} (so : SoFar g order source ledger₀ cells₀ start budget x₀ tables links flags ledger cells used firings x) where
      abbrev s : State Tag ℤ
      s = state_in ledger cells used

      abbrev chosen : Chosen Refusal Tag
      chosen = chooser_for order source g tables ledger cells firings (state_in ledger cells used)

      abbrev its_asks : Tag → Effect Refusal Tag ℤ
      its_asks = asked_by (asks x) g tables ledger cells used

      abbrev its_keeps : Tag → S
      its_keeps = kept_by x (keeps x) g tables ledger cells used

      to_do_lem : (b : ℕ) → budget - firings ≡ b → whole_run ≡ runs b firings x s
      to_do_lem b e = so.to_do ∙ ap (λ (n : ℕ). runs n firings x s) e

      -- the log that is left to write
      module _ {log₀ log : List ℕ} (so_log : Noted g order source tables ledger₀ cells₀ log₀ start budget x₀ ledger cells log used firings x) where
        to_log_lem : (b : ℕ) (τs : List Tag) → budget - firings ≡ b → logs b firings x s ≡ τs → whole_log ≡ so_log.done ++ τs
        to_log_lem b τs e l = so_log.to_log ∙ ap (λ (n : ℕ). so_log.done ++ logs n firings x s) e ∙ ap (λ (l : List Tag). so_log.done ++ l) l

        no_more : whole_log ≡ so_log.done ++ [] → log ≡ recorded whole_log log₀
        no_more e = so_log.written ∙ ap (λ (l : List Tag). recorded l log₀) (sym (e ∙ append-nil so_log.done))

      -- a turn that fired; y is kept after it
      module _ (h : firings < budget) {links' flags' ledger' cells' : List ℕ} {n place : ℕ} (a : Advanced g chosen its_asks place tables links' flags' ledger' cells' n used ledger cells)
          {y : S} (kept : y ≡ kept_chosen chosen x its_keeps) where
        abbrev its : Activity Tag
        its = record { place = place; tag = (token_at ledger' place).tag }

        took : c₀ firings s ≡ takes its
        took = as_lent g ledger₀ cells₀ start tables so.under (λ p q. chooser_of order source g (arrays_in tables) p q firings s ≡ takes its) a.taken

        stepped : commit M₀ s (token_at ledger' place).tag (asked_with M₀ (a₀ x) s (token_at ledger' place).tag) ≡ fired (state_in ledger' cells' n)
        stepped =
            let τ = (token_at ledger' place).tag in
            as_lent g ledger₀ cells₀ start tables so.under (λ p q. commit (machine_of g (arrays_in tables) p q) s τ (asked_with (machine_of g (arrays_in tables) p q) (asks x g (arrays_in tables) q) s τ) ≡ fired (state_in ledger' cells' n)) a.went.step

        pub kept_after : y ≡ its_keeps (token_at ledger' place).tag
        kept_after = kept ∙ ap (λ (c : Chosen Refusal Tag). kept_chosen c x its_keeps) a.taken

        keeps_there : y ≡ kept_with M₀ x (k₀ x) s (token_at ledger' place).tag
        keeps_there =
            let τ = (token_at ledger' place).tag in
            as_lent g ledger₀ cells₀ start tables so.under (λ p q. y ≡ kept_with (machine_of g (arrays_in tables) p q) x (keeps x g (arrays_in tables) q) s τ) kept_after

        pub advanced : SoFar g order source ledger₀ cells₀ start budget x₀ tables links' flags' ledger' cells' n (firings + 1) y
        advanced = record {
          within = omega arith;
          under = went_on g ledger₀ cells₀ start tables so.under a.went;
          to_do = rw (add-one firings) (to_do_lem (suc (budget - suc firings)) (omega arith)
              ∙ keeping_fired M₀ a₀ k₀ c₀ firings x s (budget - suc firings) its took (state_in ledger' cells' n) stepped
              ∙ ap (λ (z : S). runs (budget - suc firings) (suc firings) z (state_in ledger' cells' n)) (sym keeps_there));
        }

        pub noted_on : {log₀ log : List ℕ} → Noted g order source tables ledger₀ cells₀ log₀ start budget x₀ ledger cells log used firings x
            → (log' : List ℕ) → log' ≡ log_noted log firings (token_at ledger' place).tag → Noted g order source tables ledger₀ cells₀ log₀ start budget x₀ ledger' cells' log' n (firings + 1) y
        noted_on {log₀} so_log log' w =
            let τ = (token_at ledger' place).tag in
            let b = budget - suc firings in
            let later = logs b (suc firings) y (state_in ledger' cells' n) in
            let step : logs (suc b) firings x s ≡ τ ∷ later =
            logging_fired M₀ a₀ k₀ c₀ firings x s b its took (state_in ledger' cells' n) stepped
            ∙ ap (λ (z : S). τ ∷ logs b (suc firings) z (state_in ledger' cells' n)) (sym keeps_there) in
            let all : log' ≡ recorded (so_log.done ++ τ ∷ []) log₀ = w ∙ (λ i. log_noted (so_log.written i) (sym so_log.count i) τ) ∙ noted_next so_log.done log₀ τ in
            record {
              done = so_log.done ++ τ ∷ [];
              count = omega (arith, length-append so_log.done (τ ∷ []), so_log.count);
              size = ap length all ∙ length_recorded (so_log.done ++ τ ∷ []) log₀;
              written = all;
              to_log = rw (add-one firings) (to_log_lem so_log (suc b) (τ ∷ later) (omega arith) step ∙ sym (append_assoc so_log.done (τ ∷ []) later));
            }

      -- a turn that ended the run
      module _ (h : firings < budget) {o : AnswerOutcome.Outcome} {links' flags' ledger' cells' : List ℕ} (a : Halted o g chosen its_asks tables links' flags' ledger' cells' used ledger cells) where
        stops_there : Stops M₀ s (c₀ firings s) (asked_with M₀ (a₀ x) s) a.outcome
        stops_there =
            as_lent g ledger₀ cells₀ start tables so.under
            (λ p q. Stops (machine_of g (arrays_in tables) p q) s (chooser_of order source g (arrays_in tables) p q firings s) (asked_with (machine_of g (arrays_in tables) p q) (asks x g (arrays_in tables) q) s) a.outcome) a.stops

        ends_so : whole_run ≡ record { kept = kept_chosen (c₀ firings s) x (kept_with M₀ x (k₀ x) s); ended = end M₀ a.outcome firings s }
        ends_so = to_do_lem (suc (budget - suc firings)) (omega arith) ∙ keeping_stopped M₀ a₀ k₀ c₀ firings x s (budget - suc firings) a.outcome stops_there

        pub halted : Proceeded whole_run.ended (record { outcome = o; firings = firings; tokens = used }) g tables links' flags' ledger' cells' start ledger₀ cells₀
        halted = ends_here_lem g ledger₀ cells₀ start tables so.under firings a.outcome o a.told (ap (λ (z : Kept S Refusal Tag ℤ). z.ended) ends_so) a.running a.same_ledger a.same_cells

        pub halted_kept : {y : S} → y ≡ kept_chosen chosen x its_keeps → y ≡ whole_run.kept
        halted_kept {y} kept =
            as_lent g ledger₀ cells₀ start tables so.under (λ p q. y ≡ kept_chosen (chooser_of order source g (arrays_in tables) p q firings s) x (kept_with (machine_of g (arrays_in tables) p q) x (keeps x g (arrays_in tables) q) s)) kept
            ∙ sym (ap (λ (z : Kept S Refusal Tag ℤ). z.kept) ends_so)

        pub noted_halted : {log₀ log : List ℕ} → Noted g order source tables ledger₀ cells₀ log₀ start budget x₀ ledger cells log used firings x → log ≡ recorded whole_log log₀
        noted_halted so_log = no_more so_log (to_log_lem so_log (suc (budget - suc firings)) [] (omega arith) (logging_stopped M₀ a₀ k₀ c₀ firings x s (budget - suc firings) a.outcome stops_there))

      -- the budget is spent
      module _ (h : budget ≤ firings) where
        rests_so : whole_run ≡ record { kept = x; ended = rests_at M₀ firings s }
        rests_so = to_do_lem 0 (omega arith) ∙ keeping_zero M₀ a₀ k₀ c₀ firings x s

        pub finished : Arities g tables → (w : AnswerOutcome.Outcome) → RestsAs w tables (tokens used ledger)
            → Proceeded whole_run.ended (record { outcome = w; firings = firings; tokens = used }) g tables links flags ledger cells start ledger₀ cells₀
        finished right w said = rests_here g ledger₀ cells₀ start tables so.under firings right w said (ap (λ (z : Kept S Refusal Tag ℤ). z.ended) rests_so)

        pub finished_kept : x ≡ whole_run.kept
        finished_kept = sym (ap (λ (z : Kept S Refusal Tag ℤ). z.kept) rests_so)

        pub noted_finished : {log₀ log : List ℕ} → Noted g order source tables ledger₀ cells₀ log₀ start budget x₀ ledger cells log used firings x → log ≡ recorded whole_log log₀
        noted_finished so_log = no_more so_log (to_log_lem so_log 0 [] (omega arith) (logging_zero M₀ a₀ k₀ c₀ firings x s))
