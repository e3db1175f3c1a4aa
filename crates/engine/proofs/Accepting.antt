-- A run under picks is the loop's (`ended_by_picks`, `logged_by_picks`), with a bound or without one (`ended_by_bound`, `logged_by_bound`). Of one that passed its checks
-- the end is 01's (`as_run_lem`) and the log 02's (`as_logged`), said of the buffers as lent. Assumes nothing.
use Rattle.std.proofs.Common.{Ok}
use Prim.Native.Nat.{ℕ, ◌/◌, ◌<◌}
use mathlib.Core.Path.{◌≡◌, refl, sym, ap, ◌∙◌, subst}
use mathlib.Core.List.{List}
use native.Mathlib.Omega.{arith}
use lib.ListN.{length, length-map}
use lib.IntN.{ℤ}
use Rattle.record.specs.declared.tag.Tag.{Tag}
use Rattle.record.specs.declared.array.NamedArray.{NamedArray}
use Rattle.record.specs.declared.instruction.Instruction.{Instruction}
use Rattle.record.specs.GraphRecords.{graph_of}
use Rattle.record.specs.Arrays.{arrays_of}
use Rattle.record.specs.TokensAndTags.{tokens, capacity_of}
use Rattle.record.specs.TokensAndTags as Tokens
use Rattle.record.specs.Widths.{token_width, cell_width}
use Rattle.buffer.specs.Rows.{all_rows}
use Rattle.buffer.proofs.Tables.{length_rows}
use Rattle.machine.specs.Machine.{Machine, State, End, by_picks, run}
use Rattle.machine.specs.Sequences.{log_of}
use Rattle.machine.specs.Choosers.{Chooser, run_from, log_from}
use Rattle.machine.proofs.Choosers.{picks_choose}
use Rattle.machine.specs.Bounded.{run_bounded, log_bounded}
use Rattle.machine.proofs.Bounded.{unbounded, bounded_logged}
use Rattle.machine.proofs.Orders.{by_picks_lawful}
use Rattle.rules.specs.declared.answer.Refusal.{Refusal}
use Rattle.rules.specs.declared.answer.Answer.{Answer}
use Rattle.rules.specs.Check.{◌and_then◌, check_graph, check_stores, check_arrays, check_inputs, Checked}
use Rattle.rules.specs.Log.{check_log_stores}
use Rattle.rules.specs.Held.{held_in}
use Rattle.rules.specs.Bounded.{and_bound, check_bounded, check_bound_logged}
use Rattle.check_fields.proofs.Turns.{both-passed}
use Rattle.checks.proofs.Passed.{passed_stores, passed_arrays}
use Rattle.rules.specs.InstructionSet.{machine_of, effect_in}
use Rattle.rules.specs.Run.{picks_of, token_held, first_state}
use Rattle.abstraction.specs.Tables.{arrays_in}
use Rattle.fire.specs.Running.{machine_over, state_in}
use Rattle.start.specs.Begun.{machine_lent, Accepted, Begun}
use Rattle.start.specs.Ended.{EndedAt}
use Rattle.start.proofs.Starting.{from_start, as_lent}
use Rattle.engine.specs.declared.choice.Order.{Order}
use Rattle.engine.specs.declared.choice.Order.TheVariants.{Oldest, Picks, Log, Free}
use Rattle.engine.specs.Turns.{ByPicks, Plain, ByBound, BoundFits, end_of, fired_by, recorded, Proceeded, end_by, end_bounded, fired_bounded, end_from_inputs, fired_from_inputs}
use Rattle.engine.specs.Keeping.{end_keeping, settled_by}
use Rattle.engine.proofs.Keeping.{proceeded_plain}
use Rattle.engine.proofs.Looping.{ended_at}

-- ---- under picks

module _ (order : Order) (picks : List ℕ) (by : ByPicks order picks) (g : List Instruction) (tables ledger cells : List ℕ) (used budget : ℕ) where
  abbrev M₁ : Machine
  M₁ = machine_over g tables ledger cells

  ends_by_picks : end_of order picks g tables ledger cells used budget ≡ run M₁ budget (picks_of picks) (state_in ledger cells used)
  ends_by_picks =
      ap (λ (c : Chooser M₁). run_from M₁ c budget 0 (state_in ledger cells used)) (by g (arrays_in tables) (length ledger / token_width) (length cells / cell_width))
      ∙ sym (picks_choose M₁ (by_picks M₁) (picks_of picks) budget (state_in ledger cells used)).0

  pub ended_by_picks : {r : Answer} {links flags ledger' cells' : List ℕ} → Proceeded (end_of order picks g tables ledger cells used budget) r g tables links flags ledger' cells' used ledger cells
      → EndedAt (run M₁ budget (picks_of picks) (state_in ledger cells used)) r ledger cells ledger' cells'
  ended_by_picks {r} {ledger' = ledger'} {cells' = cells'} p = subst (λ (e : End Refusal Tag ℤ). EndedAt e r ledger cells ledger' cells') ends_by_picks (ended_at p)

  pub logged_by_picks : fired_by order picks g tables ledger cells used budget ≡ log_of M₁ (by_picks M₁) budget (picks_of picks) (state_in ledger cells used)
  logged_by_picks =
      ap (λ (c : Chooser M₁). log_from M₁ c budget 0 (state_in ledger cells used)) (by g (arrays_in tables) (length ledger / token_width) (length cells / cell_width))
      ∙ sym (picks_choose M₁ (by_picks M₁) (picks_of picks) budget (state_in ledger cells used)).1

  -- bound 0 is none
  none_held : (run_bounded M₁ (held_in g 0) (by_picks M₁) budget (picks_of picks) 0 (state_in ledger cells used) ≡ run M₁ budget (picks_of picks) (state_in ledger cells used))
      × (log_bounded M₁ (held_in g 0) (by_picks M₁) budget (picks_of picks) (state_in ledger cells used) ≡ log_of M₁ (by_picks M₁) budget (picks_of picks) (state_in ledger cells used))
  unfolding held_in
  none_held = unbounded M₁ (held_in g 0) (λ s a. refl) (by_picks M₁) budget (picks_of picks) 0 (state_in ledger cells used)

  ended_plain : (k : ℕ) → k ≡ 0 → {r : Answer} {links flags ledger' cells' : List ℕ} → Proceeded (end_of order picks g tables ledger cells used budget) r g tables links flags ledger' cells' used ledger cells
      → EndedAt (end_bounded k picks g tables ledger cells used budget) r ledger cells ledger' cells'
  ended_plain k e {r} {ledger' = ledger'} {cells' = cells'} p =
      subst (λ (n : ℕ). EndedAt (end_bounded n picks g tables ledger cells used budget) r ledger cells ledger' cells') (sym e)
      (subst (λ (x : End Refusal Tag ℤ). EndedAt x r ledger cells ledger' cells') (sym none_held.0) (ended_by_picks p))

  logged_plain : (k : ℕ) → k ≡ 0 → fired_by order picks g tables ledger cells used budget ≡ fired_bounded k picks g tables ledger cells used budget
  logged_plain k e = logged_by_picks ∙ sym none_held.1 ∙ ap (λ (n : ℕ). fired_bounded n picks g tables ledger cells used budget) (sym e)

-- with a bound or, where it is 0, without one
module _ (picks : List ℕ) (k : ℕ) where
  pub without_bound : (order : Order) → ByPicks order picks → Plain order → k ≡ 0 → ByBound order picks k
  without_bound Oldest by p z = (z, by)
  without_bound Picks by p z = (z, by)
  without_bound Log by p z = (z, by)
  without_bound (Free j) by p z = absurd p

  pub bound_fits : k < 65536 → (order : Order) → ByBound order picks k → BoundFits order
  bound_fits small Oldest by = tt
  bound_fits small Picks by = tt
  bound_fits small Log by = tt
  bound_fits small (Free j) by = (omega (arith, by.0, by.1), omega (arith, by.0, small))

  module _ (g : List Instruction) (tables ledger cells : List ℕ) (used budget : ℕ) where
    pub ended_by_bound : (order : Order) → ByBound order picks k → {r : Answer} {links flags ledger' cells' : List ℕ} → Proceeded (end_by order picks g tables ledger cells used budget) r g tables links flags ledger' cells' used ledger cells
        → EndedAt (end_bounded k picks g tables ledger cells used budget) r ledger cells ledger' cells'
    ended_by_bound Oldest by p = ended_plain Oldest picks by.1 g tables ledger cells used budget k by.0 p
    ended_by_bound Picks by p = ended_plain Picks picks by.1 g tables ledger cells used budget k by.0 p
    ended_by_bound Log by p = ended_plain Log picks by.1 g tables ledger cells used budget k by.0 p
    ended_by_bound (Free j) by {r} {ledger' = ledger'} {cells' = cells'} p = subst (λ (n : ℕ). EndedAt (end_bounded n picks g tables ledger cells used budget) r ledger cells ledger' cells') by.0 (ended_at p)

    pub logged_by_bound : (order : Order) → ByBound order picks k → fired_by order picks g tables ledger cells used budget ≡ fired_bounded k picks g tables ledger cells used budget
    logged_by_bound Oldest by = logged_plain Oldest picks by.1 g tables ledger cells used budget k by.0
    logged_by_bound Picks by = logged_plain Picks picks by.1 g tables ledger cells used budget k by.0
    logged_by_bound Log by = logged_plain Log picks by.1 g tables ledger cells used budget k by.0
    logged_by_bound (Free j) by = ap (λ (n : ℕ). fired_bounded n picks g tables ledger cells used budget) by.0

-- of the loop by the plain operation
pub ended_plain_by : (picks : List ℕ) (k : ℕ) (g : List Instruction) (tables ledger cells : List ℕ) (used budget : ℕ) {S : Type 0} (x : S) (order : Order) → ByBound order picks k → {r : Answer} {links flags ledger' cells' : List ℕ}
    → Proceeded (settled_by order g tables ledger cells (end_keeping (λ y. effect_in) (λ y g table n τ a b. y) order picks g tables ledger cells used budget x).ended) r g tables links flags ledger' cells' used ledger cells
    → EndedAt (end_bounded k picks g tables ledger cells used budget) r ledger cells ledger' cells'
ended_plain_by picks k g tables ledger cells used budget x order by p = ended_by_bound picks k g tables ledger cells used budget order by (proceeded_plain x order picks g tables ledger cells used budget p)

-- ---- from the inputs

module _ (graph arrays inputs : List ℕ) {tables links flags ledger ledger₁ cells cells₁ : List ℕ} {used : ℕ} (b : Begun graph arrays inputs tables links flags ledger ledger₁ cells cells₁ used) where
  -- as many tokens as inputs
  pub used_all : used ≡ length inputs / token_width
  unfolding first_state
  used_all =
      let first = ap (λ (s : State Tag ℤ). length s.tokens) b.state in
      let now = length-map (tokens used ledger₁) token_held ∙ length_rows token_width Tokens.decode_token used ledger₁ in
      let then = length-map (all_rows token_width Tokens.decode_token inputs) token_held ∙ length_rows token_width Tokens.decode_token (length inputs / token_width) inputs in
      omega (arith, first, now, then)

-- ---- that passed its checks

parts : (graph arrays inputs : List ℕ) (stores : Checked) (picks ledger cells : ℕ) → (stores ≡ Ok tt → check_stores (length inputs) picks ledger cells ≡ Ok tt)
    → (check_graph graph and_then stores and_then check_arrays (graph_of graph) (cells / cell_width) arrays and_then check_inputs (graph_of graph) (capacity_of ledger) inputs) ≡ Ok tt → Accepted graph arrays inputs ledger cells
parts graph arrays inputs stores picks ledger cells whole e =
    let a = both-passed (check_graph graph) _ e in
    let b = both-passed stores _ a.1 in
    let good = passed_stores (length inputs) picks ledger cells (whole b.0) in
    let c = both-passed (check_arrays (graph_of graph) (cells / cell_width) arrays) _ b.1 in
    record { graph_passed = a.0; few_arrays = passed_arrays (graph_of graph) (cells / cell_width) arrays c.0; inputs_passed = c.1; few = good.token_records.1; cell_records = good.cell_records }

-- what is said of a run that passed its check, with a bound
pub accepted_bounded : (graph arrays inputs picks : List ℕ) (k ledger cells : ℕ) → check_bounded graph arrays inputs picks k ledger cells ≡ Ok tt → Accepted graph arrays inputs ledger cells
unfolding check_bounded and_bound
accepted_bounded graph arrays inputs picks k ledger cells e =
    parts graph arrays inputs (and_bound (check_stores (length inputs) (length picks) ledger cells) k) (length picks) ledger cells (λ h. (both-passed (check_stores (length inputs) (length picks) ledger cells) _ h).0) e

-- 02, R-7: the check of a run that writes a log says so too
pub accepted_logged : (graph arrays inputs picks : List ℕ) (budget k ledger cells lent : ℕ) → check_bound_logged graph arrays inputs picks budget k ledger cells lent ≡ Ok tt → Accepted graph arrays inputs ledger cells
unfolding check_bound_logged check_log_stores and_bound
accepted_logged graph arrays inputs picks budget k ledger cells lent e =
    parts graph arrays inputs (and_bound (check_log_stores (length inputs) (length picks) ledger cells budget lent) k) (length picks) ledger cells
    (λ h. (both-passed (check_stores (length inputs) (length picks) ledger cells) _ (both-passed (check_log_stores (length inputs) (length picks) ledger cells budget lent) _ h).0).0) e

module _ (graph arrays inputs picks ledger cells : List ℕ) (a : Accepted graph arrays inputs (length ledger) (length cells))
    {tables links flags ledger₁ cells₁ : List ℕ} {used : ℕ} (b : Begun graph arrays inputs tables links flags ledger ledger₁ cells cells₁ used) (budget k : ℕ) where
  abbrev ends : List NamedArray → (capacity count : ℕ) → State Tag ℤ → End Refusal Tag ℤ
  ends table capacity count s = run_bounded (machine_of (graph_of graph) table capacity count) (held_in (graph_of graph) k) (by_picks (machine_of (graph_of graph) table capacity count)) budget (picks_of picks) 0 s

  abbrev logs : List NamedArray → (capacity count : ℕ) → State Tag ℤ → List Tag
  logs table capacity count s = log_bounded (machine_of (graph_of graph) table capacity count) (held_in (graph_of graph) k) (by_picks (machine_of (graph_of graph) table capacity count)) budget (picks_of picks) s

  pub as_run_lem : (r : Answer) (ledger' cells' : List ℕ) → EndedAt (end_bounded k picks (graph_of graph) tables ledger₁ cells₁ used budget) r ledger₁ cells₁ ledger' cells'
      → EndedAt (end_from_inputs k picks budget graph arrays inputs ledger cells) r ledger cells ledger' cells'
  as_run_lem r ledger' cells' h =
      let M = machine_lent graph arrays ledger cells in
      let s₀ = first_state inputs (length cells / cell_width) in
      as_lent graph arrays inputs ledger cells a b (ends (arrays_of arrays) (length ledger / token_width) (length cells / cell_width) s₀) (logs (arrays_of arrays) (length ledger / token_width) (length cells / cell_width) s₀)
      (bounded_logged M (held_in (graph_of graph) k) (by_picks M) (by_picks_lawful M) budget (picks_of picks) 0 s₀).logged.fires r ledger' cells'
      (subst (λ (x : End Refusal Tag ℤ). EndedAt x r ledger₁ cells₁ ledger' cells') (from_start graph arrays inputs ledger cells a b ends) h)

  pub as_logged : (log log' : List ℕ) → log' ≡ recorded (fired_bounded k picks (graph_of graph) tables ledger₁ cells₁ used budget) log
      → log' ≡ recorded (fired_from_inputs k picks budget graph arrays inputs ledger cells) log
  as_logged log log' h = h ∙ ap (λ (τs : List Tag). recorded τs log) (from_start graph arrays inputs ledger cells a b logs)
