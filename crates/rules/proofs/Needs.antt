-- 02, R-3, proved: no run exceeds the bounds (`never_exceeded`), and they are exact where no SWITCH or FETCH is reached (`exact`), from what has fired in a state
-- (FiredOnce). Assumes nothing.
use Rattle.std.proofs.Common.{Ok, Err}
use Prim.Native.Nat.{ℕ, ◌+◌, ◌/◌, ◌≤◌}
use mathlib.Core.Path.{◌≡◌, refl, ap}
use mathlib.Core.List.{List, []}
use native.Mathlib.Omega.{arith}
use lib.ListN.{length}
use lib.IntN.{ℤ}
use Rattle.record.specs.declared.tag.Tag.{Tag}
use Rattle.buffer.specs.Rows.{all_rows}
use Rattle.record.specs.TokensAndTags.{capacity_of}
use Rattle.record.specs.GraphRecords.{graph_of}
use Rattle.record.specs.Arrays.{arrays_of}
use Rattle.record.specs.Widths.{token_width, cell_width}
use Rattle.record.specs.declared.array.NamedArray.{NamedArray}
use Rattle.machine.specs.Machine.{Machine, End, run, State, enabled}
use Rattle.machine.specs.Orders.{Quiescent, Reached}
use Rattle.machine.proofs.Reached.{reached_invariants, reached_picks, Ended}
use Rattle.machine.proofs.Ending.{rested}
use Rattle.rules.specs.declared.answer.Refusal.TheVariants as Refusals
use Rattle.rules.specs.declared.answer.Needs.{Needs}
use Rattle.rules.specs.declared.answer.Refusal.{Refusal}
use Rattle.rules.specs.Check.{◌and_then◌, demand, in_turn, good_input, check_graph, check_stores, check_arrays, check_inputs, check, Checked}
use Rattle.rules.specs.InstructionSet.{machine_of}
use Rattle.rules.specs.Run.{first_state, picks_of, result, answer}
use Rattle.rules.specs.Orders.{result_outcome}
use Rattle.rules.specs.Needs.{firings_needed, outputs_needed, total, loop_free, check_needs, inputs_of, needs_at_most, needs, NoSwitchOrFetch, NeverExceeded, Exact}
use Rattle.rules.proofs.Passed.{and_then_passed}
use Rattle.rules.proofs.Lawful.{lawful}
use Rattle.rules.proofs.Inputs.{tokens_first}
use Rattle.rules.proofs.Accepted.{accepted, by_check}
use Rattle.rules.proofs.FiredOnce.{begun, within, at_rest}

-- ---- the claims

-- of every state that a run from inputs reaches
abbrev pub NoStateExceeds : Type 0
NoStateExceeds = (graph inputs : List ℕ) (table : List NamedArray) (capacity cells firings tokens : ℕ) → needs graph inputs ≡ needs_at_most firings tokens → check_inputs (graph_of graph) capacity inputs ≡ Ok tt
    → (f o : ℕ) (x : State Tag ℤ) → Reached (machine_of (graph_of graph) table capacity cells) (first_state inputs cells) f o x → (f ≤ firings) × (length x.tokens ≤ tokens)

abbrev pub ExactAtRest : Type 0
ExactAtRest = (graph inputs : List ℕ) (table : List NamedArray) (capacity cells firings tokens : ℕ) → needs graph inputs ≡ needs_at_most firings tokens → NoSwitchOrFetch graph inputs → check_inputs (graph_of graph) capacity inputs ≡ Ok tt
    → (f o : ℕ) (x : State Tag ℤ) → Reached (machine_of (graph_of graph) table capacity cells) (first_state inputs cells) f o x → enabled (machine_of (graph_of graph) table capacity cells) x ≡ []
    → (f ≡ firings) × (length x.tokens ≡ tokens)

-- ---- what the bounds are taken from

record Taken (graph inputs : List ℕ) (firings tokens : ℕ) : Type 0 where
  passed : check_graph graph ≡ Ok tt
  free : in_turn (λ i r. demand (loop_free r) Refusals.NotLoopFree i) 0 (graph_of graph) ≡ Ok tt
  is_firings : total (inputs_of inputs) (graph_of graph) firings_needed ≡ firings
  is_tokens : length (inputs_of inputs) + total (inputs_of inputs) (graph_of graph) outputs_needed ≡ tokens

same_bounds : {f f' t t' : ℕ} → needs_at_most f t ≡ needs_at_most f' t' → (f ≡ f') × (t ≡ t')
same_bounds {f} {f'} {t} {t'} e =
    let z : ◌≡◌ {A = Needs} (record { firings = f; tokens = t }) (record { firings = f'; tokens = t' }) = cc in
    (ap (λ (n : Needs). n.firings) z, ap (λ (n : Needs). n.tokens) z)

taken : (graph inputs : List ℕ) (firings tokens : ℕ) → needs graph inputs ≡ needs_at_most firings tokens → Taken graph inputs firings tokens
unfolding needs check_needs
taken graph inputs firings tokens e = go (check_needs graph inputs) refl e
  where
    go : (c : Checked) → check_needs graph inputs ≡ c
        → (c and_then needs_at_most (total (inputs_of inputs) (graph_of graph) firings_needed) (length (inputs_of inputs) + total (inputs_of inputs) (graph_of graph) outputs_needed)) ≡ needs_at_most firings tokens
        → Taken graph inputs firings tokens
    go (Err fault) h k = let z : ◌≡◌ {A = ℕ} 0 1 = cc in absurd (omega arith)
    go (Ok _) h k =
        let a = and_then_passed (check_graph graph) _ h in
        let b = and_then_passed (check_stores (length inputs) 0 0 0) _ a.1 in
        let same = same_bounds k in
        record { passed = a.0; free = (and_then_passed (in_turn (λ i good. demand good Refusals.BadInput i) 0 (all_rows token_width (good_input (graph_of graph)) inputs)) _ b.1).1; is_firings = same.0; is_tokens = same.1 }

pub no_state_exceeds : NoStateExceeds
no_state_exceeds graph inputs table capacity cells firings tokens e accepted f o x r =
    let t = taken graph inputs firings tokens e in
    let begun = begun graph inputs table capacity cells t.passed t.free accepted in
    let (a, b) = within graph inputs table capacity cells t.passed t.free accepted f o x r in
    let c = (reached_invariants (machine_of (graph_of graph) table capacity cells) (lawful graph t.passed table capacity cells) (first_state inputs cells) begun f o x r).count in
    (omega (arith, t.is_firings), omega (arith, t.is_tokens, tokens_first inputs cells))

pub exact_at_rest : ExactAtRest
exact_at_rest graph inputs table capacity cells firings tokens e plain accepted f o x r rest =
    let t = taken graph inputs firings tokens e in
    let begun = begun graph inputs table capacity cells t.passed t.free accepted in
    let (a, b) = at_rest graph inputs table capacity cells t.passed t.free accepted plain f o x r rest in
    let c = (reached_invariants (machine_of (graph_of graph) table capacity cells) (lawful graph t.passed table capacity cells) (first_state inputs cells) begun f o x r).count in
    (omega (arith, t.is_firings), omega (arith, t.is_tokens, tokens_first inputs cells))

-- ---- whole runs

module _ (graph arrays inputs picks : List ℕ) (budget ledger cells firings tokens : ℕ) (e : needs graph inputs ≡ needs_at_most firings tokens) where
  abbrev Whole : Machine
  Whole = machine_of (graph_of graph) (arrays_of arrays) (capacity_of ledger) (cells / cell_width)

  abbrev last : End Refusal Tag ℤ
  last = run Whole budget (picks_of picks) (first_state inputs (cells / cell_width))

  reach : Ended Whole (first_state inputs (cells / cell_width)) budget 0 last
  reach = reached_picks Whole (first_state inputs (cells / cell_width)) budget (picks_of picks)

  passes : check graph arrays inputs picks ledger cells ≡ Ok tt → check_inputs (graph_of graph) (capacity_of ledger) inputs ≡ Ok tt
  unfolding check
  passes h = (accepted graph inputs (capacity_of ledger) (check_stores (length inputs) (length picks) ledger cells) (check_arrays (graph_of graph) (cells / cell_width) arrays) h).1.1.inputs_passed

  exceeds_neither : ((answer (result graph arrays inputs picks budget ledger cells)).firings ≤ firings) × ((answer (result graph arrays inputs picks budget ledger cells)).tokens ≤ tokens)
  unfolding answer result
  exceeds_neither = by_check (check graph arrays inputs picks ledger cells) _ (λ x. ((answer x).firings ≤ firings) × ((answer x).tokens ≤ tokens)) (λ r p f. (omega arith, omega arith)) (λ h.
      let (f, t) = no_state_exceeds graph inputs (arrays_of arrays) (capacity_of ledger) (cells / cell_width) firings tokens e (passes h) reach.done reach.sent last.state reach.reached in
      (omega (arith, reach.firings), t))

  is_exact : NoSwitchOrFetch graph inputs → Quiescent (result_outcome (result graph arrays inputs picks budget ledger cells))
      → ((answer (result graph arrays inputs picks budget ledger cells)).firings ≡ firings) × ((answer (result graph arrays inputs picks budget ledger cells)).tokens ≡ tokens)
  unfolding answer result
  is_exact plain = by_check (check graph arrays inputs picks ledger cells) _ (λ x. Quiescent (result_outcome x) → ((answer x).firings ≡ firings) × ((answer x).tokens ≡ tokens)) (λ r p f h. absurd h) (λ h q.
      let rest = (rested Whole last.outcome budget reach.done last.state q reach.says).0 in
      let (f, t) = exact_at_rest graph inputs (arrays_of arrays) (capacity_of ledger) (cells / cell_width) firings tokens e plain (passes h) reach.done reach.sent last.state reach.reached rest in
      (omega (arith, reach.firings), t))

pub never_exceeded : NeverExceeded
never_exceeded = exceeds_neither

pub exact : Exact
exact = is_exact
