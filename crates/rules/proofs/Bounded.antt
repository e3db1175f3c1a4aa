-- R-9 over the rules: bound 0 is the run without a bound (`bound_zero`); a run with a bound that completes, or hangs with no held activity left, ends as every order does
-- (`as_every_order`); where an order completes or hangs, none with a bound is refused (`not_refused`); one that writes a log is the run (`bound_logged_runs`,
-- `bound_log_fits`); and what holds of every result holds of these (`bounded_invariants`, `bounded_fits`, `bounded_small`, `bounded_counted`). Assumes nothing.
use Rattle.std.proofs.Common.{Ok, Err}
use Prim.Native.Nat.{ℕ, ◌+◌, ◌*◌, ◌/◌, ◌≤◌}
use mathlib.Core.Path.{◌≡◌, refl, ap}
use mathlib.Core.Bool.{true, ◌||◌}
use mathlib.Core.List.{List}
use mathlib.Core.Logic.{◌⊎◌, inl, inr}
use native.Mathlib.Omega.{arith}
use lib.ListN.{length}
use lib.IntN.{ℤ}
use lib.Dec.{leb}
use Rattle.number.specs.Number.{Bytes}
use Rattle.buffer.specs.Rows.{whole}
use Rattle.record.specs.declared.tag.Tag.{Tag}
use Rattle.record.specs.declared.array.NamedArray.{NamedArray}
use Rattle.record.specs.GraphRecords.{graph_of}
use Rattle.record.specs.Arrays.{arrays_of}
use Rattle.record.specs.TokensAndTags.{most_tokens, capacity_of}
use Rattle.record.specs.Widths.{token_width, cell_width, log_width}
use Rattle.machine.specs.Machine.{Machine, State, End, Outcome, completed, hung, budget_spent, refused, by_picks, run}
use Rattle.machine.specs.Orders.{Completed, Hung, Quiescent, Refused}
use Rattle.machine.specs.Sequences.{log_of}
use Rattle.machine.specs.Bounded.{run_bounded, log_bounded}
use Rattle.machine.specs.Bounded as Machines
use Rattle.machine.proofs.Ending.{rested}
use Rattle.machine.proofs.Sequences.{fires_good, no_longer}
use Rattle.machine.proofs.Orders.{by_picks_lawful}
use Rattle.machine.proofs.Reached.{sequence_reaches}
use Rattle.machine.proofs.Runs.{ran}
use Rattle.machine.proofs.Bounds.{held_bounded}
use Rattle.machine.proofs.Saved.{saved_reached, saved_firings}
use Rattle.machine.proofs.Bounded.{unbounded, bounded_logged, bounded_ends, bounded_unrefused, RanBounded}
use Rattle.rules.specs.declared.answer.Refusal.{Refusal}
use Rattle.rules.specs.declared.answer.Refusal.TheVariants.{BadBound, DamagedState}
use Rattle.rules.specs.Check.{demand, ◌and_then◌, check_graph, check_stores, check_arrays, check_inputs, check, most_cells, Checked}
use Rattle.rules.specs.InstructionSet.{machine_of}
use Rattle.rules.specs.Run.{first_state, picks_of, ran_to, outcome_of, unless_failed, result, answer}
use Rattle.rules.specs.Log.{log_suffices, check_log_stores, check_logged, log_unless_failed, logged}
use Rattle.rules.specs.Saved.{machine_saved, state_saved, state_taken, check_saved, carried}
use Rattle.rules.specs.Orders.{result_outcome, Allowed}
use Rattle.rules.specs.Fits.{AllFit}
use Rattle.rules.specs.Invariants.{LawfulResult}
use Rattle.rules.specs.Small.{Small, CountsFit}
use Rattle.rules.specs.Held.{held_in}
use Rattle.rules.specs.Bounded.{good_bound, and_bound, check_bounded, bounded, check_bound_logged, bound_logged, check_bound_saved, bound_carried}
use Rattle.rules.specs.Bounded.{BoundZero, LeavesNoneHeld, BoundedEndsAs, BoundedAsEveryOrder, NotRefused}
use Rattle.rules.proofs.Passed.{demand_passed, and_then_passed}
use Rattle.rules.proofs.Lawful.{lawful}
use Rattle.rules.proofs.Accepted.{whole_bytes, Whole, stores_whole, Accepted, accepted, law, good, by_check}
use Rattle.rules.proofs.Invariants.{ended_lawful}
use Rattle.rules.proofs.Fits.{lawful_fits, none_fits}
use Rattle.rules.proofs.Orders.{same_length, same_cells_lem, alike_ends}
use Rattle.rules.proofs.Log.{log_stores, enough}
use Rattle.rules.proofs.Small.{Below, then_below, demand_below, graph_below, arrays_below, stores_below, all_below_lem, place_small, refused_small}
use Rattle.rules.proofs.Counted.{at_once_lem, placed, sequence}
use Rattle.rules.proofs.Saved.{saved_under}

-- ---- the claims

-- a run that writes a log is the run, if the log suffices, and the log has room in what is lent
abbrev pub BoundLoggedRuns : Type 0
BoundLoggedRuns = (graph arrays inputs picks : List ℕ) (budget k ledger cells lent : ℕ) → log_suffices budget lent ≡ true
    → (bound_logged graph arrays inputs picks budget k ledger cells lent).result ≡ bounded graph arrays inputs picks budget k ledger cells

abbrev pub BoundLogFits : Type 0
BoundLogFits = (graph arrays inputs picks : List ℕ) (budget k ledger cells lent : ℕ) → length (bound_logged graph arrays inputs picks budget k ledger cells lent).log * log_width ≤ lent

-- it is a firing sequence from the inputs, its tokens and cells fit their records, and its answer is small, as those of a run are
abbrev pub BoundedInvariants : Type 0
BoundedInvariants = (graph arrays inputs picks : List ℕ) (budget k ledger cells : ℕ) → LawfulResult graph arrays inputs ledger cells (bounded graph arrays inputs picks budget k ledger cells)

abbrev pub BoundedFits : Type 0
BoundedFits = (graph arrays inputs picks : List ℕ) (budget k ledger cells : ℕ) → Bytes graph → Bytes inputs
    → AllFit (bounded graph arrays inputs picks budget k ledger cells) (capacity_of ledger) (cells / cell_width)

abbrev pub BoundedSmall : Type 0
BoundedSmall = (graph arrays inputs picks : List ℕ) (budget k ledger cells : ℕ) → Small budget (answer (bounded graph arrays inputs picks budget k ledger cells))

-- 16 bits are enough for each number of an answer
pub record BoundedCounted : Type 0 where
  pub by_logged : (graph arrays inputs picks : List ℕ) (budget k ledger cells lent : ℕ) → CountsFit (answer (bound_logged graph arrays inputs picks budget k ledger cells lent).result)
  pub by_carried : (graph arrays picks ledger cells : List ℕ) (budget k firings tokens : ℕ) → CountsFit (answer (bound_carried graph arrays picks budget k ledger cells firings tokens))

-- ---- the check

bound_passed : (stores : Checked) (k : ℕ) → and_bound stores k ≡ Ok tt → stores ≡ Ok tt
unfolding and_bound
bound_passed stores k e = (and_then_passed stores (demand (good_bound k) BadBound 0) e).0

bound_below : (stores : Checked) (k : ℕ) → Below stores → Below (and_bound stores k)
unfolding and_bound
bound_below stores k low = then_below stores (demand (good_bound k) BadBound 0) low (λ e. demand_below (good_bound k) BadBound 0 (λ h. omega arith))

no_bound : (stores : Checked) → and_bound stores 0 ≡ stores
unfolding and_bound good_bound
no_bound (Ok _) = refl
no_bound (Err fault) = refl

-- what a check with a bound says that passed
record Passes (graph arrays inputs picks : List ℕ) (k ledger cells : ℕ) : Type 0 where
  stores : check_stores (length inputs) (length picks) ledger cells ≡ Ok tt
  named : check_arrays (graph_of graph) (cells / cell_width) arrays ≡ Ok tt
  start : Accepted graph inputs (capacity_of ledger)

passes : (graph arrays inputs picks : List ℕ) (k ledger cells : ℕ) → check_bounded graph arrays inputs picks k ledger cells ≡ Ok tt → Passes graph arrays inputs picks k ledger cells
unfolding check_bounded
passes graph arrays inputs picks k ledger cells e =
    let (p, (n, a)) = accepted graph inputs (capacity_of ledger) (and_bound (check_stores (length inputs) (length picks) ledger cells) k) (check_arrays (graph_of graph) (cells / cell_width) arrays) e in
    record { stores = bound_passed (check_stores (length inputs) (length picks) ledger cells) k p; named = n; start = a }

-- it looks at no pick but for their length, and at the bound besides
both_accept : (graph arrays inputs picks : List ℕ) (k ledger cells : ℕ) → Allowed picks ledger cells → good_bound k ≡ true → whole token_width most_tokens (length inputs) ≡ true
    → check_arrays (graph_of graph) (cells / cell_width) arrays ≡ Ok tt → Accepted graph inputs (capacity_of ledger)
    → (check graph arrays inputs picks ledger cells ≡ Ok tt) × (check_bounded graph arrays inputs picks k ledger cells ≡ Ok tt)
unfolding check check_bounded and_bound check_stores
both_accept graph arrays inputs picks k ledger cells allowed bound whole named a = (
  rw (a.graph_passed, whole, allowed.allowed_picks, allowed.allowed_ledger, allowed.allowed_cells, named) a.inputs_passed,
  rw (a.graph_passed, whole, allowed.allowed_picks, allowed.allowed_ledger, allowed.allowed_cells, bound, named) a.inputs_passed,
)

-- ---- bound 0

module _ (graph arrays inputs picks : List ℕ) (budget ledger cells : ℕ) where
  abbrev M₀ : Machine
  M₀ = machine_of (graph_of graph) (arrays_of arrays) (capacity_of ledger) (cells / cell_width)

  abbrev s₀ : State Tag ℤ
  s₀ = first_state inputs (cells / cell_width)

  none_held : (run_bounded M₀ (held_in (graph_of graph) 0) (by_picks M₀) budget (picks_of picks) 0 s₀ ≡ run M₀ budget (picks_of picks) s₀)
      × (log_bounded M₀ (held_in (graph_of graph) 0) (by_picks M₀) budget (picks_of picks) s₀ ≡ log_of M₀ (by_picks M₀) budget (picks_of picks) s₀)
  unfolding held_in
  none_held = unbounded M₀ (held_in (graph_of graph) 0) (λ s a. refl) (by_picks M₀) budget (picks_of picks) 0 s₀

  zero_run : bounded graph arrays inputs picks budget 0 ledger cells ≡ result graph arrays inputs picks budget ledger cells
  unfolding bounded check_bounded result check
  zero_run = rw (no_bound (check_stores (length inputs) (length picks) ledger cells), none_held.0)

  zero_logged : (lent : ℕ) → bound_logged graph arrays inputs picks budget 0 ledger cells lent ≡ logged graph arrays inputs picks budget ledger cells lent
  unfolding bound_logged check_bound_logged logged check_logged
  zero_logged lent = rw (no_bound (check_log_stores (length inputs) (length picks) ledger cells budget lent), none_held.0, none_held.1)

zero_carried : (graph arrays picks ledger cells : List ℕ) (budget firings n : ℕ) → bound_carried graph arrays picks budget 0 ledger cells firings n ≡ carried graph arrays picks budget ledger cells firings n
unfolding bound_carried check_bound_saved carried check_saved held_in
zero_carried graph arrays picks ledger cells budget firings n =
    let M = machine_saved graph (arrays_of arrays) ledger cells in
    rw (no_bound (check_stores 0 (length picks) (length ledger) (length cells)), (unbounded M (held_in (graph_of graph) 0) (λ s a. refl) (by_picks M) budget (picks_of picks) firings (state_saved ledger cells n)).0)

pub bound_zero : BoundZero
bound_zero = record { of_run = zero_run; of_logged = zero_logged; of_carried = zero_carried }

-- ---- from inputs that passed

module _ (graph inputs : List ℕ) (table : List NamedArray) (capacity cells : ℕ) (few : capacity ≤ most_tokens) (a : Accepted graph inputs capacity) (k budget : ℕ) (picks : List ℕ) where
  abbrev M : Machine
  M = machine_of (graph_of graph) table capacity cells

  abbrev s : State Tag ℤ
  s = first_state inputs cells

  abbrev e : End Refusal Tag ℤ
  e = run_bounded M (held_in (graph_of graph) k) (by_picks M) budget picks 0 s

  abbrev log : List Tag
  log = log_bounded M (held_in (graph_of graph) k) (by_picks M) budget picks s

  fires : RanBounded M (held_in (graph_of graph) k) s budget 0 log e
  fires = bounded_logged M (held_in (graph_of graph) k) (by_picks M) (by_picks_lawful M) budget picks 0 s

  quiet : {X : Type 0} (o : Outcome Refusal) → Completed o ⊎ (Hung o × X) → Quiescent o
  quiet completed h = tt
  quiet hung h = tt
  quiet budget_spent (inl h) = h
  quiet budget_spent (inr h) = h.0
  quiet (refused r p) (inl h) = h
  quiet (refused r p) (inr h) = h.0

  ends_as : Machines.LeavesNoneHeldOfMachine M (held_in (graph_of graph) k) e → (picks' : List ℕ) → BoundedEndsAs (ran_to e) (ran_to (run M 2048 picks' s))
  unfolding answer
  ends_as none picks' =
      let lawful = law graph inputs table capacity cells a in
      let first = good graph inputs table capacity cells a in
      let z = bounded_ends M lawful (held_in (graph_of graph) k) (by_picks M) (by_picks_lawful M) s first budget picks 0 none (by_picks M) (by_picks_lawful M) 2048 few picks' in
      record {
        rests = quiet e.outcome none;
        outcome = ap outcome_of z.outcome;
        alike = alike_ends (graph_of graph) table capacity cells e (run M 2048 picks' s) (fires_good M lawful s first log e.state fires.logged.fires).distinct z;
      }

  unrefused : (picks' : List ℕ) → Quiescent (run M 2048 picks' s).outcome → ¬ (Refused e.outcome)
  unrefused picks' rests =
      let d = run M 2048 picks' s in
      let h = ran M (by_picks M) (by_picks_lawful M) 2048 picks' 0 s in
      bounded_unrefused M (law graph inputs table capacity cells a) (held_in (graph_of graph) k) (by_picks M) (by_picks_lawful M) s (good graph inputs table capacity cells a) budget picks 0 (log_of M (by_picks M) 2048 picks' s) d.state h.logged.fires
      (rested M d.outcome 2048 _ d.state rests h.says).0

  lengths : (length log ≤ length e.state.tokens) × (length e.state.tokens ≤ capacity)
  lengths = no_longer M (law graph inputs table capacity cells a) s (good graph inputs table capacity cells a) log e.state fires.logged.fires

  small : Small budget (answer (ran_to e))
  unfolding answer
  small =
      let b = held_bounded M (held_in (graph_of graph) k) (by_picks M) (by_picks_lawful M) budget picks 0 s (good graph inputs table capacity cells a).room in
      record {
        firings = omega (arith, b.firings);
        by_tokens = omega (arith, lengths.0, fires.logged.firings);
        tokens = omega (arith, lengths.1);
        place = place_small graph inputs table capacity cells few a e.outcome e.state.tokens b.place lengths.1;
      }

  counted : CountsFit (answer (ran_to e))
  counted =
      let b = held_bounded M (held_in (graph_of graph) k) (by_picks M) (by_picks_lawful M) budget picks 0 s (good graph inputs table capacity cells a).room in
      sequence graph inputs table capacity cells few a e log fires.logged (λ l m. placed graph table capacity cells e.outcome e.state b.place m)

-- ---- over bytes

module _ (graph arrays inputs picks : List ℕ) (budget k ledger cells : ℕ) where
  begun : LeavesNoneHeld graph arrays k ledger cells (bounded graph arrays inputs picks budget k ledger cells) → check_bounded graph arrays inputs picks k ledger cells ≡ Ok tt
  unfolding bounded unless_failed
  begun h = go (check_bounded graph arrays inputs picks k ledger cells) refl
    where
      go : (c : Checked) → check_bounded graph arrays inputs picks k ledger cells ≡ c → c ≡ Ok tt
      go (Ok _) e = refl
      go (Err fault) e = absurd (rw e at h)

  few_in : check_stores (length inputs) (length picks) ledger cells ≡ Ok tt → capacity_of ledger ≤ most_tokens
  few_in stores = (whole_bytes token_width most_tokens ledger (stores_whole (length inputs) (length picks) ledger cells stores).whole_ledger).1

  as_orders : (picks' : List ℕ) → Allowed picks' ledger cells → LeavesNoneHeld graph arrays k ledger cells (bounded graph arrays inputs picks budget k ledger cells)
      → BoundedEndsAs (bounded graph arrays inputs picks budget k ledger cells) (result graph arrays inputs picks' 2048 ledger cells)
  unfolding bounded result unless_failed good_bound
  as_orders picks' allowed none =
      let e = begun none in
      let p = passes graph arrays inputs picks k ledger cells e in
      let accepts = (both_accept graph arrays inputs picks' 0 ledger cells allowed refl (stores_whole (length inputs) (length picks) ledger cells p.stores).whole_inputs p.named p.start).0 in
      rw (e, accepts) (ends_as graph inputs (arrays_of arrays) (capacity_of ledger) (cells / cell_width) (few_in p.stores) p.start k budget (picks_of picks) (rw e at none) (picks_of picks'))

pub as_every_order : BoundedAsEveryOrder
as_every_order graph arrays inputs picks picks' budget k ledger ledger' cells cells' none allowed c d =
    let p = passes graph arrays inputs picks k ledger cells (begun graph arrays inputs picks budget k ledger cells none) in
    let w = stores_whole (length inputs) (length picks) ledger cells p.stores in
    let l = same_length ledger ledger' (whole_bytes token_width most_tokens ledger w.whole_ledger).0 (whole_bytes token_width most_tokens ledger' allowed.allowed_ledger).0 c in
    let m = same_cells_lem cells cells' (whole_bytes cell_width most_cells cells w.whole_cells).0 (whole_bytes cell_width most_cells cells' allowed.allowed_cells).0 d in
    rw (← l, ← m) (as_orders graph arrays inputs picks budget k ledger cells picks' (rw (l, m) allowed) none)

pub not_refused : NotRefused
unfolding bounded result unless_failed check
not_refused graph arrays inputs picks picks' budget k ledger cells bound allowed rests = go (check graph arrays inputs picks' ledger cells) refl
  where
    go : (c : Checked) → check graph arrays inputs picks' ledger cells ≡ c → ¬ (Refused (result_outcome (bounded graph arrays inputs picks budget k ledger cells)))
    go (Err fault) e = absurd (rw e at rests)
    go (Ok _) e =
        let (stores, (named, a)) = accepted graph inputs (capacity_of ledger) (check_stores (length inputs) (length picks') ledger cells) (check_arrays (graph_of graph) (cells / cell_width) arrays) e in
        let w = stores_whole (length inputs) (length picks') ledger cells stores in
        let accepts = (both_accept graph arrays inputs picks k ledger cells allowed bound w.whole_inputs named a).1 in
        rw accepts (unrefused graph inputs (arrays_of arrays) (capacity_of ledger) (cells / cell_width) (whole_bytes token_width most_tokens ledger w.whole_ledger).1 a k budget (picks_of picks) (picks_of picks') (rw e at rests))

-- ---- one that writes a log

pub bound_logged_runs : BoundLoggedRuns
unfolding bound_logged log_unless_failed bounded unless_failed check_bound_logged check_bounded check_log_stores and_bound
bound_logged_runs graph arrays inputs picks budget k ledger cells lent suffices =
    rw suffices (go (check_graph graph) (check_stores (length inputs) (length picks) ledger cells)
    (demand (good_bound k) BadBound 0) (check_arrays (graph_of graph) (cells / cell_width) arrays and_then check_inputs (graph_of graph) (capacity_of ledger) inputs) _ _)
  where
    go : (g s b i : Checked) (d : End Refusal Tag ℤ) (τs : List Tag) → (log_unless_failed (g and_then ((s and_then Ok tt) and_then b) and_then i) d τs).result ≡ unless_failed (g and_then (s and_then b) and_then i) (ran_to d)
    go (Err fault) s b i d τs = refl
    go (Ok _) (Err fault) b i d τs = refl
    go (Ok _) (Ok _) (Err fault) i d τs = refl
    go (Ok _) (Ok _) (Ok _) (Err fault) d τs = refl
    go (Ok _) (Ok _) (Ok _) (Ok _) d τs = refl

module _ (graph arrays inputs picks : List ℕ) (budget k ledger cells lent : ℕ) where
  abbrev stores : Checked
  stores = check_log_stores (length inputs) (length picks) ledger cells budget lent

  -- what its check says that passed
  log_passes : check_bound_logged graph arrays inputs picks budget k ledger cells lent ≡ Ok tt
      → Whole (length inputs) (length picks) ledger cells × ((leb budget (lent / log_width) || leb most_tokens (lent / log_width)) ≡ true) × Accepted graph inputs (capacity_of ledger)
  unfolding check_bound_logged
  log_passes e =
      let (p, (n, a)) = accepted graph inputs (capacity_of ledger) (and_bound stores k) (check_arrays (graph_of graph) (cells / cell_width) arrays) e in
      let (w, r) = log_stores (length inputs) (length picks) ledger cells budget lent (bound_passed stores k p) in
      (w, r, a)

  log_room : (c : Checked) → check_bound_logged graph arrays inputs picks budget k ledger cells lent ≡ c → length (bound_logged graph arrays inputs picks budget k ledger cells lent).log * log_width ≤ lent
  unfolding bound_logged log_unless_failed
  log_room (Err fault) e = rw e (omega arith)
  log_room (Ok _) e =
      let (w, r, a) = log_passes e in
      let few = (whole_bytes token_width most_tokens ledger w.whole_ledger).1 in
      let l = lengths graph inputs (arrays_of arrays) (capacity_of ledger) (cells / cell_width) few a k budget (picks_of picks) in
      let h = fires graph inputs (arrays_of arrays) (capacity_of ledger) (cells / cell_width) few a k budget (picks_of picks) in
      rw e (enough budget lent _ h.within (omega (arith, l.0, l.1)) r)

  log_below : Below (check_bound_logged graph arrays inputs picks budget k ledger cells lent)
  unfolding check_bound_logged check_log_stores
  log_below =
      all_below_lem graph arrays inputs (capacity_of ledger) (cells / cell_width) (and_bound stores k)
      (bound_below stores k (then_below (check_stores (length inputs) (length picks) ledger cells) _ (stores_below (length inputs) (length picks) ledger cells) (λ f. demand_below (log_suffices budget lent) _ 0 (λ g. omega arith))))
      (λ e. (log_stores (length inputs) (length picks) ledger cells budget lent (bound_passed stores k e)).0.whole_inputs)

  log_counted : (c : Checked) → check_bound_logged graph arrays inputs picks budget k ledger cells lent ≡ c → CountsFit (answer (bound_logged graph arrays inputs picks budget k ledger cells lent).result)
  unfolding bound_logged log_unless_failed
  log_counted (Err fault) e = rw e (at_once_lem fault.refusal fault.place (rw e at log_below))
  log_counted (Ok _) e =
      let (w, r, a) = log_passes e in
      rw e (counted graph inputs (arrays_of arrays) (capacity_of ledger) (cells / cell_width) (whole_bytes token_width most_tokens ledger w.whole_ledger).1 a k budget (picks_of picks))

pub bound_log_fits : BoundLogFits
bound_log_fits graph arrays inputs picks budget k ledger cells lent = log_room graph arrays inputs picks budget k ledger cells lent (check_bound_logged graph arrays inputs picks budget k ledger cells lent) refl

-- ---- one from a saved state: its firings are counted by the spent tokens of the state, and it leaves such a state

module _ (graph arrays picks ledger cells : List ℕ) (budget k firings n : ℕ) where
  abbrev N : Machine
  N = machine_saved graph (arrays_of arrays) ledger cells

  abbrev d : End Refusal Tag ℤ
  d = run_bounded N (held_in (graph_of graph) k) (by_picks N) budget (picks_of picks) firings (state_saved ledger cells n)

  from_saved : check_graph graph ≡ Ok tt → capacity_of (length ledger) ≤ most_tokens → state_taken graph ledger cells firings n ≡ true → CountsFit (answer (ran_to d))
  unfolding answer
  from_saved passed few t =
      let s = saved_under graph (arrays_of arrays) ledger cells firings n t in
      let h = bounded_logged N (held_in (graph_of graph) k) (by_picks N) (by_picks_lawful N) budget (picks_of picks) firings (state_saved ledger cells n) in
      let τs = log_bounded N (held_in (graph_of graph) k) (by_picks N) budget (picks_of picks) (state_saved ledger cells n) in
      let (o, r) = sequence_reaches N τs (state_saved ledger cells n) d.state h.logged.fires in
      let left = saved_reached N (lawful graph passed (arrays_of arrays) (capacity_of (length ledger)) (length cells / cell_width)) firings (state_saved ledger cells n) s (length τs) o d.state r in
      let b = held_bounded N (held_in (graph_of graph) k) (by_picks N) (by_picks_lawful N) budget (picks_of picks) firings (state_saved ledger cells n) s.good.room in
      record {
        by_tokens = omega (arith, h.logged.firings, saved_firings N (firings + length τs) d.state left);
        tokens = omega (arith, left.good.room);
        place = placed graph (arrays_of arrays) (capacity_of (length ledger)) (length cells / cell_width) d.outcome d.state b.place (omega (arith, left.good.room));
      }

  saved_below : Below (check_bound_saved graph arrays picks ledger cells k firings n)
  unfolding check_bound_saved
  saved_below =
      then_below (check_graph graph) _ (graph_below graph) (λ e.
      then_below (and_bound (check_stores 0 (length picks) (length ledger) (length cells)) k) _
      (bound_below (check_stores 0 (length picks) (length ledger) (length cells)) k (stores_below 0 (length picks) (length ledger) (length cells))) (λ f.
      then_below (check_arrays (graph_of graph) (length cells / cell_width) arrays) _ (arrays_below graph (length cells / cell_width) arrays e) (λ g.
      demand_below (state_taken graph ledger cells firings n) DamagedState 0 (λ h. omega arith))))

  counted_carried : CountsFit (answer (bound_carried graph arrays picks budget k ledger cells firings n))
  unfolding bound_carried check_bound_saved
  counted_carried =
      by_check (check_bound_saved graph arrays picks ledger cells k firings n) _ (λ x. CountsFit (answer x)) (λ r p h. at_once_lem r p (rw h at saved_below)) (λ h.
      let (g, later) = and_then_passed (check_graph graph) _ h in
      let (b, last) = and_then_passed (and_bound (check_stores 0 (length picks) (length ledger) (length cells)) k) _ later in
      let stores = bound_passed (check_stores 0 (length picks) (length ledger) (length cells)) k b in
      let few = (whole_bytes token_width most_tokens (length ledger) (stores_whole 0 (length picks) (length ledger) (length cells) stores).whole_ledger).1 in
      from_saved g few (demand_passed (state_taken graph ledger cells firings n) DamagedState 0 (and_then_passed (check_arrays (graph_of graph) (length cells / cell_width) arrays) _ last).1))

-- ---- what holds of every result

pub bounded_invariants : BoundedInvariants
unfolding bounded
bounded_invariants graph arrays inputs picks budget k ledger cells =
    by_check (check_bounded graph arrays inputs picks k ledger cells) _ (LawfulResult graph arrays inputs ledger cells) (λ r p e. tt) (λ e.
    let p = passes graph arrays inputs picks k ledger cells e in
    let f = fires graph inputs (arrays_of arrays) (capacity_of ledger) (cells / cell_width) (few_in graph arrays inputs picks budget k ledger cells p.stores) p.start k budget (picks_of picks) in
    ended_lawful graph arrays inputs ledger cells p.start _ _ f.logged)

pub bounded_fits : BoundedFits
unfolding bounded
bounded_fits graph arrays inputs picks budget k ledger cells graph_bytes input_bytes =
    by_check (check_bounded graph arrays inputs picks k ledger cells) _ (λ x. LawfulResult graph arrays inputs ledger cells x → AllFit x (capacity_of ledger) (cells / cell_width)) (λ r n e h. none_fits r n (capacity_of ledger) (cells / cell_width)) (λ e h.
    let p = passes graph arrays inputs picks k ledger cells e in
    lawful_fits graph arrays inputs ledger cells graph_bytes input_bytes (length picks) p.stores p.start _ h)
    (bounded_invariants graph arrays inputs picks budget k ledger cells)

pub bounded_small : BoundedSmall
unfolding bounded check_bounded
bounded_small graph arrays inputs picks budget k ledger cells =
    by_check (check_bounded graph arrays inputs picks k ledger cells) _ (λ x. Small budget (answer x))
    (λ r n e. refused_small budget r n (rw e at (all_below_lem graph arrays inputs (capacity_of ledger) (cells / cell_width) (and_bound (check_stores (length inputs) (length picks) ledger cells) k)
    (bound_below (check_stores (length inputs) (length picks) ledger cells) k (stores_below (length inputs) (length picks) ledger cells))
    (λ f. (stores_whole (length inputs) (length picks) ledger cells (bound_passed (check_stores (length inputs) (length picks) ledger cells) k f)).whole_inputs))))
    (λ e.
    let p = passes graph arrays inputs picks k ledger cells e in
    small graph inputs (arrays_of arrays) (capacity_of ledger) (cells / cell_width) (few_in graph arrays inputs picks budget k ledger cells p.stores) p.start k budget (picks_of picks))

pub bounded_counted : BoundedCounted
bounded_counted = record {
  by_logged = λ graph arrays inputs picks budget k ledger cells lent. log_counted graph arrays inputs picks budget k ledger cells lent (check_bound_logged graph arrays inputs picks budget k ledger cells lent) refl;
  by_carried = counted_carried;
}
