-- The answer of a logged run, a replay, a profile and a run from a saved state is small: firings are no more than tokens, tokens 2,048 at most, and so is the place
-- (`all_counted`). Assumes nothing.
use Rattle.std.proofs.Common.{Ok, Err}
use Prim.Native.Nat.{ℕ, ◌+◌, ◌/◌, ◌%◌, ◌≤◌, ◌<◌}
use mathlib.Core.Path.{◌≡◌, refl}
use mathlib.Core.Bool.{true}
use mathlib.Core.List.{List, []}
use native.Mathlib.Omega.{arith}
use lib.Dec.{eqb}
use lib.ListN.{length}
use lib.IntN.{ℤ}
use Rattle.record.specs.declared.tag.Tag.{Tag}
use Rattle.record.specs.declared.array.NamedArray.{NamedArray}
use Rattle.record.specs.GraphRecords.{graph_of}
use Rattle.record.specs.Arrays.{arrays_of}
use Rattle.record.specs.TokensAndTags.{most_tokens, capacity_of}
use Rattle.record.specs.Widths.{token_width, cell_width, step_width}
use Rattle.machine.specs.Machine.{Machine, State, End, Outcome, completed, hung, budget_spent, refused, by_picks, ending, run_by}
use Rattle.machine.specs.Sequences.{Logged, log_of}
use Rattle.machine.specs.Steps as Steps
use Rattle.machine.specs.Replay as Replays
use Rattle.machine.proofs.Ending.{ending_cases}
use Rattle.machine.proofs.Enabled.{enabled_place}
use Rattle.machine.proofs.Sequences.{no_longer}
use Rattle.machine.proofs.Runs.{ran}
use Rattle.machine.proofs.Orders.{by_picks_lawful}
use Rattle.machine.proofs.Steps.{every_profile}
use Rattle.machine.proofs.Steps as StepLaws
use Rattle.machine.proofs.Replay as ReplayLaws
use Rattle.machine.proofs.Replay.{every_replay}
use Rattle.machine.proofs.Bounds.{PlaceWithin, run_bounded_lem}
use Rattle.machine.proofs.Saved.{saved_run, saved_firings}
use Rattle.rules.specs.declared.answer.Refusal.{Refusal}
use Rattle.rules.specs.declared.answer.Refusal.TheVariants.{BadStore, ProfileFull, NotEnabled, DamagedState}
use Rattle.rules.specs.Answer.{place_in}
use Rattle.rules.specs.Check.{demand, ◌and_then◌, check_graph, check_stores, check_arrays, check, Checked}
use Rattle.rules.specs.InstructionSet.{machine_of}
use Rattle.rules.specs.Run.{first_state, picks_of, refused_at_once, ran_to, outcome_of, answer}
use Rattle.rules.specs.Log.{names_in, log_suffices, check_log_stores, check_logged, log_unless_failed, logged, replayed}
use Rattle.rules.specs.Profile.{check_profile_stores, check_profile, profile_unless_failed, profiled}
use Rattle.rules.specs.Saved.{state_saved, machine_saved, state_taken, check_saved, carried}
use Rattle.rules.specs.Small.{CountsFit, AllCounted}
use Rattle.rules.proofs.Passed.{demand_passed, and_then_passed}
use Rattle.rules.proofs.Lawful.{lawful}
use Rattle.rules.proofs.Accepted.{whole_bytes, stores_whole, Accepted, accepted, law, good, by_check}
use Rattle.rules.proofs.Small.{Below, demand_below, then_below, graph_below, arrays_below, inputs_below, stores_below, check_below}
use Rattle.rules.proofs.Log.{log_stores, log_passed}
use Rattle.rules.proofs.Profile as Profiles
use Rattle.rules.proofs.Saved.{saved_under}

-- ---- a refusal before any firing

pub at_once_lem : (r : Refusal) (p : ℕ) → p < most_tokens → CountsFit (answer (refused_at_once r p))
unfolding answer
at_once_lem r p h = record { by_tokens = omega arith; tokens = omega arith; place = omega arith }

logged_below : (graph arrays inputs picks : List ℕ) (budget ledger cells lent : ℕ) → Below (check_logged graph arrays inputs picks budget ledger cells lent)
unfolding check_logged check_log_stores
logged_below graph arrays inputs picks budget ledger cells lent =
    let stores = check_stores (length inputs) (length picks) ledger cells in
    let log = demand (log_suffices budget lent) BadStore 0 in
    then_below (check_graph graph) _ (graph_below graph) (λ e.
    then_below (stores and_then log) _
    (then_below stores log (stores_below (length inputs) (length picks) ledger cells) (λ f. demand_below (log_suffices budget lent) BadStore 0 (λ g. omega arith)))
    (λ f. then_below (check_arrays (graph_of graph) (cells / cell_width) arrays) _ (arrays_below graph (cells / cell_width) arrays e)
    (λ g. inputs_below (graph_of graph) (capacity_of ledger) inputs (whole_bytes token_width most_tokens (length inputs) (log_stores (length inputs) (length picks) ledger cells budget lent f).0.whole_inputs).1)))

profile_below : (graph arrays inputs : List ℕ) (ledger cells lent : ℕ) → Below (check_profile graph arrays inputs ledger cells lent)
unfolding check_profile check_profile_stores
profile_below graph arrays inputs ledger cells lent =
    let stores = check_stores (length inputs) 0 ledger cells in
    let records = demand (eqb (lent % step_width) 0) BadStore 0 in
    then_below (check_graph graph) _ (graph_below graph) (λ e.
    then_below (stores and_then records) _
    (then_below stores records (stores_below (length inputs) 0 ledger cells) (λ f. demand_below (eqb (lent % step_width) 0) BadStore 0 (λ g. omega arith)))
    (λ f. then_below (check_arrays (graph_of graph) (cells / cell_width) arrays) _ (arrays_below graph (cells / cell_width) arrays e)
    (λ g. inputs_below (graph_of graph) (capacity_of ledger) inputs (whole_bytes token_width most_tokens (length inputs) (stores_whole (length inputs) 0 ledger cells (and_then_passed stores records f).0).whole_inputs).1)))

saved_below : (graph arrays picks ledger cells : List ℕ) (firings n : ℕ) → Below (check_saved graph arrays picks ledger cells firings n)
unfolding check_saved
saved_below graph arrays picks ledger cells firings n =
    then_below (check_graph graph) _ (graph_below graph) (λ e.
    then_below (check_stores 0 (length picks) (length ledger) (length cells)) _ (stores_below 0 (length picks) (length ledger) (length cells)) (λ f.
    then_below (check_arrays (graph_of graph) (length cells / cell_width) arrays) _ (arrays_below graph (length cells / cell_width) arrays e) (λ g.
    demand_below (state_taken graph ledger cells firings n) DamagedState 0 (λ h. omega arith))))

-- ---- where a place is within the ledger

pub placed : (graph : List ℕ) (table : List NamedArray) (capacity cells : ℕ) (o : Outcome Refusal) (x : State Tag ℤ) → PlaceWithin (machine_of (graph_of graph) table capacity cells) o x.tokens → length x.tokens ≤ most_tokens
    → place_in (outcome_of o) ≤ most_tokens
placed graph table capacity cells completed x h l = omega arith
placed graph table capacity cells hung x h l = omega arith
placed graph table capacity cells budget_spent x h l = omega arith
placed graph table capacity cells (refused r p) x h l = omega arith

-- ---- from inputs that passed

module _ (graph inputs : List ℕ) (table : List NamedArray) (capacity cells : ℕ) (few : capacity ≤ most_tokens) (a : Accepted graph inputs capacity) where
  abbrev M : Machine
  M = machine_of (graph_of graph) table capacity cells

  abbrev s : State Tag ℤ
  s = first_state inputs cells

  -- a firing sequence
  pub sequence : (e : End Refusal Tag ℤ) (τs : List Tag) → Logged M s 0 τs e → (length τs ≤ most_tokens → length e.state.tokens ≤ most_tokens → place_in (outcome_of e.outcome) ≤ most_tokens) → CountsFit (answer (ran_to e))
  unfolding answer
  sequence e τs h place =
      let l = no_longer M (law graph inputs table capacity cells a) s (good graph inputs table capacity cells a) τs e.state h.fires in
      record { by_tokens = omega (arith, h.firings, l.0); tokens = omega (arith, l.1); place = place (omega (arith, l.0, l.1)) (omega (arith, l.1)) }

  ending_place : (x : State Tag ℤ) → place_in (outcome_of (ending M x)) ≤ most_tokens
  ending_place x = ending_cases M x (λ o. place_in (outcome_of o) ≤ most_tokens) (λ h. omega arith) (λ h. omega arith)

  by_replay_lem : (log : List ℕ) → CountsFit (answer (ran_to (Replays.replay M NotEnabled (names_in log) 0 s)))
  by_replay_lem log =
      let e = Replays.replay M NotEnabled (names_in log) 0 s in
      let h = every_replay M NotEnabled (names_in log) 0 s in
      sequence e h.done h.logged (λ l m. go e.outcome e.state h.left (length h.done) h.stopped l m)
    where
      go : (o : Outcome Refusal) (x : State Tag ℤ) (left : _) (n : ℕ) → ReplayLaws.ReplayStopped M NotEnabled left (0 + n) x o → n ≤ most_tokens → length x.tokens ≤ most_tokens → place_in (outcome_of o) ≤ most_tokens
      go o x left n (ReplayLaws.log_ends p q e) l m = rw e (ending_place x)
      go o x left n (ReplayLaws.one_enabled p b q e) l m = rw e (omega arith)
      go o x left n (ReplayLaws.none_named_lem name more p q e) l m = rw e (omega arith)
      go o x left n (ReplayLaws.one_refused b more p q r f e) l m = rw e (omega (arith, enabled_place M x b q))

  by_profile_lem : (left : ℕ) → CountsFit (answer (ran_to (Steps.profile M ProfileFull left 0 s).ended))
  by_profile_lem left =
      let p = Steps.profile M ProfileFull left 0 s in
      let h = every_profile M (law graph inputs table capacity cells a) ProfileFull s (good graph inputs table capacity cells a) left 0 in
      sequence p.ended h.log h.logged (λ l m. go p.ended.outcome p.ended.state (length p.records) h.cut h.stopped m)
    where
      go : (o : Outcome Refusal) (x : State Tag ℤ) (n cut : ℕ) → StepLaws.ProfileStopped M ProfileFull left n cut x o → length x.tokens ≤ most_tokens → place_in (outcome_of o) ≤ most_tokens
      go o x n cut (StepLaws.none_left_lem q c e) m = rw e (ending_place x)
      go o x n cut (StepLaws.full q b i c e) m = rw e (omega arith)
      go o x n cut (StepLaws.one_refused b q r f e) m = rw e (omega (arith, enabled_place M x b q))

  by_run_lem : (budget : ℕ) (picks : List ℕ) → CountsFit (answer (ran_to (run_by M (by_picks M) budget picks 0 s)))
  by_run_lem budget picks =
      let e = run_by M (by_picks M) budget picks 0 s in
      let h = ran M (by_picks M) (by_picks_lawful M) budget picks 0 s in
      sequence e (log_of M (by_picks M) budget picks s) h.logged (λ l m. placed graph table capacity cells e.outcome e.state (run_bounded_lem M (by_picks M) (by_picks_lawful M) budget picks 0 s (good graph inputs table capacity cells a).room).place m)

-- ---- whole calls

counted_logged : (graph arrays inputs picks : List ℕ) (budget ledger cells lent : ℕ) → CountsFit (answer (logged graph arrays inputs picks budget ledger cells lent).result)
unfolding logged log_unless_failed
counted_logged graph arrays inputs picks budget ledger cells lent = go (check_logged graph arrays inputs picks budget ledger cells lent) refl
  where
    go : (c : Checked) → check_logged graph arrays inputs picks budget ledger cells lent ≡ c → CountsFit (answer (logged graph arrays inputs picks budget ledger cells lent).result)
    go (Err fault) e = rw e (at_once_lem fault.refusal fault.place (rw e at (logged_below graph arrays inputs picks budget ledger cells lent)))
    go (Ok _) e =
        let h = log_passed graph arrays inputs picks budget ledger cells lent e in
        rw e (by_run_lem graph inputs (arrays_of arrays) (capacity_of ledger) (cells / cell_width) (whole_bytes token_width most_tokens ledger h.stores.whole_ledger).1 h.start budget (picks_of picks))

counted_replay : (graph arrays inputs log : List ℕ) (ledger cells : ℕ) → CountsFit (answer (replayed graph arrays inputs log ledger cells))
unfolding replayed check
counted_replay graph arrays inputs log ledger cells =
    by_check (check graph arrays inputs [] ledger cells) _ (λ x. CountsFit (answer x)) (λ r p e. at_once_lem r p (rw e at (check_below graph arrays inputs [] ledger cells))) (λ e.
    let (stores, (named, a)) = accepted graph inputs (capacity_of ledger) (check_stores (length inputs) 0 ledger cells) (check_arrays (graph_of graph) (cells / cell_width) arrays) e in
    by_replay_lem graph inputs (arrays_of arrays) (capacity_of ledger) (cells / cell_width) (whole_bytes token_width most_tokens ledger (stores_whole (length inputs) 0 ledger cells stores).whole_ledger).1 a log)

counted_profile : (graph arrays inputs : List ℕ) (ledger cells lent : ℕ) → CountsFit (answer (profiled graph arrays inputs ledger cells lent).result)
unfolding profiled profile_unless_failed
counted_profile graph arrays inputs ledger cells lent = go (check_profile graph arrays inputs ledger cells lent) refl
  where
    go : (c : Checked) → check_profile graph arrays inputs ledger cells lent ≡ c → CountsFit (answer (profiled graph arrays inputs ledger cells lent).result)
    go (Err fault) e = rw e (at_once_lem fault.refusal fault.place (rw e at (profile_below graph arrays inputs ledger cells lent)))
    go (Ok _) e =
        let (w, (named, a)) = Profiles.wholes graph arrays inputs ledger cells lent e in
        rw e (by_profile_lem graph inputs (arrays_of arrays) (capacity_of ledger) (cells / cell_width) (whole_bytes token_width most_tokens ledger w.whole_ledger).1 a (lent / step_width))

-- the firings of a saved state are counted by its spent tokens, and a run leaves such a state
module _ (graph arrays picks ledger cells : List ℕ) (budget firings n : ℕ) where
  abbrev N : Machine
  N = machine_saved graph (arrays_of arrays) ledger cells

  abbrev e : End Refusal Tag ℤ
  e = run_by N (by_picks N) budget (picks_of picks) firings (state_saved ledger cells n)

  from_saved : check_graph graph ≡ Ok tt → capacity_of (length ledger) ≤ most_tokens → state_taken graph ledger cells firings n ≡ true → CountsFit (answer (ran_to e))
  unfolding answer
  from_saved passed few t =
      let s = saved_under graph (arrays_of arrays) ledger cells firings n t in
      let left = saved_run N (lawful graph passed (arrays_of arrays) (capacity_of (length ledger)) (length cells / cell_width)) (by_picks N) (by_picks_lawful N) firings (state_saved ledger cells n) s budget (picks_of picks) in
      let b = run_bounded_lem N (by_picks N) (by_picks_lawful N) budget (picks_of picks) firings (state_saved ledger cells n) s.good.room in
      record {
        by_tokens = saved_firings N e.firings e.state left;
        tokens = omega (arith, left.good.room);
        place = placed graph (arrays_of arrays) (capacity_of (length ledger)) (length cells / cell_width) e.outcome e.state b.place (omega (arith, left.good.room));
      }

  counted_carried : CountsFit (answer (carried graph arrays picks budget ledger cells firings n))
  unfolding carried check_saved
  counted_carried =
      by_check (check_saved graph arrays picks ledger cells firings n) _ (λ x. CountsFit (answer x)) (λ r p h. at_once_lem r p (rw h at (saved_below graph arrays picks ledger cells firings n))) (λ h.
      let (g, later) = and_then_passed (check_graph graph) _ h in
      let (stores, d) = and_then_passed (check_stores 0 (length picks) (length ledger) (length cells)) _ later in
      let few = (whole_bytes token_width most_tokens (length ledger) (stores_whole 0 (length picks) (length ledger) (length cells) stores).whole_ledger).1 in
      from_saved g few (demand_passed (state_taken graph ledger cells firings n) DamagedState 0 (and_then_passed (check_arrays (graph_of graph) (length cells / cell_width) arrays) _ d).1))

pub all_counted : AllCounted
all_counted = record { by_logged = counted_logged; by_replay = counted_replay; by_profile = counted_profile; by_carried = counted_carried }
