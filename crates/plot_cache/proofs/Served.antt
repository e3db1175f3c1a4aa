-- The promise of the cache: where `serves` says yes, the run that is asked for shows what the kept run shows, and its profile is the kept one (`decided`). The same run in every
-- byte leaves the same; another order ends alike by demand 3, and by R-9 if the kept run had a bound. Assumes nothing.
use Prim.Native.Nat.{ℕ, ◌*◌, ◌/◌, ◌≤◌}
use mathlib.Core.Path.{◌≡◌, refl, sym, ap, subst, ◌∙◌}
use mathlib.Core.Logic.{◌⊎◌, inl, inr}
use mathlib.Core.Bool.{Bool, true}
use mathlib.Core.List.{List}
use native.Mathlib.Omega.{arith}
use borrow.Author.Tests.{eqb-true, leb-true}
use lib.Dec.{eqb}
use lib.ListN.{length, take, length-map}
use lib.Seq.{take_at}
use Rattle.number.specs.Number.{Bytes}
use Rattle.buffer.specs.Rows.{whole, joined}
use Rattle.buffer.proofs.Tables.{length_joined}
use Rattle.record.specs.GraphRecords.{graph_of}
use Rattle.record.specs.TokensAndTags.{most_tokens, capacity_of}
use Rattle.record.specs.TokensAndTags as Tokens
use Rattle.record.specs.Widths.{cell_width, pick_width, step_width}
use Rattle.machine.specs.Steps.{StepRecord}
use Rattle.machine.specs.Orders.{Completed, Hung, Quiescent}
use Rattle.rules.specs.declared.answer.Answer.{Answer}
use Rattle.rules.specs.declared.answer.Outcome.{Outcome}
use Rattle.rules.specs.declared.answer.Outcome.TheVariants as Outcomes
use Rattle.rules.specs.declared.answer.Refusal.TheVariants.{BadBound}
use Rattle.rules.specs.Check.{demand, check_stores, check_arrays, most_cells}
use Rattle.rules.specs.Run.{Result, refused_at_once, ran_to, result, Ran, cells_after, token_record}
use Rattle.rules.specs.Run as Run
use Rattle.rules.specs.Runs.{LentToRun, LeftByRun, RanOn, LentToProfile, LeftByProfile, outcome_in}
use Rattle.rules.specs.Orders.{result_tokens, Allowed}
use Rattle.rules.specs.Profile.{ProfileResult, profiled, profile_answer, encode_step, profile_after, ProfileRan}
use Rattle.rules.specs.Fits.{CellCount}
use Rattle.rules.specs.Parts.{left_by}
use Rattle.rules.specs.Bounded.{good_bound, and_bound, check_bounded, bounded, BoundedOn}
use Rattle.rules.proofs.Passed.{and_then_passed, both}
use Rattle.rules.proofs.Accepted.{whole_bytes, Whole, stores_whole, Begun, accepted, by_check}
use Rattle.rules.proofs.Budgets.{quiescent_begun}
use Rattle.rules.proofs.Bounded.{bounded_fits, bounded_small}
use Rattle.activities.specs.Hangs.{held_left, TellsHang}
use Rattle.activities.proofs.Hangs.{which_hang}
use Rattle.listing.specs.Listing.{listing, list_answer, listed_out}
use Rattle.listing.specs.Demand3.{used_bytes}
use Rattle.listing.proofs.Answers.{Lengths, answers_done}
use Rattle.listing.proofs.AnyTwoOrders.{length_tokens}
use Rattle.listing.specs.BoundedOrders.{NoneHeldLeft}
use Rattle.listing.proofs.Demand3.{used_bytes_lem, ran_cells, two_budgets}
use Rattle.listing.proofs.BoundedOrders.{bounded_as_orders, zero_is_none}
use Rattle.plot_cache.specs.declared.Ended.{Ended}
use Rattle.plot_cache.specs.Serves.{Request, same_bytes, same_machine, same_order, rests, any_order, serves, RanAs, ProfiledAs, ShownAlike, PlottedAlike, KeptOf, Served, Decided}
use Rattle.plot_cache.proofs.SameLists.{same_list}
use Rattle.rules.proofs.Lists.{either}
use Rattle.rules.proofs.Outcomes.{outcome_said}

-- ---- what a result shows

count_tokens : (x : Result) → length (result_tokens x) ≡ (Run.answer x).tokens
unfolding Run.answer
count_tokens (refused_at_once r p) = refl
count_tokens (ran_to e) = length-map e.state.tokens token_record

-- a run that was not refused before any firing passed the check of its stores
begun_whole : (graph arrays inputs picks : List ℕ) (budget k ledger cells : ℕ) → Begun (bounded graph arrays inputs picks budget k ledger cells) → Whole (length inputs) (length picks) ledger cells
unfolding bounded check_bounded and_bound
begun_whole graph arrays inputs picks budget k ledger cells =
    let stores = check_stores (length inputs) (length picks) ledger cells in
    by_check (check_bounded graph arrays inputs picks k ledger cells) _ (λ x. Begun x → Whole (length inputs) (length picks) ledger cells) (λ r p e h. absurd h) (λ e h.
    stores_whole (length inputs) (length picks) ledger cells
    (and_then_passed stores (demand (good_bound k) BadBound 0) (accepted graph inputs (capacity_of ledger) (and_bound stores k) (check_arrays (graph_of graph) (cells / cell_width) arrays) e).0).0)

-- two runs with one result, whatever their buffers held
module _ (graph arrays inputs : List ℕ) (graph_bytes : Bytes graph) (input_bytes : Bytes inputs) (budget k : ℕ) (l m : LentToRun) (size : length m.cells ≡ length l.cells) (x y : LeftByRun) where
  abbrev both_give : Result
  both_give = bounded graph arrays inputs l.picks budget k (length l.ledger) (length l.cells)

  abbrev Leaves : LentToRun → LeftByRun → Type 0
  Leaves lent z = Ran both_give z.answer lent.ledger z.ledger lent.cells z.cells

  used_is : (lent : LentToRun) (z : LeftByRun) → Leaves lent z → used_bytes z ≡ joined Tokens.encode_token (result_tokens both_give)
  used_is lent z ran = rw (ran.answered, ran.ledger_left) (used_bytes_lem both_give lent.ledger)

  listed : (lent : LentToRun) (z : LeftByRun) → Leaves lent z → (out : List ℕ) → length out ≡ length (used_bytes z)
      → (list_answer (used_bytes z) out ≡ 0) × (listed_out (used_bytes z) out ≡ listing (joined Tokens.encode_token (result_tokens both_give)))
  listed lent z ran out e =
      let ts = result_tokens both_give in
      let small = bounded_small graph arrays inputs l.picks budget k (length l.ledger) (length l.cells) in
      let u = used_is lent z ran in
      let n = ap length u ∙ length_tokens ts in
      let c = count_tokens both_give in
      let fits : Lengths (length (used_bytes z)) (length out) = record { same = sym e; whole = omega arith; few = omega (arith, small.tokens) } in
      let d = answers_done (used_bytes z) out fits in
      (d.0, d.1 ∙ ap listing u)

  cells_alike : Leaves l x → Leaves m y → (x.cells ≡ y.cells) ⊎ ((x.cells ≡ l.cells) × (y.cells ≡ m.cells))
  unfolding cells_after
  cells_alike rx ry = go both_give refl
    where
      go : (z : Result) → both_give ≡ z → (x.cells ≡ y.cells) ⊎ ((x.cells ≡ l.cells) × (y.cells ≡ m.cells))
      go (refused_at_once r p) e = inr (rx.cells_left ∙ ap (λ (w : Result). cells_after w l.cells) e, ry.cells_left ∙ ap (λ (w : Result). cells_after w m.cells) e)
      go (ran_to d) e =
          let w = begun_whole graph arrays inputs l.picks budget k (length l.ledger) (length l.cells) (rw e tt) in
          let bytes = (whole_bytes cell_width most_cells (length l.cells) w.whole_cells).0 in
          let count : CellCount (ran_to d) (length l.cells / cell_width) = subst (λ (z : Result). CellCount z (length l.cells / cell_width)) e (bounded_fits graph arrays inputs l.picks budget k (length l.ledger) (length l.cells) graph_bytes input_bytes).cell_count in
          let first = ap (λ (z : Result). cells_after z l.cells) e ∙ ran_cells d l.cells bytes count in
          let second = ap (λ (z : Result). cells_after z m.cells) e ∙ ran_cells d m.cells (rw size bytes) (rw size count) in
          inl (rx.cells_left ∙ first ∙ sym (ry.cells_left ∙ second))

  shown : Leaves l x → Leaves m y → ShownAlike l m x y
  shown rx ry = record {
    answers = rx.answered ∙ sym ry.answered;
    cells = cells_alike rx ry;
    listings = λ out out' e e'.
        let a = listed l x rx out e in
        let b = listed m y ry out' e' in
        (a.0, b.0, a.1 ∙ sym b.1);
  }

-- ---- two runs

-- nothing is left enabled: it is completed or hung, and if it hung, nothing is held
resting : (o : Outcome) (held : ℕ) → rests o held ≡ true → Quiescent (outcome_in o) × (Hung (outcome_in o) → held ≡ 0)
unfolding rests
resting Outcomes.Completed held e = (tt, λ h. absurd h)
resting Outcomes.Hung held e = (tt, λ h. eqb-true held 0 e)
resting Outcomes.Spent held e = let z : ◌≡◌ {A = ℕ} 0 1 = cc in absurd (omega arith)
resting (Outcomes.Refused r p) held e = let z : ◌≡◌ {A = ℕ} 0 1 = cc in absurd (omega arith)

record Alike (k a : Request) : Type 0 where
  graphs : k.graph ≡ a.graph
  tables : k.arrays ≡ a.arrays
  inputs : k.inputs ≡ a.inputs
  ledgers : k.limits.ledger ≡ a.limits.ledger
  cells : k.limits.cells ≡ a.limits.cells

machines_alike : (k a : Request) → same_machine k.graph a.graph k.arrays a.arrays k.inputs a.inputs k.limits a.limits ≡ true → Alike k a
unfolding same_machine
machines_alike k a e =
    let (g, later) = both (same_bytes k.graph a.graph) _ e in
    let (t, rest) = both (same_bytes k.arrays a.arrays) _ later in
    let (i, sizes) = both (same_bytes k.inputs a.inputs) _ rest in
    let (l, c) = both (eqb k.limits.ledger a.limits.ledger) _ sizes in
    record {
      graphs = same_list k.graph a.graph g;
      tables = same_list k.arrays a.arrays t;
      inputs = same_list k.inputs a.inputs i;
      ledgers = eqb-true k.limits.ledger a.limits.ledger l;
      cells = eqb-true k.limits.cells a.limits.cells c;
    }

module _ (k a : Request) (kept-end : Ended) (graph_bytes : Bytes k.graph) (input_bytes : Bytes k.inputs) (same : Alike k a) where
  module _ (l m : LentToRun) (x y : LeftByRun) (kept : RanAs k l x) (asked : RanAs a m y) where
    ledger_size : length m.ledger ≡ length l.ledger
    ledger_size = asked.ledger ∙ sym same.ledgers ∙ sym kept.ledger

    cells_size : length m.cells ≡ length l.cells
    cells_size = asked.cells ∙ sym same.cells ∙ sym kept.cells

    -- the run that was asked for, over the kept graph, table and inputs
    ran : BoundedOn k.graph k.arrays k.inputs a.limits.budget a.limits.bound m y
    ran = subst (λ (g : List ℕ). BoundedOn g k.arrays k.inputs a.limits.budget a.limits.bound m y) (sym same.graphs)
        (subst (λ (t : List ℕ). BoundedOn a.graph t k.inputs a.limits.budget a.limits.bound m y) (sym same.tables)
        (subst (λ (i : List ℕ). BoundedOn a.graph a.arrays i a.limits.budget a.limits.bound m y) (sym same.inputs) asked.ran))

    by_same : same_order k.picks a.picks k.limits a.limits ≡ true → ShownAlike l m x y
    unfolding same_order
    by_same e =
        let (b, later) = both (eqb k.limits.budget a.limits.budget) _ e in
        let (o, p) = both (eqb k.limits.bound a.limits.bound) _ later in
        let budgets : a.limits.budget ≡ k.limits.budget = sym (eqb-true k.limits.budget a.limits.budget b) in
        let bounds : a.limits.bound ≡ k.limits.bound = sym (eqb-true k.limits.bound a.limits.bound o) in
        let picks : m.picks ≡ l.picks = asked.picks ∙ sym (same_list k.picks a.picks p) ∙ sym kept.picks in
        let one : bounded k.graph k.arrays k.inputs m.picks a.limits.budget a.limits.bound (length m.ledger) (length m.cells)
        ≡ bounded k.graph k.arrays k.inputs l.picks k.limits.budget k.limits.bound (length l.ledger) (length l.cells) =
        λ i. bounded k.graph k.arrays k.inputs (picks i) (budgets i) (bounds i) (ledger_size i) (cells_size i) in
        shown k.graph k.arrays k.inputs graph_bytes input_bytes k.limits.budget k.limits.bound l m cells_size x y kept.ran
        (subst (λ (z : Result). Ran z y.answer m.ledger y.ledger m.cells y.cells) one ran)

    -- a run at budget 2,048 without a bound, which stands between the two
    abbrev full : Result
    full = result k.graph k.arrays k.inputs m.picks 2048 (length m.ledger) (length m.cells)

    abbrev between : LeftByRun
    between = left_by full m.ledger m.cells

    ran_full : RanOn k.graph k.arrays k.inputs 2048 m between
    ran_full = record { answered = refl; numbers = refl; ledger_left = refl; cells_left = refl }

    module _ (of-kept : KeptOf k x kept-end) (quiet : Quiescent (outcome_in x.answer.outcome)) (none : Hung (outcome_in x.answer.outcome) → kept-end.held ≡ 0) where
      -- "completes, or hangs with no held activity left"
      none_held : NoneHeldLeft k.graph k.arrays k.inputs k.limits.budget k.limits.bound l
      none_held = told.exactly.0 (go x.answer.outcome quiet told.completed (λ h. of-kept.held h ∙ none h))
        where
          told : TellsHang k.graph k.arrays k.inputs k.limits.budget k.limits.bound l x
          told = which_hang k.graph k.arrays k.inputs graph_bytes input_bytes k.limits.budget k.limits.bound l x kept.ran quiet

          go : (o : Outcome) → Quiescent (outcome_in o) → (Completed (outcome_in o) → held_left k.graph k.limits.bound x ≡ 0) → (Hung (outcome_in o) → held_left k.graph k.limits.bound x ≡ 0) → held_left k.graph k.limits.bound x ≡ 0
          go Outcomes.Completed q c h = c tt
          go Outcomes.Hung q c h = h tt
          go Outcomes.Spent q c h = absurd q
          go (Outcomes.Refused r p) q c h = absurd q

      allowed : whole pick_width most_tokens (length a.picks) ≡ true → Allowed m.picks (length m.ledger) (length m.cells)
      allowed w =
          let given = bounded k.graph k.arrays k.inputs l.picks k.limits.budget k.limits.bound (length l.ledger) (length l.cells) in
          let rests = subst Quiescent (ap (λ (z : Answer). outcome_in z.outcome) kept.ran.answered ∙ outcome_said given) quiet in
          let stores = begun_whole k.graph k.arrays k.inputs l.picks k.limits.budget k.limits.bound (length l.ledger) (length l.cells) (quiescent_begun given rests) in
          record { allowed_picks = rw asked.picks w; allowed_ledger = rw ledger_size stores.whole_ledger; allowed_cells = rw cells_size stores.whole_cells }

      -- the kept run ends as that one does, and that one as the run that was asked for
      through : RanOn k.graph k.arrays k.inputs a.limits.budget m y → Allowed m.picks (length m.ledger) (length m.cells) → x.answer.firings ≤ a.limits.budget → ShownAlike l m x y
      through unbound may enough =
          let first = bounded_as_orders k.graph k.arrays k.inputs graph_bytes input_bytes k.limits.budget k.limits.bound l m none_held may (ap capacity_of (sym ledger_size)) (ap (λ (n : ℕ). n / cell_width) (sym cells_size)) x between kept.ran ran_full in
          let second = two_budgets k.graph k.arrays k.inputs graph_bytes input_bytes 2048 a.limits.budget m m may refl refl between y ran_full unbound (subst (λ (z : Answer). Quiescent (outcome_in z.outcome)) first.answers quiet) (subst (λ (z : Answer). z.firings ≤ a.limits.budget) first.answers enough) in
          record {
            answers = first.answers ∙ second.answers;
            cells = inl (first.cells ∙ second.cells);
            listings = λ out out' e e'.
                let p = first.listings out (used_bytes between) e refl in
                let q = second.listings (used_bytes between) out' refl e' in
                (p.0, q.1, p.2 ∙ q.2);
          }

    by_order : KeptOf k x kept-end → any_order kept-end (length a.picks) a.limits ≡ true → ShownAlike l m x y
    unfolding any_order
    by_order of-kept e =
        let (q, later) = both (rests kept-end.answer.outcome kept-end.held) _ e in
        let (z, more) = both (eqb a.limits.bound 0) _ later in
        let (w, f) = both (whole pick_width most_tokens (length a.picks)) _ more in
        let (quiet, none) = subst (λ (r : Answer). Quiescent (outcome_in r.outcome) × (Hung (outcome_in r.outcome) → kept-end.held ≡ 0)) (sym of-kept.answer) (resting kept-end.answer.outcome kept-end.held q) in
        let unbound = (zero_is_none.of_runs k.graph k.arrays k.inputs a.limits.budget m y).0
        (subst (λ (b : ℕ). BoundedOn k.graph k.arrays k.inputs a.limits.budget b m y) (eqb-true a.limits.bound 0 z) ran) in
        through of-kept quiet none unbound (allowed of-kept quiet none w) (subst (λ (r : Answer). r.firings ≤ a.limits.budget) (sym of-kept.answer) (leb-true kept-end.answer.firings a.limits.budget f))

  -- ---- two profiles

  module _ (l m : LentToProfile) (x y : LeftByProfile) (kept : ProfiledAs k l x) (asked : ProfiledAs a m y) (room : length l.profile ≡ length m.profile) where
    abbrev first : ProfileResult
    first = profiled k.graph k.arrays k.inputs (length l.ledger) (length l.cells) (length l.profile)

    one_profile : profiled a.graph a.arrays a.inputs (length m.ledger) (length m.cells) (length m.profile) ≡ first
    one_profile = λ i.
        profiled (sym same.graphs i) (sym same.tables i) (sym same.inputs i) ((asked.ledger ∙ sym same.ledgers ∙ sym kept.ledger) i) ((asked.cells ∙ sym same.cells ∙ sym kept.cells) i) (sym room i)

    first_records_lem : (lent : List ℕ) → take (length first.records * step_width) (profile_after first lent) ≡ joined encode_step first.records
    unfolding profile_after encode_step
    first_records_lem lent = take_at (joined encode_step first.records) _ (length first.records * step_width) (length_joined step_width encode_step (λ (s : StepRecord). refl) first.records)

    plotted : (lent : LentToProfile) (z : LeftByProfile) → ProfileRan first z.answer lent.ledger z.ledger lent.cells z.cells lent.profile z.profile
        → take (z.answer.records * step_width) z.profile ≡ joined encode_step first.records
    unfolding profile_answer
    plotted lent z h = rw (h.answered, h.profile_left) (first_records_lem lent.profile)

    by_profile_lem : PlottedAlike x y
    by_profile_lem =
        let h = subst (λ (z : ProfileResult). ProfileRan z y.answer m.ledger y.ledger m.cells y.cells m.profile y.profile) one_profile asked.profiled in
        record { answers = kept.profiled.answered ∙ sym h.answered; records = plotted l x kept.profiled ∙ sym (plotted m y h) }

served : (k : Request) (e : Ended) (a : Request) → serves k e a ≡ true → Bytes k.graph → Bytes k.inputs → Served k e a
unfolding serves
served k e a h graph_bytes input_bytes =
    let (p, q) = both (same_machine k.graph a.graph k.arrays a.arrays k.inputs a.inputs k.limits a.limits) _ h in
    let same = machines_alike k a p in
    record {
      runs = λ l m x y kept told asked. by_either same l m x y kept told asked (either (same_order k.picks a.picks k.limits a.limits) _ q);
      profiles = λ l m x y kept asked room. by_profile_lem k a e graph_bytes input_bytes same l m x y kept asked room;
    }
  where
    by_either : Alike k a → (l m : LentToRun) (x y : LeftByRun) → RanAs k l x → KeptOf k x e → RanAs a m y
        → (same_order k.picks a.picks k.limits a.limits ≡ true) ⊎ (any_order e (length a.picks) a.limits ≡ true) → ShownAlike l m x y
    by_either same l m x y kept told asked (inl o) = by_same k a e graph_bytes input_bytes same l m x y kept asked o
    by_either same l m x y kept told asked (inr o) = by_order k a e graph_bytes input_bytes same l m x y kept asked told o

-- a test that says what `serves` does keeps the promise
pub decided : (k : Request) (e : Ended) (a : Request) (said : Bool) → Bytes k.graph → Bytes k.inputs → said ≡ serves k e a → Decided k e a said
decided k e a said graph_bytes input_bytes h = record { exactly = h; holds = λ yes. served k e a (sym h ∙ yes) graph_bytes input_bytes }
