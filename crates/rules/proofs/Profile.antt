-- R-1 over the rules: a profile that is not refused ends as every order does (`as_every_order`); its records have room in what is lent
-- (`profile_fits`); and what a profile that passes its checks has (`passes`, `wholes`). Assumes nothing.
use Rattle.std.proofs.Common.{Ok, Err}
use Prim.Native.Nat.{ℕ, ◌*◌, ◌/◌, ◌%◌, ◌≤◌}
use mathlib.Core.Path.{◌≡◌, refl, ap, ◌∙◌}
use mathlib.Core.List.{List}
use native.Mathlib.Nat.{zero-add}
use native.Mathlib.Omega.{arith}
use lib.ListN.{length}
use lib.Dec.{eqb}
use lib.IntN.{ℤ}
use Rattle.record.specs.declared.tag.Tag.{Tag}
use Rattle.record.specs.declared.array.NamedArray.{NamedArray}
use Rattle.record.specs.GraphRecords.{graph_of}
use Rattle.record.specs.Arrays.{arrays_of}
use Rattle.record.specs.TokensAndTags.{most_tokens, capacity_of}
use Rattle.record.specs.Widths.{token_width, cell_width, step_width}
use Rattle.machine.specs.Machine.{Machine, State, by_picks, run}
use Rattle.machine.specs.Orders.{Refused}
use Rattle.machine.specs.Steps.{profile}
use Rattle.machine.proofs.Ending.{ending_rests}
use Rattle.machine.proofs.Sequences.{fires_good}
use Rattle.machine.proofs.Orders.{by_picks_lawful}
use Rattle.machine.proofs.Steps.{every_profile, profile_ends}
use Rattle.rules.specs.declared.answer.Refusal.TheVariants.{BadStore, ProfileFull}
use Rattle.rules.specs.Check.{demand, check_stores, check_arrays, check, most_cells, Checked}
use Rattle.rules.specs.InstructionSet.{machine_of}
use Rattle.rules.specs.Run.{first_state, picks_of, ran_to, outcome_of, unless_failed, result, answer}
use Rattle.rules.specs.Orders.{result_outcome, Allowed}
use Rattle.rules.specs.Profile.{check_profile_stores, check_profile, profile_unless_failed, profiled, ProfileEndsAs, ProfileAsEveryOrder}
use Rattle.rules.proofs.Passed.{and_then_passed}
use Rattle.rules.proofs.Accepted.{whole_bytes, Whole, stores_whole, Accepted, accepted, law, good}
use Rattle.rules.proofs.Orders.{same_length, same_cells_lem, alike_ends}

-- ---- the claims

abbrev pub ProfileFits : Type 0
ProfileFits = (graph arrays inputs : List ℕ) (ledger cells lent : ℕ) → length (profiled graph arrays inputs ledger cells lent).records * step_width ≤ lent

-- ---- from inputs that passed

module _ (graph inputs : List ℕ) (table : List NamedArray) (capacity cells : ℕ) (few : capacity ≤ 2048) (a : Accepted graph inputs capacity) where
  abbrev M : Machine
  M = machine_of (graph_of graph) table capacity cells

  abbrev s : State Tag ℤ
  s = first_state inputs cells

  ends_as : (left : ℕ) → ¬ (Refused (profile M ProfileFull left 0 s).ended.outcome) → (picks : List ℕ)
      → ProfileEndsAs (record { result = ran_to (profile M ProfileFull left 0 s).ended; records = (profile M ProfileFull left 0 s).records }) (ran_to (run M 2048 picks s))
  unfolding answer
  ends_as left n picks =
      let lawful = law graph inputs table capacity cells a in
      let first = good graph inputs table capacity cells a in
      let h = profile_ends M lawful ProfileFull s first left 0 n in
      let p = every_profile M lawful ProfileFull s first left 0 in
      let z = h.ends (by_picks M) (by_picks_lawful M) 2048 few picks in
      record {
        rests = rw h.outcome (ending_rests M (profile M ProfileFull left 0 s).ended.state);
        outcome = ap outcome_of z.outcome;
        alike = alike_ends (graph_of graph) table capacity cells _ _ (fires_good M lawful s first p.log _ p.logged.fires).distinct z;
        firings = h.firings ∙ zero-add _;
        each_fires = p.each_fires;
      }

-- ---- over bytes

module _ (graph arrays inputs : List ℕ) (ledger cells lent : ℕ) where
  pub passes : ¬ (Refused (result_outcome (profiled graph arrays inputs ledger cells lent).result)) → check_profile graph arrays inputs ledger cells lent ≡ Ok tt
  unfolding profiled profile_unless_failed
  passes n = go (check_profile graph arrays inputs ledger cells lent) refl
    where
      go : (c : Checked) → check_profile graph arrays inputs ledger cells lent ≡ c → c ≡ Ok tt
      go (Ok _) e = refl
      go (Err fault) e = absurd (n (rw e tt))

  pub wholes : check_profile graph arrays inputs ledger cells lent ≡ Ok tt → Whole (length inputs) 0 ledger cells × ((check_arrays (graph_of graph) (cells / cell_width) arrays ≡ Ok tt) × Accepted graph inputs (capacity_of ledger))
  unfolding check_profile check_profile_stores
  wholes e =
      let (stores, (named, a)) = accepted graph inputs (capacity_of ledger) (check_profile_stores (length inputs) ledger cells lent) (check_arrays (graph_of graph) (cells / cell_width) arrays) e in
      (stores_whole (length inputs) 0 ledger cells (and_then_passed (check_stores (length inputs) 0 ledger cells) (demand (eqb (lent % step_width) 0) BadStore 0) stores).0, (named, a))

  -- what a profile accepts, a run accepts
  run_accepts : (picks : List ℕ) → Allowed picks ledger cells → check_arrays (graph_of graph) (cells / cell_width) arrays ≡ Ok tt → Accepted graph inputs (capacity_of ledger) → Whole (length inputs) 0 ledger cells → check graph arrays inputs picks ledger cells ≡ Ok tt
  unfolding check check_stores
  run_accepts picks allowed named a w = rw (a.graph_passed, w.whole_inputs, allowed.allowed_picks, w.whole_ledger, w.whole_cells, named) a.inputs_passed

  as_orders : (picks : List ℕ) → Allowed picks ledger cells → ¬ (Refused (result_outcome (profiled graph arrays inputs ledger cells lent).result))
      → ProfileEndsAs (profiled graph arrays inputs ledger cells lent) (result graph arrays inputs picks 2048 ledger cells)
  unfolding profiled profile_unless_failed result unless_failed
  as_orders picks allowed n =
      let e = passes n in
      let (w, (named, a)) = wholes e in
      rw (e, run_accepts picks allowed named a w) (ends_as graph inputs (arrays_of arrays) (capacity_of ledger) (cells / cell_width) (whole_bytes token_width most_tokens ledger w.whole_ledger).1 a (lent / step_width) (rw e at n) (picks_of picks))

pub as_every_order : ProfileAsEveryOrder
as_every_order graph arrays inputs picks ledger ledger' cells cells' lent n allowed c d =
    let w = (wholes graph arrays inputs ledger cells lent (passes graph arrays inputs ledger cells lent n)).0 in
    let l = same_length ledger ledger' (whole_bytes token_width most_tokens ledger w.whole_ledger).0 (whole_bytes token_width most_tokens ledger' allowed.allowed_ledger).0 c in
    let k = same_cells_lem cells cells' (whole_bytes cell_width most_cells cells w.whole_cells).0 (whole_bytes cell_width most_cells cells' allowed.allowed_cells).0 d in
    rw (← l, ← k) (as_orders graph arrays inputs ledger cells lent picks (rw (l, k) allowed) n)

pub profile_fits : ProfileFits
unfolding profiled profile_unless_failed
profile_fits graph arrays inputs ledger cells lent = go (check_profile graph arrays inputs ledger cells lent) refl
  where
    go : (c : Checked) → check_profile graph arrays inputs ledger cells lent ≡ c → length (profiled graph arrays inputs ledger cells lent).records * step_width ≤ lent
    go (Err fault) e = rw e (omega arith)
    go (Ok _) e =
        let a = (wholes graph arrays inputs ledger cells lent e).1.1 in
        let capacity = capacity_of ledger in
        let p = every_profile (machine_of (graph_of graph) (arrays_of arrays) capacity (cells / cell_width)) (law graph inputs (arrays_of arrays) capacity (cells / cell_width) a) ProfileFull (first_state inputs (cells / cell_width)) (good graph inputs (arrays_of arrays) capacity (cells / cell_width) a) (lent / step_width) 0 in
        rw e (omega (arith, p.within))
