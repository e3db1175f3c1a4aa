-- R-7: what a log's records name (`names_back`), that a run that writes a log is the run (`logged_runs`), that a log has room in what is lent (`log_fits`), and that the logs of two runs to an end hold the same records,
-- each once (`logs_agree_lem`). Assumes nothing.
use Rattle.std.proofs.Common.{Ok, Err}
use Prim.Native.Nat.{ℕ, ◌+◌, ◌-◌, ◌*◌, ◌/◌, ◌%◌, ◌≤◌}
use mathlib.Core.Path.{◌≡◌, refl, ap, ◌∙◌}
use mathlib.Core.Bool.{Bool, true, false, ◌||◌}
use mathlib.Core.Option.{some}
use mathlib.Core.List.{List, [], ◌∷◌, map}
use native.Mathlib.Omega.{arith}
use lib.ListN.{length}
use lib.IntN.{ℤ}
use lib.Dec.{eqb, leb}
use borrow.Author.Tests.{leb-true}
use Rattle.record.specs.declared.tag.Tag.{Tag}
use Rattle.buffer.specs.Rows.{rows, joined, All}
use Rattle.buffer.proofs.Tables.{length_joined}
use Rattle.record.specs.GraphRecords.{graph_of}
use Rattle.record.specs.Arrays.{arrays_of}
use Rattle.record.specs.TokensAndTags.{most_tokens, capacity_of}
use Rattle.record.specs.Logs.{encode_activity, name_of}
use Rattle.record.specs.Widths.{token_width, cell_width, log_width}
use Rattle.record.proofs.LogRecords.{TagFits, length_record, name_back}
use Rattle.machine.specs.Machine.{Machine, End, by_picks, run}
use Rattle.machine.specs.Sequences.{log_of}
use Rattle.machine.proofs.Sequences.{no_longer}
use Rattle.machine.proofs.Runs.{ran}
use Rattle.machine.proofs.Orders.{by_picks_lawful}
use Rattle.machine.proofs.Replay.{logs_agree}
use Rattle.machine.specs.Orders.{Quiescent}
use Rattle.rules.specs.declared.answer.Refusal.{Refusal}
use Rattle.rules.specs.declared.answer.Refusal.TheVariants.{BadStore}
use Rattle.rules.specs.Check.{◌and_then◌, check_graph, check_stores, check_arrays, check_inputs, check, Checked}
use Rattle.rules.specs.InstructionSet.{machine_of}
use Rattle.rules.specs.Run.{first_state, picks_of, ran_to, unless_failed, result}
use Rattle.rules.specs.Orders.{result_outcome}
use Rattle.rules.specs.Log.{names_in, log_suffices, check_log_stores, check_logged, log_unless_failed, logged, LogsAgreeOfResults}
use Rattle.rules.proofs.Passed.{both, demand_passed, and_then_passed}
use Rattle.rules.proofs.Accepted.{whole_bytes, Whole, stores_whole, Accepted, accepted, law, good}

-- ---- the claims

-- a run that writes a log is the run, if the log suffices
abbrev pub LoggedRuns : Type 0
LoggedRuns = (graph arrays inputs picks : List ℕ) (budget ledger cells lent : ℕ) → log_suffices budget lent ≡ true
    → (logged graph arrays inputs picks budget ledger cells lent).result ≡ result graph arrays inputs picks budget ledger cells

-- the log has room in what is lent
abbrev pub LogFits : Type 0
LogFits = (graph arrays inputs picks : List ℕ) (budget ledger cells lent : ℕ) → length (logged graph arrays inputs picks budget ledger cells lent).log * log_width ≤ lent

-- ---- records

rows_back : (τs : List Tag) → All TagFits τs → rows log_width name_of (length τs) (joined encode_activity τs) ≡ map some τs
unfolding encode_activity
rows_back [] f = refl
rows_back (τ ∷ τs) f = λ i. name_back τ (joined encode_activity τs) f.0 i ∷ rows_back τs f.1 i

pub names_back : (τs : List Tag) → All TagFits τs → names_in (joined encode_activity τs) ≡ map some τs
unfolding names_in
names_back τs f =
    let n : (length (joined encode_activity τs) + (log_width - 1)) / log_width ≡ length τs = let z = length_joined log_width encode_activity length_record τs in omega arith in
    ap (λ (k : ℕ). rows log_width name_of k (joined encode_activity τs)) n ∙ rows_back τs f

-- ---- a log that passed

pub log_stores : (inputs picks ledger cells budget lent : ℕ) → check_log_stores inputs picks ledger cells budget lent ≡ Ok tt
    → Whole inputs picks ledger cells × ((leb budget (lent / log_width) || leb most_tokens (lent / log_width)) ≡ true)
unfolding check_log_stores
log_stores inputs picks ledger cells budget lent e =
    let (p, q) = and_then_passed (check_stores inputs picks ledger cells) _ e in
    (stores_whole inputs picks ledger cells p, (both (eqb (lent % log_width) 0) _ (demand_passed (log_suffices budget lent) BadStore 0 q)).1)

pub record LogPassed (graph arrays inputs picks : List ℕ) (budget ledger cells lent : ℕ) : Type 0 where
  pub stores : Whole (length inputs) (length picks) ledger cells
  -- the log has a record for each firing of the budget, or for as many as there can be
  pub room : (leb budget (lent / log_width) || leb most_tokens (lent / log_width)) ≡ true
  pub start : Accepted graph inputs (capacity_of ledger)

pub log_passed : (graph arrays inputs picks : List ℕ) (budget ledger cells lent : ℕ) → check_logged graph arrays inputs picks budget ledger cells lent ≡ Ok tt → LogPassed graph arrays inputs picks budget ledger cells lent
unfolding check_logged
log_passed graph arrays inputs picks budget ledger cells lent e =
    let (c, (named, a)) = accepted graph inputs (capacity_of ledger) (check_log_stores (length inputs) (length picks) ledger cells budget lent) (check_arrays (graph_of graph) (cells / cell_width) arrays) e in
    let (w, r) = log_stores (length inputs) (length picks) ledger cells budget lent c in
    record { stores = w; room = r; start = a }

-- ---- room

pub enough : (budget lent n : ℕ) → n ≤ budget → n ≤ most_tokens → (leb budget (lent / log_width) || leb most_tokens (lent / log_width)) ≡ true → n * log_width ≤ lent
enough budget lent n l m = go (leb budget (lent / log_width)) (leb most_tokens (lent / log_width)) refl refl
  where
    go : (a b : Bool) → leb budget (lent / log_width) ≡ a → leb most_tokens (lent / log_width) ≡ b → (a || b) ≡ true → n * log_width ≤ lent
    go true b p q h = omega (arith, leb-true budget (lent / log_width) p)
    go false true p q h = omega (arith, leb-true most_tokens (lent / log_width) q)
    go false false p q h = let z : ◌≡◌ {A = ℕ} 0 1 = cc in absurd (omega arith)

pub log_fits : LogFits
unfolding logged log_unless_failed
log_fits graph arrays inputs picks budget ledger cells lent = go (check_logged graph arrays inputs picks budget ledger cells lent) refl
  where
    go : (c : Checked) → check_logged graph arrays inputs picks budget ledger cells lent ≡ c → length (logged graph arrays inputs picks budget ledger cells lent).log * log_width ≤ lent
    go (Err fault) e = rw e (omega arith)
    go (Ok _) e =
        let h = log_passed graph arrays inputs picks budget ledger cells lent e in
        let M = machine_of (graph_of graph) (arrays_of arrays) (capacity_of ledger) (cells / cell_width) in
        let s = first_state inputs (cells / cell_width) in
        let r = ran M (by_picks M) (by_picks_lawful M) budget (picks_of picks) 0 s in
        let l = no_longer M (law graph inputs (arrays_of arrays) (capacity_of ledger) (cells / cell_width) h.start) s (good graph inputs (arrays_of arrays) (capacity_of ledger) (cells / cell_width) h.start) (log_of M (by_picks M) budget (picks_of picks) s) _ r.logged.fires in
        let few = (whole_bytes token_width most_tokens ledger h.stores.whole_ledger).1 in
        rw e (enough budget lent (length (log_of M (by_picks M) budget (picks_of picks) s)) r.within (omega (arith, l.0, l.1)) h.room)

-- ---- the run

pub logged_runs : LoggedRuns
unfolding logged log_unless_failed result unless_failed check_logged check_log_stores check
logged_runs graph arrays inputs picks budget ledger cells lent enough = rw enough (go (check_graph graph) (check_stores (length inputs) (length picks) ledger cells) (check_arrays (graph_of graph) (cells / cell_width) arrays and_then check_inputs (graph_of graph) (capacity_of ledger) inputs))
  where
    M : Machine
    M = machine_of (graph_of graph) (arrays_of arrays) (capacity_of ledger) (cells / cell_width)

    e : End Refusal Tag ℤ
    e = run M budget (picks_of picks) (first_state inputs (cells / cell_width))

    go : (g s i : Checked) → (log_unless_failed (g and_then (s and_then Ok tt) and_then i) e (log_of M (by_picks M) budget (picks_of picks) (first_state inputs (cells / cell_width)))).result
        ≡ unless_failed (g and_then s and_then i) (ran_to e)
    go (Err fault) s i = refl
    go (Ok _) (Err fault) i = refl
    go (Ok _) (Ok _) (Err fault) = refl
    go (Ok _) (Ok _) (Ok _) = refl

-- ---- two logs

module _ (graph arrays inputs picks : List ℕ) (budget ledger cells lent : ℕ) where
  -- a run that completes or hangs was not refused at once
  rests_passed : Quiescent (result_outcome (logged graph arrays inputs picks budget ledger cells lent).result) → check_logged graph arrays inputs picks budget ledger cells lent ≡ Ok tt
  unfolding logged log_unless_failed
  rests_passed q = go (check_logged graph arrays inputs picks budget ledger cells lent) refl
    where
      go : (c : Checked) → check_logged graph arrays inputs picks budget ledger cells lent ≡ c → c ≡ Ok tt
      go (Ok _) e = refl
      go (Err fault) e = absurd (rw e at q)

pub logs_agree_lem : LogsAgreeOfResults
unfolding logged log_unless_failed
logs_agree_lem graph arrays inputs picks picks' budget budget' ledger ledger' cells cells' lent lent' c d p q =
    let e = rests_passed graph arrays inputs picks budget ledger cells lent p in
    let f = rests_passed graph arrays inputs picks' budget' ledger' cells' lent' q in
    let a = (log_passed graph arrays inputs picks budget ledger cells lent e).start in
    let M = machine_of (graph_of graph) (arrays_of arrays) (capacity_of ledger) (cells / cell_width) in
    rw (e, f, ← c, ← d)
    (logs_agree M (law graph inputs (arrays_of arrays) (capacity_of ledger) (cells / cell_width) a) (by_picks M) (by_picks M) (by_picks_lawful M) (by_picks_lawful M) (first_state inputs (cells / cell_width)) (good graph inputs (arrays_of arrays) (capacity_of ledger) (cells / cell_width) a)
    budget budget' (picks_of picks) (picks_of picks') 0 (rw e at p) (rw (f, ← c, ← d) at q))
