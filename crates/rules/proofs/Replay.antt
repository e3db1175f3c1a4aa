-- R-7 over the rules: a replay of the log that a run has written gives the run again (`log_replays`). Assumes nothing.
use Rattle.std.proofs.Common.{Ok, Err}
use Prim.Native.Nat.{ℕ, ◌*◌, ◌/◌, ◌≤◌}
use mathlib.Core.Path.{◌≡◌, refl, sym, ap, ◌∙◌}
use mathlib.Core.Bool.{Bool, true, false, ◌&&◌, cond}
use mathlib.Core.Logic.{◌⊎◌, inl, inr}
use mathlib.Core.Option.{some}
use mathlib.Core.List.Memᴰ
use mathlib.Core.List.Permᴰ
use mathlib.Core.List.{List, [], ◌∷◌, ◌++◌, map, Memᴰ}
use native.Mathlib.Nat.{zero-add}
use native.Mathlib.Omega.{arith}
use lib.ListN.{length, take, drop}
use lib.Seq.{take_at}
use lib.IntN.{ℤ}
use Rattle.record.specs.declared.tag.Tag.{Tag}
use Rattle.record.specs.declared.array.NamedArray.{NamedArray}
use Rattle.number.specs.Number.{Bytes}
use Rattle.buffer.specs.Rows.{whole, joined, All}
use Rattle.buffer.proofs.Tables.{length_joined}
use Rattle.record.specs.GraphRecords.{graph_of}
use Rattle.record.specs.Arrays.{arrays_of}
use Rattle.record.specs.TokensAndTags.{most_tokens, capacity_of, TokenFits}
use Rattle.record.specs.Logs.{encode_activity}
use Rattle.record.specs.Widths.{token_width, cell_width, pick_width, log_width}
use Rattle.machine.specs.Machine.{Token, Machine, State, End, by_picks, run}
use Rattle.machine.specs.Sequences.{is_spent_first, spent_tags, log_of, RanBy}
use Rattle.machine.specs.Replay.{replay}
use Rattle.machine.proofs.Lists.{perm_member}
use Rattle.machine.proofs.Sequences.{ledger_tells}
use Rattle.machine.proofs.Runs.{ran}
use Rattle.machine.proofs.Orders.{by_picks_lawful}
use Rattle.machine.proofs.Reached.{sequence_reaches}
use Rattle.machine.proofs.Replay.{run_replays, SameAs}
use Rattle.rules.specs.declared.answer.Fault.{Fault}
use Rattle.rules.specs.declared.answer.Refusal.{Refusal}
use Rattle.rules.specs.declared.answer.Refusal.TheVariants.{BadStore, NotEnabled}
use Rattle.rules.specs.Check.{demand, ◌and_then◌, check_graph, check_stores, check_arrays, check_inputs, check, most_cells, Checked, fault_at}
use Rattle.rules.specs.InstructionSet.{machine_of}
use Rattle.rules.specs.Run.{token_record, first_state, picks_of, ran_to, unless_failed, answer, ledger_after, cells_after}
use Rattle.rules.specs.Log.{names_in, log_suffices, check_log_stores, check_logged, LogResult, log_unless_failed, logged, log_after, replayed, NotBy7, AgainOfResults, LogReplaysOfResults}
use Rattle.rules.proofs.Accepted.{whole_bytes, Accepted, law, begins, good}
use Rattle.rules.proofs.Fits.{ended_fits}
use Rattle.record.proofs.LogRecords.{TagFits, length_record}
use Rattle.rules.proofs.Log.{names_back, log_stores, log_passed}

-- ---- the check of a replay, by that of the run

-- stores that fail fail by 7, and where they pass those of the replay pass
module _ (g s t i : Checked) (passes : s ≡ Ok tt → t ≡ Ok tt) where
  also_passed : (g and_then s and_then i) ≡ Ok tt → (g and_then t and_then i) ≡ Ok tt
  also_passed e = go g s refl e
    where
      go : (g c : Checked) → s ≡ c → (g and_then c and_then i) ≡ Ok tt → (g and_then t and_then i) ≡ Ok tt
      go (Err fault) c q f = f
      go (Ok _) (Err fault) q f = let z : ◌≡◌ {A = ℕ} 0 1 = cc in absurd (omega arith)
      go (Ok _) (Ok _) q f = rw (passes q) f

  also_failed : ((q : Refusal) (n : ℕ) → s ≡ Err (fault_at q n) → q ≡ BadStore) → (r : Refusal) (p : ℕ) → (g and_then s and_then i) ≡ Err (fault_at r p) → ¬ (r ≡ BadStore) → (g and_then t and_then i) ≡ Err (fault_at r p)
  also_failed by7 r p e other = go g s refl e
    where
      go : (g c : Checked) → s ≡ c → (g and_then c and_then i) ≡ Err (fault_at r p) → (g and_then t and_then i) ≡ Err (fault_at r p)
      go (Err fault) c h f = f
      go (Ok _) (Err fault) h f = let z : fault ≡ fault_at r p = cc in absurd (other (sym (ap (λ (k : Fault). k.refusal) z) ∙ by7 fault.refusal fault.place h))
      go (Ok _) (Ok _) h f = rw (passes h) f

two_demands : (a b : Bool) (q : Refusal) (n : ℕ) → (demand a BadStore 0 and_then demand b BadStore 0) ≡ Err (fault_at q n) → q ≡ BadStore
two_demands true true q n e = let z : ◌≡◌ {A = ℕ} 0 1 = cc in absurd (omega arith)
two_demands true false q n e = let z : fault_at q n ≡ fault_at BadStore 0 = cc in ap (λ (k : Fault). k.refusal) z
two_demands false b q n e = let z : fault_at q n ≡ fault_at BadStore 0 = cc in ap (λ (k : Fault). k.refusal) z

-- ---- the tags of a log are those of tokens

module _ (g : List ℕ) (table : List NamedArray) (capacity cells : ℕ) where
  abbrev M : Machine
  M = machine_of (graph_of g) table capacity cells

  spent_fits : (ts : List (Token Tag ℤ)) → All TokenFits (map token_record ts) → (τ : Tag) → Memᴰ τ (spent_tags M ts) → TagFits τ
  spent_fits [] f τ m = absurd (Memᴰ.not-nil m)
  spent_fits (t ∷ ts) f τ m = go (is_spent_first t) m (λ h. spent_fits ts f.1 τ h)
    where
      own : τ ≡ t.key.tag → TagFits τ
      own e = rw e (record { path = f.0.path; iteration = f.0.iteration; instruction = f.0.instruction })

      go : (b : Bool) → Memᴰ τ (cond b (t.key.tag ∷ spent_tags M ts) (spent_tags M ts)) → (Memᴰ τ (spent_tags M ts) → TagFits τ) → TagFits τ
      go false h rest = rest h
      go true h rest = either (Memᴰ.cases_cons h)
        where
          either : (τ ≡ t.key.tag) ⊎ Memᴰ τ (spent_tags M ts) → TagFits τ
          either (inl e) = own e
          either (inr k) = rest k

members_all : {A : Type 0} (P : A → Type 0) (l : List A) → ((a : A) → Memᴰ a l → P a) → All P l
members_all P [] h = tt
members_all P (a ∷ l) h = (h a (Memᴰ.head refl), members_all P l (λ b m. h b (Memᴰ.tail m)))

-- ---- the replay

module _ (graph arrays inputs picks : List ℕ) (budget ledger cells lent : ℕ) where
  -- what the run accepts the replay accepts
  stores_pass : check_log_stores (length inputs) (length picks) ledger cells budget lent ≡ Ok tt → check_stores (length inputs) 0 ledger cells ≡ Ok tt
  unfolding check_stores
  stores_pass p =
      let w = (log_stores (length inputs) (length picks) ledger cells budget lent p).0 in
      rw (w.whole_inputs, w.whole_ledger, w.whole_cells)

  stores_fail : (q : Refusal) (n : ℕ) → check_log_stores (length inputs) (length picks) ledger cells budget lent ≡ Err (fault_at q n) → q ≡ BadStore
  unfolding check_log_stores check_stores
  stores_fail q n p =
      two_demands (whole token_width most_tokens (length inputs) && (whole pick_width most_tokens (length picks) && (whole token_width most_tokens ledger && whole cell_width most_cells cells)))
      (log_suffices budget lent) q n p

  replay_passes : check_logged graph arrays inputs picks budget ledger cells lent ≡ Ok tt → check graph arrays inputs [] ledger cells ≡ Ok tt
  unfolding check_logged check
  replay_passes = also_passed (check_graph graph) (check_log_stores (length inputs) (length picks) ledger cells budget lent) (check_stores (length inputs) 0 ledger cells) (check_arrays (graph_of graph) (cells / cell_width) arrays and_then check_inputs (graph_of graph) (capacity_of ledger) inputs) stores_pass

  replay_fails : (r : Refusal) (p : ℕ) → check_logged graph arrays inputs picks budget ledger cells lent ≡ Err (fault_at r p) → ¬ (r ≡ BadStore) → check graph arrays inputs [] ledger cells ≡ Err (fault_at r p)
  unfolding check_logged check
  replay_fails =
      also_failed (check_graph graph) (check_log_stores (length inputs) (length picks) ledger cells budget lent) (check_stores (length inputs) 0 ledger cells) (check_arrays (graph_of graph) (cells / cell_width) arrays and_then check_inputs (graph_of graph) (capacity_of ledger) inputs) stores_pass
      stores_fail

module _ (graph inputs : List ℕ) (table : List NamedArray) (capacity cells : ℕ) (a : Accepted graph inputs capacity) (few : cells ≤ most_cells) (graph_bytes : Bytes graph) (input_bytes : Bytes inputs)
    (budget : ℕ) (picks lent : List ℕ) where
  abbrev s : State Tag ℤ
  s = first_state inputs cells

  abbrev e : End Refusal Tag ℤ
  e = run (M graph table capacity cells) budget picks s

  abbrev τs : List Tag
  τs = log_of (M graph table capacity cells) (by_picks (M graph table capacity cells)) budget picks s

  ran_here : RanBy (M graph table capacity cells) s budget 0 τs e
  ran_here = ran (M graph table capacity cells) (by_picks (M graph table capacity cells)) (by_picks_lawful (M graph table capacity cells)) budget picks 0 s

  -- each has a token, and so fits a record
  pub tags_fit : All TagFits τs
  tags_fit =
      let told = ledger_tells (M graph table capacity cells) (law graph inputs table capacity cells a) s (good graph inputs table capacity cells a) τs e.state ran_here.logged.fires in
      let (o, r) = sequence_reaches (M graph table capacity cells) τs s e.state ran_here.logged.fires in
      let fits = (ended_fits graph graph_bytes a.graph_passed table capacity cells few inputs input_bytes (begins graph inputs table capacity cells a) e (length τs) o r).tokens in
      members_all TagFits τs (λ τ m. spent_fits graph table capacity cells e.state.tokens fits τ (perm_member (Permᴰ.symm told) (Memᴰ.append_left (spent_tags (M graph table capacity cells) s.tokens) m)))

  -- the first records are the log
  first_records_lem : names_in (take (e.firings * log_width) (joined encode_activity τs ++ drop (length (joined encode_activity τs)) lent)) ≡ map some τs
  first_records_lem =
      let n : length (joined encode_activity τs) ≡ e.firings * log_width = length_joined log_width encode_activity length_record τs ∙ ap (λ (k : ℕ). k * log_width) (sym (ran_here.logged.firings ∙ zero-add (length τs))) in
      ap names_in (take_at (joined encode_activity τs) (drop (length (joined encode_activity τs)) lent) (e.firings * log_width) n) ∙ names_back τs tags_fit

  again : AgainOfResults (ran_to e) (ran_to (replay (M graph table capacity cells) NotEnabled (names_in (take (e.firings * log_width) (joined encode_activity τs ++ drop (length (joined encode_activity τs)) lent))) 0 s))
  unfolding answer ledger_after cells_after
  again =
      let h : SameAs (M graph table capacity cells) NotEnabled e (replay (M graph table capacity cells) NotEnabled (map some τs) 0 s) = run_replays (M graph table capacity cells) NotEnabled (by_picks (M graph table capacity cells)) (by_picks_lawful (M graph table capacity cells)) budget picks 0 s in
      rw first_records_lem (record {
        ledger_left = λ l. rw h.state;
        cells_left = λ l. rw h.state;
        firings = h.firings;
        tokens = rw h.state;
        answered = λ n. rw (h.state, h.firings, h.outcome n);
      })

pub log_replays : LogReplaysOfResults
unfolding logged log_unless_failed log_after replayed unless_failed answer
log_replays graph arrays inputs picks budget ledger cells lent graph_bytes input_bytes = go (check_logged graph arrays inputs picks budget ledger cells (length lent)) refl
  where
    x : Checked → LogResult
    x c = log_unless_failed c (run (machine_of (graph_of graph) (arrays_of arrays) (capacity_of ledger) (cells / cell_width)) budget (picks_of picks) (first_state inputs (cells / cell_width)))
        (log_of (machine_of (graph_of graph) (arrays_of arrays) (capacity_of ledger) (cells / cell_width)) (by_picks (machine_of (graph_of graph) (arrays_of arrays) (capacity_of ledger) (cells / cell_width))) budget (picks_of picks) (first_state inputs (cells / cell_width)))

    go : (c : Checked) → check_logged graph arrays inputs picks budget ledger cells (length lent) ≡ c → NotBy7 (x c).result
        → AgainOfResults (x c).result (replayed graph arrays inputs (take ((answer (x c).result).firings * log_width) (log_after (x c) lent)) ledger cells)
    go (Err fault) f other = rw (replay_fails graph arrays inputs picks budget ledger cells (length lent) fault.refusal fault.place f other) (record { ledger_left = λ l. refl; cells_left = λ l. refl; firings = refl; tokens = refl; answered = λ n. refl })
    go (Ok _) f other =
        let h = log_passed graph arrays inputs picks budget ledger cells (length lent) f in
        rw (replay_passes graph arrays inputs picks budget ledger cells (length lent) f)
        (again graph inputs (arrays_of arrays) (capacity_of ledger) (cells / cell_width) h.start (whole_bytes cell_width most_cells cells h.stores.whole_cells).1 graph_bytes input_bytes budget (picks_of picks) lent)
