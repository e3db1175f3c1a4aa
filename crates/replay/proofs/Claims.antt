-- R-7 in bytes: a replay of the log that a run has written leaves and counts what the run did (`log_replays`), and the logs of two runs to an end hold the
-- same records, each once (`logs_agree_lem`); from the theorems of `rules` and the promises. Assumes nothing.
use Rattle.std.proofs.Common.{Ok, Err}
use Prim.Native.Nat.{ℕ, ◌*◌, ◌/◌}
use mathlib.Core.Path.{◌≡◌, refl, sym, ap, subst, ◌∙◌}
use mathlib.Core.Logic.{◌⊎◌, inl, inr}
use mathlib.Core.Option.{some}
use mathlib.Core.List.Memᴰ
use mathlib.Core.List.Permᴰ
use mathlib.Core.List.{List, [], ◌∷◌, ◌++◌, map, Memᴰ}
use native.Mathlib.Nat.{zero-add}
use lib.ListN.{length, take, drop}
use Rattle.number.specs.Number.{Bytes}
use Rattle.buffer.specs.Rows.{rows, joined, All}
use Rattle.record.specs.declared.tag.Tag.{Tag}
use Rattle.record.specs.GraphRecords.{graph_of}
use Rattle.record.specs.Arrays.{arrays_of}
use Rattle.record.specs.TokensAndTags.{capacity_of}
use Rattle.record.specs.Logs.{encode_activity}
use Rattle.record.specs.Widths.{cell_width, log_width}
use Rattle.machine.specs.Machine.{by_picks, run}
use Rattle.machine.specs.Orders.{Quiescent, Refused, RefusedBy}
use Rattle.machine.specs.Sequences.{Once, log_of}
use Rattle.machine.proofs.Runs.{ran}
use Rattle.machine.proofs.Orders.{by_picks_lawful}
use Rattle.rules.specs.declared.answer.Answer.{Answer}
use Rattle.rules.specs.declared.answer.Refusal.TheVariants.{BadStore}
use Rattle.rules.specs.Check.{most_cells, Checked}
use Rattle.rules.specs.InstructionSet.{machine_of}
use Rattle.rules.specs.Run.{Result, refused_at_once, ran_to, answer, first_state, picks_of}
use Rattle.rules.specs.Orders.{result_outcome}
use Rattle.rules.specs.Log.{LogResult, check_logged, log_unless_failed, logged, log_after, names_in, NotBy7, InFiring}
use Rattle.rules.proofs.Accepted.{whole_bytes}
use Rattle.record.proofs.LogRecords.{TagFits}
use Rattle.rules.proofs.Log.{names_back, log_passed}
use Rattle.rules.proofs.Log as Logs
use Rattle.rules.proofs.Replay as Replays
use Rattle.rules.proofs.Replay.{tags_fit}
use Rattle.rules.proofs.Outcomes.{outcome_back, outcome_said}
use Rattle.rules.specs.Runs.{LentToLogged, LeftByLogged, LoggedOn, ReplayedOn, outcome_in}
use Rattle.rules.proofs.Logged.{refused_holds}
use Rattle.replay.specs.Claims.{log_in, records_in, RefusedInFiring, LogReplays, LogsAgree}

-- ---- how a run ended, by its answer

not_by7 : (x : Result) → ¬ (RefusedBy BadStore (outcome_in (answer x).outcome)) → NotBy7 x
unfolding answer
not_by7 (refused_at_once r p) n = n
not_by7 (ran_to e) n = tt

refused_there : (x : Result) → InFiring x → Refused (outcome_in (answer x).outcome)
unfolding answer
refused_there (refused_at_once r p) f = absurd f
refused_there (ran_to e) f = subst Refused (sym (outcome_back e.outcome)) f

-- ---- a replay

pub log_replays : LogReplays
log_replays graph arrays inputs graph_bytes input_bytes l x h other r ledger' cells' p =
    let R = logged graph arrays inputs l.picks l.budget (length l.ledger) (length l.cells) (length l.log) in
    let same : log_in x ≡ take ((answer R.result).firings * log_width) (log_after R l.log) = λ i. take ((h.answered i).firings * log_width) (h.log_left i) in
    let q = subst (λ (log : List ℕ). ReplayedOn graph arrays inputs log l.ledger l.cells r ledger' cells') same p in
    let n = not_by7 R.result (subst (λ (a : Answer). ¬ (RefusedBy BadStore (outcome_in a.outcome))) h.answered other) in
    let holds = refused_holds graph arrays inputs l.picks l.budget (length l.ledger) (length l.cells) (length l.log) in
    let a = Replays.log_replays graph arrays inputs l.picks l.budget (length l.ledger) (length l.cells) l.log graph_bytes input_bytes n in
    record {
      ledger = q.ledger_left ∙ a.ledger_left l.ledger ∙ sym h.ledger_left;
      cells = q.cells_left ∙ a.cells_left l.cells ∙ sym h.cells_left;
      firings = ap (λ (z : Answer). z.firings) q.answered ∙ a.firings ∙ sym (ap (λ (z : Answer). z.firings) h.answered);
      tokens = ap (λ (z : Answer). z.tokens) q.answered ∙ a.tokens ∙ sym (ap (λ (z : Answer). z.tokens) h.answered);
      answer = λ m. q.answered ∙ a.answered (λ f. m (subst RefusedInFiring (sym h.answered) (refused_there R.result f, holds f))) ∙ sym h.answered;
    }

-- ---- the records of a log

-- each is that of its tag
records_back : (τs : List Tag) (r : List ℕ) → rows log_width (take log_width) (length τs) (joined encode_activity τs ++ r) ≡ map encode_activity τs
unfolding encode_activity
records_back [] r = refl
records_back (τ ∷ τs) r = λ i. encode_activity τ ∷ records_back τs r i

some_head : (τ σ : Tag) → map some (τ ∷ []) ≡ map some (σ ∷ []) → τ ≡ σ
some_head τ σ e = cc

-- tags that fit a record are told by it
same_tag_lem : (τ σ : Tag) → TagFits τ → TagFits σ → encode_activity τ ≡ encode_activity σ → τ ≡ σ
same_tag_lem τ σ f g e = some_head τ σ (sym (names_back (τ ∷ []) (f, tt)) ∙ ap (λ (b : List ℕ). names_in (b ++ [])) e ∙ names_back (σ ∷ []) (g, tt))

tag_member : (τ : Tag) (τs : List Tag) → TagFits τ → All TagFits τs → Memᴰ (encode_activity τ) (map encode_activity τs) → Memᴰ τ τs
tag_member τ [] f fs m = absurd (Memᴰ.not-nil m)
tag_member τ (σ ∷ τs) f fs m = go (Memᴰ.cases_cons m) (λ h. tag_member τ τs f fs.1 h)
  where
    go : (encode_activity τ ≡ encode_activity σ) ⊎ Memᴰ (encode_activity τ) (map encode_activity τs) → (Memᴰ (encode_activity τ) (map encode_activity τs) → Memᴰ τ τs) → Memᴰ τ (σ ∷ τs)
    go (inl e) rest = Memᴰ.head (same_tag_lem τ σ f fs.0 e)
    go (inr h) rest = Memᴰ.tail (rest h)

once_back : (τs : List Tag) → All TagFits τs → Once τs → Once (map encode_activity τs)
once_back [] fs o = tt
once_back (τ ∷ τs) fs o = (λ m. o.0 (tag_member τ τs fs.0 fs.1 m), once_back τs fs.1 o.1)

-- ---- the log of a run

module _ (graph arrays inputs : List ℕ) (l : LentToLogged) where
  abbrev whole : LogResult
  whole = logged graph arrays inputs l.picks l.budget (length l.ledger) (length l.cells) (length l.log)

  abbrev capacity : ℕ
  capacity = capacity_of (length l.ledger)

  abbrev count : ℕ
  count = length l.cells / cell_width

  -- one record a firing
  log_counted : (answer whole.result).firings ≡ length whole.log
  unfolding logged log_unless_failed answer
  log_counted = go (check_logged graph arrays inputs l.picks l.budget (length l.ledger) (length l.cells) (length l.log))
    where
      go : (c : Checked) → let M = machine_of (graph_of graph) (arrays_of arrays) capacity count in let s = first_state inputs count in
          let x = log_unless_failed c (run M l.budget (picks_of l.picks) s) (log_of M (by_picks M) l.budget (picks_of l.picks) s) in
          (answer x.result).firings ≡ length x.log
      go (Ok _) = let M = machine_of (graph_of graph) (arrays_of arrays) capacity count in
          (ran M (by_picks M) (by_picks_lawful M) l.budget (picks_of l.picks) 0 (first_state inputs count)).logged.firings ∙ zero-add _
      go (Err fault) = refl

  log_fit : Bytes graph → Bytes inputs → All TagFits whole.log
  unfolding logged log_unless_failed
  log_fit graph_bytes input_bytes = go (check_logged graph arrays inputs l.picks l.budget (length l.ledger) (length l.cells) (length l.log)) refl
    where
      go : (c : Checked) → check_logged graph arrays inputs l.picks l.budget (length l.ledger) (length l.cells) (length l.log) ≡ c
          → let M = machine_of (graph_of graph) (arrays_of arrays) capacity count in let s = first_state inputs count in
          All TagFits (log_unless_failed c (run M l.budget (picks_of l.picks) s) (log_of M (by_picks M) l.budget (picks_of l.picks) s)).log
      go (Err fault) e = tt
      go (Ok _) e =
          let h = log_passed graph arrays inputs l.picks l.budget (length l.ledger) (length l.cells) (length l.log) e in
          tags_fit graph inputs (arrays_of arrays) capacity count h.start (whole_bytes cell_width most_cells (length l.cells) h.stores.whole_cells).1 graph_bytes input_bytes l.budget (picks_of l.picks) l.log

  records_are : (x : LeftByLogged) → LoggedOn graph arrays inputs l x → records_in x ≡ map encode_activity whole.log
  unfolding log_after
  records_are x h =
      (λ i. rows log_width (take log_width) (h.answered i).firings (h.log_left i))
      ∙ ap (λ (n : ℕ). rows log_width (take log_width) n (log_after whole l.log)) log_counted
      ∙ records_back whole.log (drop (length (joined encode_activity whole.log)) l.log)

  ends_at_rest : (x : LeftByLogged) → LoggedOn graph arrays inputs l x → Quiescent (outcome_in x.answer.outcome) → Quiescent (result_outcome whole.result)
  ends_at_rest x h q = subst Quiescent (ap (λ (a : Answer). outcome_in a.outcome) h.answered ∙ outcome_said whole.result) q

pub logs_agree_lem : LogsAgree
logs_agree_lem graph arrays inputs graph_bytes input_bytes l m c d x y h k p q =
    let both = Logs.logs_agree_lem graph arrays inputs l.picks m.picks l.budget m.budget (length l.ledger) (length m.ledger) (length l.cells) (length m.cells) (length l.log) (length m.log) c d
    (ends_at_rest graph arrays inputs l x h p) (ends_at_rest graph arrays inputs m y k q) in
    let a = records_are graph arrays inputs l x h in
    let b = records_are graph arrays inputs m y k in (
      rw (a, b) (Permᴰ.map encode_activity both.0),
      rw a (once_back (whole graph arrays inputs l).log (log_fit graph arrays inputs l graph_bytes input_bytes) both.1),
    )
