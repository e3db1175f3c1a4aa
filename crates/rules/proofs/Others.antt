-- What a replay and a profile leave that have fired nothing: the inputs in the ledger and all cells absent (`others_start`); and what 20 leaves: what a replay of the
-- records before it leaves (`not_enabled_stops`). Assumes nothing.
use Rattle.std.proofs.Common.{Ok, Err}
use Prim.Native.Nat.{ℕ, suc, ◌+◌, ◌-◌, ◌*◌, ◌/◌, ◌≤◌}
use mathlib.Core.Path.{◌≡◌, refl, sym, ap, ◌∙◌}
use mathlib.Core.Option.{Option, some}
use mathlib.Core.List.{List, [], ◌∷◌, ◌++◌, map, append-nil}
use native.Mathlib.Nat.{zero-add}
use native.Mathlib.Omega.{arith}
use native.Mathlib.Decide.{dec_le}
use borrow.Author.Tests.{le-leb}
use lib.Dec.{leb}
use lib.ListN.{length, take, length-append, length-map}
use lib.Seq.{take_at, take_all, take-take, length-take-le}
use lib.IntN.{ℤ}
use Rattle.record.specs.declared.tag.Tag.{Tag}
use Rattle.record.specs.declared.array.NamedArray.{NamedArray}
use Rattle.number.specs.Number.{Bytes}
use Rattle.buffer.specs.Rows.{rows}
use Rattle.buffer.proofs.Tables.{length_rows}
use Rattle.record.specs.GraphRecords.{graph_of}
use Rattle.record.specs.Arrays.{arrays_of}
use Rattle.record.specs.TokensAndTags.{most_tokens, capacity_of}
use Rattle.record.specs.Logs.{name_of}
use Rattle.record.specs.Widths.{token_width, cell_width, log_width, step_width}
use Rattle.record.proofs.Records.{front, own}
use Rattle.machine.specs.Machine.{Machine, State, End, Outcome, completed, hung, budget_spent, refused}
use Rattle.machine.specs.Orders.{Quiescent}
use Rattle.machine.specs.Sequences.{Logged}
use Rattle.machine.specs.Steps.{profile}
use Rattle.machine.specs.Replay.{replay}
use Rattle.machine.proofs.Ending.{ending_rests}
use Rattle.machine.proofs.Steps.{every_profile}
use Rattle.machine.proofs.Replay.{every_replay, sequence_replays, replay_end, ReplayStopped, Replayed, log_ends, one_enabled, none_named_lem, one_refused}
use Rattle.rules.specs.declared.answer.Refusal.{Refusal}
use Rattle.rules.specs.declared.answer.Refusal.TheVariants.{ProfileFull, NotEnabled}
use Rattle.rules.specs.declared.answer.Outcome as AnswerOutcome
use Rattle.rules.specs.declared.answer.Outcome.TheVariants as Outcomes
use Rattle.rules.specs.Answer.{number_of, word_of, place_in}
use Rattle.rules.specs.Check.{check_stores, check_arrays, check, most_cells, Checked}
use Rattle.rules.specs.InstructionSet.{machine_of}
use Rattle.rules.specs.Run.{first_state, ran_to, outcome_of, unless_failed, answer, ledger_after, cells_after}
use Rattle.rules.specs.Log.{names_in, replayed}
use Rattle.rules.specs.Profile.{check_profile, profile_unless_failed, profiled}
use Rattle.rules.specs.Demand2.{InputsWritten, OthersStart, StoppedBefore, NotEnabledStops}
use Rattle.rules.proofs.Accepted.{whole_bytes, Whole, stores_whole, Accepted, accepted, law, good}
use Rattle.rules.proofs.Left.{first_left}
use Rattle.rules.proofs.Profile.{wholes}
use Rattle.rules.proofs.Refusals.{Common, check_early, firing_early}
use Rattle.rules.proofs.Rows.{rows_own, take_rows}

-- ---- nothing fired

-- a sequence of no firing ends where it starts
none_fired : (graph : List ℕ) (table : List NamedArray) (capacity cells : ℕ) (s : State Tag ℤ) (τs : List Tag) (e : End Refusal Tag ℤ) → Logged (machine_of (graph_of graph) table capacity cells) s 0 τs e → e.firings ≡ 0 → e.state ≡ s
none_fired graph table capacity cells s [] e h n = sym h.fires
none_fired graph table capacity cells s (τ ∷ τs) e h n = absurd (omega (arith, h.firings))

module _ (graph arrays inputs ledger cells : List ℕ) (bytes : Bytes inputs) (w : Whole (length inputs) 0 (length ledger) (length cells)) (a : Accepted graph inputs (capacity_of (length ledger))) where
  abbrev count : ℕ
  count = length cells / cell_width

  written : (e : End Refusal Tag ℤ) (τs : List Tag) → Logged (machine_of (graph_of graph) (arrays_of arrays) (capacity_of (length ledger)) count) (first_state inputs count) 0 τs e → e.firings ≡ 0 → InputsWritten (ran_to e) inputs ledger cells
  written e τs h n =
      let z = first_left (graph_of graph) (capacity_of (length ledger)) e inputs ledger cells (none_fired graph (arrays_of arrays) (capacity_of (length ledger)) count (first_state inputs count) τs e h n) bytes
      (whole_bytes token_width most_tokens (length inputs) w.whole_inputs).0 (whole_bytes cell_width most_cells (length cells) w.whole_cells).0 a.inputs_passed in
      record { ledger_left = z.0; cells_left = z.1 }

replay_starts : (graph arrays inputs log ledger cells : List ℕ) → Bytes inputs → check graph arrays inputs [] (length ledger) (length cells) ≡ Ok tt
    → (answer (replayed graph arrays inputs log (length ledger) (length cells))).firings ≡ 0 → InputsWritten (replayed graph arrays inputs log (length ledger) (length cells)) inputs ledger cells
unfolding replayed unless_failed answer check
replay_starts graph arrays inputs log ledger cells b passed n =
    let (stores, (named, a)) = accepted graph inputs (capacity_of (length ledger)) (check_stores (length inputs) 0 (length ledger) (length cells)) (check_arrays (graph_of graph) (length cells / cell_width) arrays) passed in
    let M = machine_of (graph_of graph) (arrays_of arrays) (capacity_of (length ledger)) (length cells / cell_width) in
    let s = first_state inputs (length cells / cell_width) in
    let h = every_replay M NotEnabled (names_in log) 0 s in
    rw passed (written graph arrays inputs ledger cells b (stores_whole (length inputs) 0 (length ledger) (length cells) stores) a (replay M NotEnabled (names_in log) 0 s) h.done h.logged (rw passed at n))

profile_starts : (graph arrays inputs ledger cells : List ℕ) (lent : ℕ) → Bytes inputs → check_profile graph arrays inputs (length ledger) (length cells) lent ≡ Ok tt
    → (answer (profiled graph arrays inputs (length ledger) (length cells) lent).result).firings ≡ 0 → InputsWritten (profiled graph arrays inputs (length ledger) (length cells) lent).result inputs ledger cells
unfolding profiled profile_unless_failed answer
profile_starts graph arrays inputs ledger cells lent b passed n =
    let (w, (named, a)) = wholes graph arrays inputs (length ledger) (length cells) lent passed in
    let capacity = capacity_of (length ledger) in
    let count = length cells / cell_width in
    let table = arrays_of arrays in
    let M = machine_of (graph_of graph) table capacity count in
    let s = first_state inputs count in
    let h = every_profile M (law graph inputs table capacity count a) ProfileFull s (good graph inputs table capacity count a) (lent / step_width) 0 in
    rw passed (written graph arrays inputs ledger cells b w a (profile M ProfileFull (lent / step_width) 0 s).ended h.log h.logged (rw passed at n))

pub others_start : OthersStart
others_start = record { by_replay = replay_starts; by_profile = profile_starts }

-- ---- the first records of a log

-- a record is read from its own bytes alone
name_front : (l : List ℕ) → name_of (take log_width l) ≡ name_of l
unfolding name_of
name_front l = rw (
  long (dec_le log_width (length l)),
  front log_width l 0 tt,
  front log_width l 1 tt,
  front log_width l 2 tt,
  front log_width l 3 tt,
  front log_width l 4 tt,
  front log_width l 5 tt,
  front log_width l 6 tt,
  front log_width l 7 tt,
  front log_width l 8 tt,
  front log_width l 9 tt,
  front log_width l 10 tt,
  front log_width l 11 tt,
  front log_width l 12 tt,
  front log_width l 13 tt,
  front log_width l 14 tt,
  front log_width l 15 tt,
  front log_width l 16 tt,
  front log_width l 17 tt,
  front log_width l 18 tt,
  front log_width l 19 tt,
)
  where
    long : Dec (log_width ≤ length l) → leb log_width (length (take log_width l)) ≡ leb log_width (length l)
    long (yes h) = le-leb log_width (length (take log_width l)) (omega (arith, length-take-le log_width l h)) ∙ sym (le-leb log_width (length l) h)
    long (no n) = ap (λ (m : List ℕ). leb log_width (length m)) (take_all log_width l (omega arith))

names_take : (n : ℕ) (log : List ℕ) → n * log_width ≤ length log → names_in (take (n * log_width) log) ≡ take n (names_in log)
unfolding names_in
names_take n log h =
    let size = length-take-le (n * log_width) log h in
    let k : (length (take (n * log_width) log) + (log_width - 1)) / log_width ≡ n = omega arith in
    ap (λ (m : ℕ). rows log_width name_of m (take (n * log_width) log)) k
    ∙ rows_own log_width name_of (own log_width name_of name_front) n (take (n * log_width) log) log (take-take (n * log_width) (n * log_width) log (omega arith))
    ∙ sym (take_rows log_width name_of n ((length log + (log_width - 1)) / log_width) log (omega arith))

count_names : (log : List ℕ) → length (names_in log) ≡ (length log + (log_width - 1)) / log_width
unfolding names_in
count_names log = length_rows log_width name_of ((length log + (log_width - 1)) / log_width) log

-- ---- 20

not_enabled_word : (o : AnswerOutcome.Outcome) (place : ℕ) → o ≡ Outcomes.Refused NotEnabled place → (word_of o ≡ 20) × (place_in o ≡ place)
not_enabled_word o place e = (ap word_of e, ap place_in e)

module _ (g : List ℕ) (table : List NamedArray) (capacity cells : ℕ) (s : State Tag ℤ) (log : List ℕ) (place : ℕ) where
  abbrev M : Machine
  M = machine_of (graph_of g) table capacity cells

  abbrev e : End Refusal Tag ℤ
  e = replay M NotEnabled (names_in log) 0 s

  abbrev before : End Refusal Tag ℤ
  before = replay M NotEnabled (names_in (take (place * log_width) log)) 0 s

  rests_not : (o : Outcome Refusal) → Quiescent o → ¬ (word_of (outcome_of o) ≡ 20)
  rests_not completed q h = omega arith
  rests_not hung q h = omega arith
  rests_not budget_spent q h = absurd q
  rests_not (refused r n) q h = absurd q

  -- a record is left, so that those before it are whole
  stops : outcome_of e.outcome ≡ Outcomes.Refused NotEnabled place → (e.firings ≡ place) × (e.state ≡ before.state)
  stops h = go (every_replay M NotEnabled (names_in log) 0 s)
    where
      go : Replayed M NotEnabled s 0 (names_in log) e → (e.firings ≡ place) × (e.state ≡ before.state)
      go r = by_stop r.stopped
        where
          n : ℕ
          n = length r.done

          by_stop : ReplayStopped M NotEnabled r.left (0 + n) e.state e.outcome → (e.firings ≡ place) × (e.state ≡ before.state)
          by_stop (log_ends p q d) = absurd (rests_not e.outcome (rw d (ending_rests M e.state)) (not_enabled_word _ place h).0)
          by_stop (one_enabled p b q d) =
              let z : ◌≡◌ {A = ℕ} 100 20 = sym (ap (λ (o : Outcome Refusal). word_of (outcome_of o)) d) ∙ (not_enabled_word _ place h).0 in absurd (omega arith)
          by_stop (one_refused b more p q t f d) =
              let z : number_of t ≡ 20 = sym (ap (λ (o : Outcome Refusal). word_of (outcome_of o)) d) ∙ (not_enabled_word _ place h).0 in
              absurd (omega (arith, z, firing_early (graph_of g) table capacity cells e.state b.tag t f))
          by_stop (none_named_lem name more p q d) =
              let at : place ≡ n = sym (not_enabled_word _ place h).1 ∙ ap (λ (o : Outcome Refusal). place_in (outcome_of o)) d ∙ zero-add n in
              let names : names_in log ≡ map some r.done ++ (name ∷ more) = r.whole ∙ ap (λ (l : List (Option Tag)). map some r.done ++ l) p in
              let many : length (names_in log) ≡ n + suc (length more) = ap length names ∙ length-append (map some r.done) (name ∷ more) ∙ ap (λ (k : ℕ). k + suc (length more)) (length-map r.done some) in
              let size = count_names log in
              let first : names_in (take (place * log_width) log) ≡ map some r.done =
              names_take place log (omega arith) ∙ ap (take place) names ∙ take_at (map some r.done) (name ∷ more) place (length-map r.done some ∙ sym at) in
              let again = sequence_replays M NotEnabled r.done s e.state r.logged.fires [] 0 in
              let end : before.state ≡ e.state =
              ap (λ (l : List (Option Tag)). (replay M NotEnabled l 0 s).state) (first ∙ sym (append-nil (map some r.done))) ∙ ap (λ (d : End Refusal Tag ℤ). d.state) again ∙ (replay_end M NotEnabled (0 + n) e.state).0 in
              (omega (arith, r.logged.firings), sym end)

pub not_enabled_stops : NotEnabledStops
unfolding replayed unless_failed answer ledger_after cells_after
not_enabled_stops graph arrays inputs log ledger cells place = go (check graph arrays inputs [] ledger cells) refl
  where
    go : (c : Checked) → check graph arrays inputs [] ledger cells ≡ c → (answer (replayed graph arrays inputs log ledger cells)).outcome ≡ Outcomes.Refused NotEnabled place
        → StoppedBefore (replayed graph arrays inputs log ledger cells) (replayed graph arrays inputs (take (place * log_width) log) ledger cells) place
    go (Err fault) e h =
        let z : number_of fault.refusal ≡ 20 = (not_enabled_word _ place (rw e at h)).0 in
        let common : Common fault.refusal = rw e at (check_early graph arrays inputs [] ledger cells) in
        absurd (common.not_named_lem z)
    go (Ok _) e h =
        let z = stops graph (arrays_of arrays) (capacity_of ledger) (cells / cell_width) (first_state inputs (cells / cell_width)) log place (rw e at h) in
        rw e (record { counted = z.0; ledger_left = λ l. rw z.1; cells_left = λ l. rw z.1 })
