-- A replay that passed its checks: the loop by the names of its log ends as 02's replay, said of the buffers as lent. Assumes nothing.
use Rattle.std.proofs.Common.{Ok}
use Prim.Native.Nat.{ℕ, ◌+◌, ◌-◌, ◌/◌}
use mathlib.Core.Path.{◌≡◌, sym, ap, subst, ◌∙◌}
use mathlib.Core.List.{List, []}
use lib.ListN.{length}
use lib.IntN.{ℤ}
use Rattle.record.specs.declared.tag.Tag.{Tag}
use Rattle.record.specs.declared.array.NamedArray.{NamedArray}
use Rattle.record.specs.GraphRecords.{graph_of}
use Rattle.record.specs.Arrays.{arrays_of}
use Rattle.record.specs.Logs.{name_of}
use Rattle.record.specs.Widths.{token_width, cell_width, log_width}
use Rattle.buffer.proofs.Tables.{length_rows}
use Rattle.machine.specs.Machine.{State, End}
use Rattle.machine.specs.Replay.{replay}
use Rattle.machine.specs.Choosers.{run_from, by_name}
use Rattle.machine.proofs.Replay.{every_replay}
use Rattle.machine.proofs.Choosers.{names_choose}
use Rattle.rules.specs.declared.answer.Refusal.{Refusal}
use Rattle.rules.specs.declared.answer.Refusal.TheVariants.{NotEnabled}
use Rattle.rules.specs.declared.answer.Answer.{Answer}
use Rattle.rules.specs.Check.{check}
use Rattle.rules.specs.InstructionSet.{machine_of}
use Rattle.rules.specs.Run.{first_state}
use Rattle.rules.specs.Log.{names_in}
use Rattle.abstraction.specs.Tables.{arrays_in}
use Rattle.fire.specs.Running.{machine_over, state_in}
use Rattle.start.specs.Begun.{machine_lent, Begun}
use Rattle.start.specs.Ended.{EndedAt}
use Rattle.start.proofs.Starting.{accepted_by, from_start, as_lent}
use Rattle.engine.specs.declared.choice.Order.TheVariants.{Log}
use Rattle.engine.specs.Turns.{end_of, Proceeded}
use Rattle.engine.proofs.Looping.{ended_at}

-- as many names as the log has records, the last one whole or not
names_count : (log : List ℕ) → length (names_in log) ≡ (length log + (log_width - 1)) / log_width
unfolding names_in
names_count log = length_rows log_width name_of ((length log + (log_width - 1)) / log_width) log

module _ (graph arrays inputs log ledger cells : List ℕ) (e : check graph arrays inputs [] (length ledger) (length cells) ≡ Ok tt)
    {tables links flags ledger₁ cells₁ : List ℕ} {used : ℕ} (b : Begun graph arrays inputs tables links flags ledger ledger₁ cells cells₁ used) where
  abbrev ends : List NamedArray → (capacity count : ℕ) → State Tag ℤ → End Refusal Tag ℤ
  ends table capacity count s = replay (machine_of (graph_of graph) table capacity count) NotEnabled (names_in log) 0 s

  -- the loop by the names of a log is the replay
  ends_replay : (budget : ℕ) → budget ≡ (length log + (log_width - 1)) / log_width
      → end_of Log log (graph_of graph) tables ledger₁ cells₁ used budget ≡ ends (arrays_in tables) (length ledger₁ / token_width) (length cells₁ / cell_width) (state_in ledger₁ cells₁ used)
  ends_replay budget size =
      let M = machine_over (graph_of graph) tables ledger₁ cells₁ in
      let s = state_in ledger₁ cells₁ used in
      ap (λ (n : ℕ). run_from M (by_name M NotEnabled (names_in log)) n 0 s) (size ∙ sym (names_count log)) ∙ sym (names_choose M NotEnabled (names_in log) s)

  pub as_replay : {r : Answer} {links' flags' ledger' cells' : List ℕ} (budget : ℕ) → budget ≡ (length log + (log_width - 1)) / log_width
      → Proceeded (end_of Log log (graph_of graph) tables ledger₁ cells₁ used budget) r (graph_of graph) tables links' flags' ledger' cells' used ledger₁ cells₁
      → EndedAt (ends (arrays_of arrays) (length ledger / token_width) (length cells / cell_width) (first_state inputs (length cells / cell_width))) r ledger cells ledger' cells'
  as_replay {r} {ledger' = ledger'} {cells' = cells'} budget size h =
      let M = machine_lent graph arrays ledger cells in
      let s₀ = first_state inputs (length cells / cell_width) in
      let a = accepted_by graph arrays inputs [] (length ledger) (length cells) e in
      let all = every_replay M NotEnabled (names_in log) 0 s₀ in
      as_lent graph arrays inputs ledger cells a b (ends (arrays_of arrays) (length ledger / token_width) (length cells / cell_width) s₀) all.done all.logged.fires r ledger' cells'
      (subst (λ (x : End Refusal Tag ℤ). EndedAt x r ledger₁ cells₁ ledger' cells') (ends_replay budget size ∙ from_start graph arrays inputs ledger cells a b ends) (ended_at h))
