-- Of every result of a run, of a profile and of a replay the invariants hold (`result_invariants`, `profile_invariants`, `replay_invariants`): each is a firing
-- sequence from the inputs. Assumes nothing.
use Rattle.std.proofs.Common.{Ok, Err}
use Prim.Native.Nat.{ℕ, ◌/◌}
use native.Mathlib.Nat.{zero-add}
use mathlib.Core.Path.{◌≡◌, refl, sym, subst, ◌∙◌}
use mathlib.Core.List.{List, []}
use lib.ListN.{length}
use lib.IntN.{ℤ}
use Rattle.record.specs.declared.tag.Tag.{Tag}
use Rattle.record.specs.GraphRecords.{graph_of}
use Rattle.record.specs.Arrays.{arrays_of}
use Rattle.record.specs.TokensAndTags.{capacity_of}
use Rattle.record.specs.Widths.{cell_width}
use Rattle.machine.specs.Machine.{Machine, State, End, by_picks}
use Rattle.machine.specs.Sequences.{Logged, log_of}
use Rattle.machine.specs.Steps.{profile}
use Rattle.machine.proofs.Runs.{ran}
use Rattle.machine.proofs.Orders.{by_picks_lawful}
use Rattle.machine.proofs.Reached.{sequence_reaches, reached_invariants}
use Rattle.machine.proofs.Steps.{every_profile}
use Rattle.machine.proofs.Replay.{every_replay}
use Rattle.rules.specs.declared.answer.Refusal.{Refusal}
use Rattle.rules.specs.declared.answer.Refusal.TheVariants.{ProfileFull, NotEnabled}
use Rattle.rules.specs.Check.{check_stores, check_arrays, check, Checked}
use Rattle.rules.specs.InstructionSet.{machine_of}
use Rattle.rules.specs.Run.{first_state, picks_of, result}
use Rattle.rules.specs.Profile.{check_profile_stores, check_profile, profile_unless_failed, profiled}
use Rattle.rules.specs.Log.{names_in, replayed}
use Rattle.rules.specs.Invariants.{EndLawful, LawfulResult, ResultInvariants, ProfileInvariants, ReplayInvariants}
use Rattle.rules.proofs.Accepted.{Accepted, accepted, law, begins, good, by_check}

module _ (graph arrays inputs : List ℕ) (ledger cells : ℕ) (a : Accepted graph inputs (capacity_of ledger)) where
  abbrev M : Machine
  M = machine_of (graph_of graph) (arrays_of arrays) (capacity_of ledger) (cells / cell_width)

  abbrev s : State Tag ℤ
  s = first_state inputs (cells / cell_width)

  -- of the end of a firing sequence from inputs that passed
  pub ended_lawful : (τs : List Tag) (e : End Refusal Tag ℤ) → Logged M s 0 τs e → EndLawful graph arrays inputs ledger cells e.firings e.state
  ended_lawful τs e log =
      let (o, r) = sequence_reaches M τs s e.state log.fires in
      subst (λ (n : ℕ). EndLawful graph arrays inputs ledger cells n e.state) (sym (log.firings ∙ zero-add (length τs)))
      (record { sent = o; reached = r; invariants = reached_invariants M (law graph inputs (arrays_of arrays) (capacity_of ledger) (cells / cell_width) a) s (begins graph inputs (arrays_of arrays) (capacity_of ledger) (cells / cell_width) a) (length τs) o e.state r })

pub result_invariants : ResultInvariants
unfolding result check
result_invariants graph arrays inputs picks budget ledger cells =
    by_check (check graph arrays inputs picks ledger cells) _ (LawfulResult graph arrays inputs ledger cells) (λ r p e. tt) (λ e.
    let a = (accepted graph inputs (capacity_of ledger) (check_stores (length inputs) (length picks) ledger cells) (check_arrays (graph_of graph) (cells / cell_width) arrays) e).1.1 in
    let M = machine_of (graph_of graph) (arrays_of arrays) (capacity_of ledger) (cells / cell_width) in
    let s = first_state inputs (cells / cell_width) in
    ended_lawful graph arrays inputs ledger cells a (log_of M (by_picks M) budget (picks_of picks) s) _ (ran M (by_picks M) (by_picks_lawful M) budget (picks_of picks) 0 s).logged)

pub profile_invariants : ProfileInvariants
unfolding profiled profile_unless_failed check_profile
profile_invariants graph arrays inputs ledger cells lent = go (check_profile graph arrays inputs ledger cells lent) refl
  where
    go : (c : Checked) → check_profile graph arrays inputs ledger cells lent ≡ c
        → LawfulResult graph arrays inputs ledger cells (profile_unless_failed c (profile (machine_of (graph_of graph) (arrays_of arrays) (capacity_of ledger) (cells / cell_width)) ProfileFull (lent / 4) 0 (first_state inputs (cells / cell_width)))).result
    go (Err fault) e = tt
    go (Ok _) e =
        let a = (accepted graph inputs (capacity_of ledger) (check_profile_stores (length inputs) ledger cells lent) (check_arrays (graph_of graph) (cells / cell_width) arrays) e).1.1 in
        let M = machine_of (graph_of graph) (arrays_of arrays) (capacity_of ledger) (cells / cell_width) in
        let s = first_state inputs (cells / cell_width) in
        let p = every_profile M (law graph inputs (arrays_of arrays) (capacity_of ledger) (cells / cell_width) a) ProfileFull s (good graph inputs (arrays_of arrays) (capacity_of ledger) (cells / cell_width) a) (lent / 4) 0 in
        ended_lawful graph arrays inputs ledger cells a p.log _ p.logged

pub replay_invariants : ReplayInvariants
unfolding replayed check
replay_invariants graph arrays inputs log ledger cells =
    by_check (check graph arrays inputs [] ledger cells) _ (LawfulResult graph arrays inputs ledger cells) (λ r p e. tt) (λ e.
    let a = (accepted graph inputs (capacity_of ledger) (check_stores (length inputs) 0 ledger cells) (check_arrays (graph_of graph) (cells / cell_width) arrays) e).1.1 in
    let r = every_replay (machine_of (graph_of graph) (arrays_of arrays) (capacity_of ledger) (cells / cell_width)) NotEnabled (names_in log) 0 (first_state inputs (cells / cell_width)) in
    ended_lawful graph arrays inputs ledger cells a r.done _ r.logged)
