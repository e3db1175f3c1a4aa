-- What holds of every result of a run, of a profile and of a replay, over the rules: 01, "Tokens and tags" and "Firing". The statement; it is proved in proofs/Invariants. Assumes nothing.
use Rattle.std.specs.Prelude.{ℕ, ◌/◌, List, ℤ}
use Rattle.record.specs.declared.tag.Tag.{Tag}
use Rattle.record.specs.GraphRecords.{graph_of}
use Rattle.record.specs.Arrays.{arrays_of}
use Rattle.record.specs.TokensAndTags.{capacity_of}
use Rattle.record.specs.Widths.{cell_width}
use Rattle.machine.specs.Machine.{Machine, State}
use Rattle.machine.specs.Orders.{Reached, Invariants}
use Rattle.rules.specs.InstructionSet.{machine_of}
use Rattle.rules.specs.Run.{first_state, Result, refused_at_once, ran_to, result}
use Rattle.rules.specs.Profile.{profiled}
use Rattle.rules.specs.Log.{replayed}

module _ (graph arrays inputs : List ℕ) (ledger cells : ℕ) where
  abbrev M : Machine
  M = machine_of (graph_of graph) (arrays_of arrays) (capacity_of ledger) (cells / cell_width)

  abbrev s : State Tag ℤ
  s = first_state inputs (cells / cell_width)

  -- the firings that the answer counts lead from the inputs to the end. So of the end the invariants hold: a port receives one
  -- token at most, tokens are the inputs plus the outputs, a cell is waiting exactly where a token is deferred on it, a tag's operands are spent together,
  -- and results never are
  pub record EndLawful (firings : ℕ) (x : State Tag ℤ) : Type 0 where
    pub sent : ℕ
    pub reached : Reached M s firings sent x
    pub invariants : Invariants M s firings sent x

  abbrev pub LawfulResult : Result → Type 0
  LawfulResult (refused_at_once r p) = Unit {0}
  LawfulResult (ran_to e) = EndLawful e.firings e.state

-- of every run, every profile and every replay
abbrev pub ResultInvariants : Type 0
ResultInvariants = (graph arrays inputs picks : List ℕ) (budget ledger cells : ℕ) → LawfulResult graph arrays inputs ledger cells (result graph arrays inputs picks budget ledger cells)

abbrev pub ProfileInvariants : Type 0
ProfileInvariants = (graph arrays inputs : List ℕ) (ledger cells lent : ℕ) → LawfulResult graph arrays inputs ledger cells (profiled graph arrays inputs ledger cells lent).result

abbrev pub ReplayInvariants : Type 0
ReplayInvariants = (graph arrays inputs log : List ℕ) (ledger cells : ℕ) → LawfulResult graph arrays inputs ledger cells (replayed graph arrays inputs log ledger cells)
