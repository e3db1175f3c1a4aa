-- 02, R-9: the activities of a saved state that are enabled, and those of them that a bound holds back, counted. `count` promises `counts`. Assumes nothing.
use Rattle.std.specs.Prelude.{ℕ, not, List, [], length, Result, Ok}
use Rattle.record.specs.GraphRecords.{graph_of}
use Rattle.machine.specs.Machine.{Machine, StateOf, Activity, enabled}
use Rattle.machine.specs.Bounded.{Held, without_held}
use Rattle.rules.specs.declared.answer.Fault.{Fault}
use Rattle.rules.specs.declared.answer.Refusal.TheVariants.{DamagedState}
use Rattle.rules.specs.Check.{demand, ◌and_then◌, check_graph, check_stores, Checked}
use Rattle.rules.specs.Bounded.{and_bound}
use Rattle.rules.specs.Held.{held_in}
use Rattle.rules.specs.Saved.{state_saved, machine_saved, state_taken}
use Rattle.activities.specs.declared.Tally.{Tally}

-- ---- of a state

-- those of the enabled that are held back
abbrev pub held_of : (M : Machine) → Held M → StateOf M → List (Activity M.Tag)
held_of M held s = without_held M (λ a. not (held s a)) (enabled M s)

-- of the state that ledger and cells hold, by its number of tokens. Named arrays have no part in it
abbrev pub enabled_in : (graph ledger cells : List ℕ) → (tokens : ℕ) → ℕ
enabled_in graph ledger cells n = length (enabled (machine_saved graph [] ledger cells) (state_saved ledger cells n))

abbrev pub held_back_in : (graph : List ℕ) → (bound : ℕ) → (ledger cells : List ℕ) → (tokens : ℕ) → ℕ
held_back_in graph k ledger cells n = length (held_of (machine_saved graph [] ledger cells) (held_in (graph_of graph) k) (state_saved ledger cells n))

-- ---- what is asked of it: 7, 21 and 24 as of a run that goes on from there

abbrev pub count_lent_checked : (graph : List ℕ) → (bound ledger cells : ℕ) → Checked
count_lent_checked graph k ledger cells = check_graph graph and_then and_bound (check_stores 0 0 ledger cells) k

abbrev pub tally_of : (enabled held : ℕ) → Result Tally Fault
tally_of enabled held = Ok (record { enabled = enabled; held = held })

-- once graph and stores passed their checks
unfoldable pub counted : (graph : List ℕ) → (bound firings tokens : ℕ) → (ledger cells : List ℕ) → Result Tally Fault
counted graph k firings n ledger cells =
    demand (state_taken graph ledger cells firings n) DamagedState 0
    and_then tally_of (enabled_in graph ledger cells n) (held_back_in graph k ledger cells n)

unfoldable pub counts : (graph : List ℕ) → (bound firings tokens : ℕ) → (ledger cells : List ℕ) → Result Tally Fault
counts graph k firings n ledger cells = count_lent_checked graph k (length ledger) (length cells) and_then counted graph k firings n ledger cells
