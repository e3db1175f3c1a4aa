-- Working definition: no public promise cites it.
-- A machine that works on handles: what stands for a value is its number in a table, and an effect may add to the table. Entries never change, so that a handle keeps
-- its meaning. Such a run goes in step with the run over the values themselves (proofs/Handles). Assumes nothing.
use Rattle.std.specs.Prelude.{◌≡◌, List, ◌++◌, map, ℕ, zero, suc, ◌<◌, length, get_or}
use Rattle.machine.specs.Machine.{Content, live, spent, deferred, Token, Cell, absent, waiting, present, State, Effect, Machine, Activity, Fired, fired, not_fired, refused, End, on_option}
use Rattle.machine.specs.Machine.{StateOf, FiredOf, EndOf, look, operands, commit, end}
use Rattle.machine.specs.Choosers.{on_chosen, Chooser, rests_at}
use Rattle.machine.specs.InStep.{Over}

-- v stands in the table at the handle's number
pub record StandsAt {X W : Type 0} (number : W → ℕ) (table : List X) (v : X) (handle : W) : Type 0 where
  pub below : number handle < length table
  pub there : get_or table (number handle) v ≡ v

-- ---- a state read through a table

abbrev pub changed_to : {T X W : Type 0} → (Content W → Content X) → Token T W → Token T X
changed_to f t = record { key = t.key; content = f t.content }

module _ {X W : Type 0} (meaning : W → X) where
  abbrev pub meant_content : Content W → Content X
  meant_content (live w) = live (meaning w)
  meant_content (spent w) = spent (meaning w)
  meant_content (deferred c) = deferred c

  abbrev pub cell_by : Cell W → Cell X
  cell_by absent = absent
  cell_by waiting = waiting
  cell_by (present w) = present (meaning w)

  abbrev pub state_by : {T : Type 0} → State T W → State T X
  state_by u = record { tokens = map (changed_to meant_content) u.tokens; cells = map cell_by u.cells }

-- ---- a run

-- what an effect over handles adds to the table, and asks for
pub record Step (F T X W : Type 0) : Type 0 where
  pub added : List X
  pub asked : Effect F T W

-- the table after a firing, and what comes of it
pub record Tried (F T X W : Type 0) : Type 0 where
  pub table : List X
  pub result : Fired F T W

-- the table after a run, and its end
pub record Tabled (F T X W : Type 0) : Type 0 where
  pub table : List X
  pub ended : End F T W

-- matching and commit are those of the machine over handles, whose own effect is of no account
module _ (M : Machine) (W : Type 0) (effect : M.Tag → W → W → Effect M.Refusal M.Tag W) (signal : W)
    (step : List M.Value → M.Tag → W → W → Step M.Refusal M.Tag M.Value W) where
  abbrev N : Machine
  N = Over M W effect signal

  abbrev Table : Type 0
  Table = List M.Value

  abbrev pub TriedOf : Type 0
  TriedOf = Tried M.Refusal M.Tag M.Value W

  abbrev pub TabledOf : Type 0
  TabledOf = Tabled M.Refusal M.Tag M.Value W

  -- matching, operation over handles, commit; a refused firing may leave an entry that nobody uses
  abbrev pub try_step : Table → StateOf N → M.Tag → Step M.Refusal M.Tag M.Value W → TriedOf
  try_step t u τ s = record { table = t ++ s.added; result = commit N u τ s.asked }

  unfoldable pub fire_on : Table → StateOf N → M.Tag → TriedOf
  fire_on t u τ = on_option (operands N (look N u) τ) (record { table = t; result = not_fired M.second_token }) (λ p. try_step t u τ (step t τ p.left p.right))

  abbrev pub tabled : Table → EndOf N → TabledOf
  tabled t e = record { table = t; ended = e }

  abbrev pub after_on : (f : ℕ) → Table → StateOf N → Activity M.Tag → FiredOf N → (StateOf N → TabledOf) → TabledOf
  after_on f t u a (fired x) next = next x
  after_on f t u a (not_fired r) next = tabled t (end N (refused r a.place) f u)

  -- by a chooser, as `run_from`; f firings were done before
  unfoldable pub run_on : Chooser N → (budget f : ℕ) → Table → StateOf N → TabledOf
  run_on choose zero f t u = tabled t (rests_at N f u)
  run_on choose (suc budget) f t u =
      on_chosen (choose f u) (λ o. tabled t (end N o f u)) (λ a.
      let x = fire_on t u a.tag in
      after_on f x.table u a x.result (λ y. run_on choose budget (suc f) x.table y))
