-- The engine's run by the operation over ranges is the machine's run over handles (`end_handles`). Assumes nothing.
use Prim.Native.Nat.{ℕ, zero, suc, ◌/◌}
use mathlib.Core.Path.{◌≡◌, refl}
use mathlib.Core.List.{List, ◌++◌}
use mathlib.Core.Option.{Option, none, some}
use lib.ListN.{length}
use lib.IntN.{ℤ, pos}
use Rattle.record.specs.declared.instruction.Instruction.{Instruction}
use Rattle.record.specs.Widths.{token_width, cell_width}
use Rattle.arithmetic.specs.declared.Range.{Range}
use Rattle.machine.specs.Machine.{Machine, StateOf, FiredOf, Effect, Operands, Activity, fired, not_fired, refuse, on_option, look, operands, commit, end}
use Rattle.machine.specs.Choosers.{Chosen, takes, ends, on_chosen, Chooser}
use Rattle.machine.specs.InStep.{Over}
use Rattle.machine.specs.Handles.{Step, Tried, Tabled, try_step, fire_on, tabled, after_on, run_on}
use Rattle.rules.specs.InstructionSet.{effect_in}
use Rattle.rules.specs.RangeSet.{range_machine_of}
use Rattle.rules.specs.RangeHandles.{step_in}
use Rattle.abstraction.specs.Tables.{arrays_in}
use Rattle.fire.specs.Running.{state_in}
use Rattle.engine.specs.declared.choice.Order.{Order}
use Rattle.engine.specs.Turns.{chooser_for}
use Rattle.engine.specs.Keeping.{Kept, after_kept, run_keeping, end_keeping}
use Rattle.range_fire.specs.Ranges.{ranges_ask, ranges_keep}
use Rattle.range_engine.specs.Over.{end_over}

module _ (M : Machine) (W : Type 0) (effect : M.Tag → W → W → Effect M.Refusal M.Tag W) (signal : W)
    (step : List M.Value → M.Tag → W → W → Step M.Refusal M.Tag M.Value W) where
  abbrev N : Machine
  N = Over M W effect signal

  abbrev Table : Type 0
  Table = List M.Value

  abbrev asks : List M.Value → M.Tag → W → W → Effect M.Refusal M.Tag W
  asks t τ a b = (step t τ a b).asked

  abbrev keeps : List M.Value → M.Tag → W → W → List M.Value
  keeps t τ a b = t ++ (step t τ a b).added

  abbrev kept_of : Tabled M.Refusal M.Tag M.Value W → Kept (List M.Value) M.Refusal M.Tag W
  kept_of x = record { kept = x.table; ended = x.ended }

  abbrev kept_run : Chooser (Over M W effect signal) → (b f : ℕ) → List M.Value → StateOf (Over M W effect signal) → Kept (List M.Value) M.Refusal M.Tag W
  kept_run = run_keeping (Over M W effect signal) asks keeps

  module _ (c : Chooser (Over M W effect signal)) (b f : ℕ) (u : StateOf (Over M W effect signal))
      (later : (l : List M.Value) (z : StateOf (Over M W effect signal)) → kept_run c b (suc f) l z ≡ kept_of (run_on M W effect signal step c b (suc f) l z)) where
    went : (a : Activity M.Tag) (l : List M.Value) (r : FiredOf (Over M W effect signal))
        → after_kept (Over M W effect signal) asks keeps f l u a r (λ z. kept_run c b (suc f) l z) ≡ kept_of (after_on M W effect signal step f l u a r (λ z. run_on M W effect signal step c b (suc f) l z))
    went a l (fired z) = later l z
    went a l (not_fired r) = refl

    -- what is tabled, of the operands that there are
    abbrev tries : (t : List M.Value) → Activity M.Tag → Option (Operands W) → Tried M.Refusal M.Tag M.Value W
    tries t a q = on_option q (record { table = t; result = not_fired M.second_token }) (λ p. try_step M W effect signal step t u a.tag (step t a.tag p.left p.right))

    abbrev keeps_by : (t : List M.Value) → Activity M.Tag → Option (Operands W) → List M.Value
    keeps_by t a q = on_option q t (λ p. keeps t a.tag p.left p.right)

    abbrev asks_by : (t : List M.Value) → Activity M.Tag → Option (Operands W) → Effect M.Refusal M.Tag W
    asks_by t a q = on_option q (refuse M.second_token) (λ p. asks t a.tag p.left p.right)

    took : (t : List M.Value) (a : Activity M.Tag) (q : Option (Operands W))
        → after_kept (Over M W effect signal) asks keeps f (keeps_by t a q) u a (commit (Over M W effect signal) u a.tag (asks_by t a q)) (λ z. kept_run c b (suc f) (keeps_by t a q) z)
        ≡ kept_of (after_on M W effect signal step f (tries t a q).table u a (tries t a q).result (λ z. run_on M W effect signal step c b (suc f) (tries t a q).table z))
    unfolding commit
    took t a none = refl
    took t a (some p) = went a (t ++ (step t a.tag p.left p.right).added) (commit (Over M W effect signal) u a.tag (step t a.tag p.left p.right).asked)

  pub on_handles : (c : Chooser (Over M W effect signal)) (b f : ℕ) (t : List M.Value) (u : StateOf (Over M W effect signal)) → kept_run c b f t u ≡ kept_of (run_on M W effect signal step c b f t u)
  unfolding run_keeping run_on fire_on
  on_handles c zero f t u = refl
  on_handles c (suc b) f t u = go (λ l z. on_handles c b (suc f) l z) (c f u)
    where
      go : ((l : List M.Value) (z : StateOf (Over M W effect signal)) → kept_run c b (suc f) l z ≡ kept_of (run_on M W effect signal step c b (suc f) l z)) → (o : Chosen M.Refusal M.Tag)
          → ◌≡◌ {A = Kept (List M.Value) M.Refusal M.Tag W}
          (on_chosen o (λ o. record { kept = t; ended = end (Over M W effect signal) o f u }) (λ a.
          let q = operands (Over M W effect signal) (look (Over M W effect signal) u) a.tag in
          after_kept (Over M W effect signal) asks keeps f (on_option q t (λ p. keeps t a.tag p.left p.right)) u a (commit (Over M W effect signal) u a.tag (on_option q (refuse M.second_token) (λ p. asks t a.tag p.left p.right)))
          (λ z. kept_run c b (suc f) (on_option q t (λ p. keeps t a.tag p.left p.right)) z)))
          (kept_of (on_chosen o (λ o. tabled M W effect signal step t (end (Over M W effect signal) o f u)) (λ a.
          let x = fire_on M W effect signal step t u a.tag in
          after_on M W effect signal step f x.table u a x.result (λ z. run_on M W effect signal step c b (suc f) x.table z))))
      go later (ends o) = refl
      go later (takes a) = took c b f u later t a (operands (Over M W effect signal) (look (Over M W effect signal) u) a.tag)

-- over bytes
pub end_handles : (order : Order) (source : List ℕ) (g : List Instruction) (tables ledger cells : List ℕ) (used budget : ℕ) (t : List Range)
    → end_keeping ranges_ask ranges_keep order source g tables ledger cells used budget t
    ≡ record { kept = (end_over order source g tables ledger cells used budget t).table; ended = (end_over order source g tables ledger cells used budget t).ended }
end_handles order source g tables ledger cells used budget t =
    on_handles (range_machine_of g (arrays_in tables) (length ledger / token_width) (length cells / cell_width)) ℤ (effect_in g (arrays_in tables) (length cells / cell_width)) (pos 0) (step_in g (arrays_in tables) (length cells / cell_width))
    (chooser_for order source g tables ledger cells) budget 0 t (state_in ledger cells used)
