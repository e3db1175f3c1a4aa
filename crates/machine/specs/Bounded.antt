-- 02, R-9: a run in which some activities are held back. Which ones is left open: `held` is any rule of the state and the activity, and
-- the loop bound is one. What holds of such a run, for every rule, is stated and proved in proofs/Bounded. Assumes nothing.
use Rattle.std.specs.Prelude.{◌≡◌, ◌⊎◌, Bool, false, cond, ℕ, ◌+◌, get_or}
use mathlib.Core.List.{List, [], ◌∷◌, Memᴰ}
use Rattle.machine.specs.Machine.{Machine, Activity, Outcome, on_list}
use Rattle.machine.specs.Machine.{StateOf, EndOf, enabled, Choice, end, ending}
use Rattle.machine.specs.Orders.{Completed, Hung}
use Rattle.machine.specs.Choosers.{takes, ends, Chooser, run_from, log_from}

module _ (M : Machine) where
  abbrev pub Held : Type 0
  Held = StateOf M → Activity M.Tag → Bool

  abbrev pub without_held : (Activity M.Tag → Bool) → List (Activity M.Tag) → List (Activity M.Tag)
  without_held held [] = []
  without_held held (a ∷ more) = cond (held a) (without_held held more) (a ∷ without_held held more)

  abbrev pub free_of : Held → StateOf M → List (Activity M.Tag)
  free_of held s = without_held (held s) (enabled M s)

  -- "Picks count without held activities."
  abbrev pub by_free : Held → Choice M → (picks : List ℕ) → Chooser M
  by_free held choose picks n s = on_list (free_of held s) (ends (ending M s)) (λ a more. takes (choose s (get_or picks n 0) a more))

  -- "If only held ones remain, the answer is hung, at a used-up budget too.": a run that stops where none is free has the outcome of a run that rests there
  abbrev pub outcome_held : Held → EndOf M → Outcome M.Refusal
  outcome_held held e = on_list (free_of held e.state) (ending M e.state) (λ a more. e.outcome)

  -- and f firings were done before
  abbrev pub settled : Held → (f : ℕ) → EndOf M → EndOf M
  settled held f e = end M (outcome_held held e) (f + e.firings) e.state

  abbrev pub run_bounded : Held → Choice M → (budget : ℕ) → (picks : List ℕ) → (f : ℕ) → StateOf M → EndOf M
  run_bounded held choose budget picks f s = settled held f (run_from M (by_free held choose picks) budget 0 s)

  abbrev pub log_bounded : Held → Choice M → (budget : ℕ) → (picks : List ℕ) → StateOf M → List M.Tag
  log_bounded held choose budget picks s = log_from M (by_free held choose picks) budget 0 s

  -- "completes, or hangs with no held activity left"
  abbrev pub LeavesNoneHeldOfMachine : Held → EndOf M → Type 0
  LeavesNoneHeldOfMachine held e = Completed e.outcome ⊎ (Hung e.outcome × ((a : Activity M.Tag) → Memᴰ a (enabled M e.state) → held e.state a ≡ false))
