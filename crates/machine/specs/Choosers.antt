-- A run by a chooser. In each turn a chooser looks at the state and at its own source, picks, the names of a log or places, and gives an activity to fire or the
-- run's end. Runs by picks, replays and ideal steps are cases of it, as proofs/Choosers says, and what is said of firing sequences holds of all of them
-- at once. Assumes nothing.
use Rattle.std.specs.Prelude.{List, [], ◌∷◌, ℕ, zero, suc, get_or}
use Rattle.std.proofs.Math.Option.{Option, none, some}
use Rattle.machine.specs.Machine.{Machine, Activity, Outcome, budget_spent, refused, on_list}
use Rattle.machine.specs.Machine.{StateOf, EndOf, enabled, fire, Choice, end, after, ending}
use Rattle.machine.specs.Sequences.{if_fired}
use Rattle.machine.specs.Replay.{named_in}

-- what a chooser gives
pub data Chosen (R T : Type 0) : Type 0 where
  takes : Activity T → Chosen R T
  ends : Outcome R → Chosen R T

abbrev pub on_chosen : {R T A : Type 0} → Chosen R T → (Outcome R → A) → (Activity T → A) → A
on_chosen (takes a) end next = next a
on_chosen (ends o) end next = end o

module _ (M : Machine) where
  -- by the number of the turn, which is the number of firings before it, and the state
  abbrev pub Chooser : Type 0
  Chooser = (turn : ℕ) → StateOf M → Chosen M.Refusal M.Tag

  -- no firing is left to do
  abbrev pub rests_at : (f : ℕ) → StateOf M → EndOf M
  rests_at f s = on_list (enabled M s) (end M (ending M s) f s) (λ a more. end M budget_spent f s)

  -- f firings were done before
  unfoldable pub run_from : Chooser → (budget f : ℕ) → StateOf M → EndOf M
  run_from choose zero f s = rests_at f s
  run_from choose (suc budget) f s = on_chosen (choose f s) (λ o. end M o f s) (λ a. after M f s a (fire M s a.tag) (λ x. run_from choose budget (suc f) x))

  -- its log
  unfoldable pub log_from : Chooser → (budget f : ℕ) → StateOf M → List M.Tag
  log_from choose zero f s = []
  log_from choose (suc budget) f s = on_chosen (choose f s) (λ o. []) (λ a. if_fired (fire M s a.tag) (λ x. a.tag ∷ log_from choose budget (suc f) x) [])

  -- ---- by picks

  -- 02, R-9, leaves held activities out of what is chosen from
  abbrev pub by_pick : Choice M → (picks : List ℕ) → Chooser
  by_pick choose picks f s = on_list (enabled M s) (ends (ending M s)) (λ a more. takes (choose s (get_or picks f 0) a more))

  -- ---- by names: `not_enabled` is the refusal of a turn that finds none

  abbrev pub or_refused : M.Refusal → (turn : ℕ) → Option (Activity M.Tag) → Chosen M.Refusal M.Tag
  or_refused r f none = ends (refused r f)
  or_refused r f (some a) = takes a

  module _ (not_enabled : M.Refusal) where
    abbrev pub by_name : (names : List (Option M.Tag)) → Chooser
    by_name names f s = or_refused not_enabled f (named_in M (get_or names f none) (enabled M s))
