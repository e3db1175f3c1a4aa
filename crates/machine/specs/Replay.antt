-- 02, R-7: "A replay takes graph, inputs, log, ledger and cells and fires exactly the named activities in turn." A log is here a list of
-- tags; the log of a run is `log_of` of specs/Sequences. What holds of a replay is stated and proved in proofs/Replay. Assumes nothing.
use Rattle.std.specs.Prelude.{List, [], ◌∷◌, ℕ, suc}
use Rattle.std.proofs.Math.Option.{Option, none, some}
use Rattle.machine.specs.Machine.{Machine, Activity, budget_spent, refused, when, on_option, on_list}
use Rattle.machine.specs.Machine.{StateOf, EndOf, enabled, fire, end, after, ending}

module _ (M : Machine) where
  -- the activity with this tag, among the enabled
  abbrev pub with_tag : M.Tag → List (Activity M.Tag) → Option (Activity M.Tag)
  with_tag τ [] = none
  with_tag τ (a ∷ more) = when (M.same τ a.tag) (some a) (with_tag τ more)

  -- a record names a tag; or none, if it "lacks its zero byte or isn't whole"
  abbrev pub named_in : Option M.Tag → List (Activity M.Tag) → Option (Activity M.Tag)
  named_in none l = none
  named_in (some τ) l = with_tag τ l

  -- `not_enabled` is refusal 20
  module _ (not_enabled : M.Refusal) where
    -- As many firings are done as there are records before one, so f is its place: "it stops the replay before that record, its place,
    -- ahead of the firing's own refusals". "If the log ends with an activity still enabled, the answer is spent."
    unfoldable pub replay : (log : List (Option M.Tag)) → (f : ℕ) → StateOf M → EndOf M
    replay [] f s = on_list (enabled M s) (end M (ending M s) f s) (λ a more. end M budget_spent f s)
    replay (name ∷ log) f s =
        on_option (named_in name (enabled M s)) (end M (refused not_enabled f) f s) (λ a. after M f s a (fire M s a.tag) (λ x. replay log (suc f) x))
