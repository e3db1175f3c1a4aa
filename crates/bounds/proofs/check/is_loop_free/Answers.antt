-- `bounds::check::is_loop_free` meets its contract. Assumes nothing.
use mathlib.Core.Path.{ap, ◌∙◌}
use mathlib.Core.Bool.{true, false, not}
use mathlib.Core.List.{[], ◌∷◌}
use borrow.Enum.Refused.{opened}
use Rattle.rules.specs.Needs.{loop_free}
use Rattle.check_fields.proofs.Operations.{loops_among}
use Rattle.bounds.proofs.check.is_loop_free.Goals as goal
use Rattle.bounds.proofs.check.is_loop_free.Goals.{in-Next, in_default}

pub returns : goal.returns
unfolding loop_free
returns c =
    let n = c.args.r.code in
    elim c.match-matches.branch [
      | in-Next w ↦ ap not (w.matches-is ∙ loops_among n true (6 ∷ 7 ∷ 8 ∷ []) (rw c.from.ensures at w.in-Next.in-Next-own.keys1) tt)
      | in_default w ↦ ap not (w.matches-is ∙ loops_among n false (0 ∷ 1 ∷ 2 ∷ 3 ∷ 4 ∷ 5 ∷ 9 ∷ 10 ∷ 11 ∷ 12 ∷ 13 ∷ []) (rw c.from.ensures at (opened w.in_default.in_default-own.keys2)) tt)
    ]
