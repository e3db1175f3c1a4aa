-- `held::stands_old` meets its contract. The invariant: where the tag found so far stands, the first one stands; its iteration is a byte. The measure is the number of its path. Assumes nothing.
use mathlib.Core.Path.{sym, ap, ◌∙◌}
use mathlib.Core.Bool.{Bool, false}
use mathlib.Core.Option.{Option}
use Prim.Native.Nat.{ℕ, ◌+◌}
use lib.Dec.{leb}
use borrow.Author.Rules.{rules}
use borrow.Author.Tests.{not-true, not-false}
use Rattle.machine.specs.Machine.{on_option}
use Rattle.held.proofs.Standing.{stands_here, stands_nowhere, stands_above, caller_below}
use Rattle.record.proofs.Equality.{equal_paths}
use Rattle.held.proofs.stands_old.Goals as goal

abbrev old : (bound m : ℕ) → Option ℕ → Bool
old bound m o = on_option o false (λ j. leb (j + bound) m)

pub returns-in_default : goal.returns-in_default
returns-in_default c =
    let l = c.loop-path in
    let a = c.args in
    let other = sym (equal_paths l.at.path a.path) ∙ not-true _ (sym c.ne.ensures ∙ c.loop-path-test.true) in
    sym (ap (old a.bound a.m) (l.invariant.0 ∙ stands_nowhere a.path l.at other (sym c.leave.ensures ∙ c.in_default.is)))

pub loop-path-smaller : goal.loop-path-smaller
loop-path-smaller c = caller_below c.loop-path.at c.in-Some.caller.site _ (sym c.leave.ensures ∙ c.in-Some.is)

pub loop-path-preserved : goal.loop-path-preserved
loop-path-preserved c =
    let l = c.loop-path in
    let a = c.args in
    let other = sym (equal_paths l.at.path a.path) ∙ not-true _ (sym c.ne.ensures ∙ c.loop-path-test.true) in
    (l.invariant.0 ∙ stands_above a.path l.at other c.in-Some.caller.site _ (sym c.leave.ensures ∙ c.in-Some.is), search rules)

pub returns : goal.returns
returns c =
    let l = c.loop-path in
    let a = c.args in
    let same = sym (equal_paths l.at.path a.path) ∙ not-false _ (sym c.ne.ensures ∙ c.loop-path-test.false) in
    (sym (ap (old a.bound a.m) (l.invariant.0 ∙ stands_here a.path l.at same)))
