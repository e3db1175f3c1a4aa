-- `expression::check::mark` meets its contract. Assumes nothing.
use mathlib.Core.Path.{sym, ◌∙◌}
use Rattle.expression.proofs.Marks.{mark_variable, mark_operation}
use Rattle.expression.proofs.check.mark.Goals as goal

pub returns-then-is_variable : goal.returns-then-is_variable
returns-then-is_variable c ts m = let a = c.args in mark_variable ts a.t a.named.now m (sym c.is_variable.ensures ∙ c.if-is_variable.true)

pub bounds-named-left : goal.bounds-named-left
bounds-named-left c = (c.requires (rw (sym c.is_variable.ensures ∙ c.if-is_variable.false))).0

pub bounds-named-right : goal.bounds-named-right
bounds-named-right c = (c.requires (rw (sym c.is_variable.ensures ∙ c.if-is_variable.false))).1

pub returns : goal.returns
returns c ts m =
    let a = c.args in
    let v = sym c.is_variable.ensures ∙ c.if-is_variable.false in
    let inside = c.requires (rw v) in
    mark_operation ts a.t a.named.now m v inside.0 inside.1
