-- `engine::choice::name_at` meets its contract. Assumes nothing.
use mathlib.Core.Path.{◌∙◌}
use native.Mathlib.Omega.{arith}
use Rattle.engine.proofs.Choosing.{name_there, name_past}
use Rattle.engine.proofs.choice.name_at.Goals as goal

pub returns-then-log-i : goal.returns-then-log-i
returns-then-log-i c = name_past c.args.log.now c.args.i c.if-log-i.true

pub returns : goal.returns
returns c = c.name_at.ensures ∙ name_there c.args.log.now c.args.i (omega (arith, c.if-log-i.false))
