-- `engine::choice::order_under` meets its contract. Assumes nothing.
use mathlib.Core.Path.{refl}
use native.Mathlib.Omega.{arith}
use Rattle.engine.proofs.Accepting.{without_bound}
use Rattle.engine.proofs.choice.order_under.Goals as goal

pub returns-then-bound-ne0 : goal.returns-then-bound-ne0
returns-then-bound-ne0 c = (refl, omega (arith, c.if-bound-ne0.true))

pub returns : goal.returns
returns c =
    let a = c.args in
    let o = c.order_of in
    without_bound a.picks.now a.bound o.result o.ensures.0 o.ensures.1 c.if-bound-ne0.false
