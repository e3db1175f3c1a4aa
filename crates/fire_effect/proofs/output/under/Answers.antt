-- `fire_effect::output::under` meets its contract. Assumes nothing.
use native.Mathlib.Omega.{arith}
use Rattle.fire_effect.proofs.Does.{both_used, few_used}
use Rattle.fire_effect.proofs.output.under.Goals as goal

pub returns-then-fanout-lt2 : goal.returns-then-fanout-lt2
returns-then-fanout-lt2 c =
    let a = c.args in
    let r = a.r in
    record {
      held = few_used r.fanout a.tag r.first r.second c.key_under-first.result c.key_under-second.result c.if-fanout-lt2.true c.key_under-first.ensures;
      counted = omega arith;
    }

pub returns : goal.returns
returns c =
    record {
      held = rw (both_used _ _ _ c.if-fanout-lt2.false, c.key_under-first.ensures, c.key_under-second.ensures);
      counted = omega arith;
    }
