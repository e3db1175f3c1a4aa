-- `profile::Due::fill` meets its contract. Assumes nothing.
use native.Mathlib.Omega.{arith}
use lib.ListN.{length-set}
use Rattle.store_flags.specs.Flags.{places}
use Rattle.profile.proofs.Places.{copied_next}
use Rattle.profile.proofs.Due.fill.Goals as goal

pub returns-then-count-eq1 : goal.returns-then-count-eq1
returns-then-count-eq1 c =
    record {
      counted = c.enabled_count-count.ensures;
      written = λ k h. copied_next 0 c.enabled_at.result (places c.args.flags.now) c.args.self.now.places (omega arith) c.enabled_at.ensures.0 (λ j g. absurd (omega arith)) k (omega (arith, h, c.if-count-eq1.true));
      size = simp length-set (omega arith);
    }

pub returns-else-count-ne0 : goal.returns-else-count-ne0
returns-else-count-ne0 c = record { counted = c.enabled_count-count.ensures; written = λ k h. absurd (omega (arith, h, c.if-count-ne0.false)); size = omega arith }
