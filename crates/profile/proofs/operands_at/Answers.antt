-- `profile::operands_at` meets its contract. Assumes nothing.
use mathlib.Core.Path.{ap}
use native.Mathlib.Omega.{arith}
use Rattle.record.specs.declared.token.Token.{Token}
use Rattle.store_enabled.specs.Enabled.{arity_of}
use Rattle.profile.proofs.operands_at.Goals as goal

pub returns-then-arity-eq2 : goal.returns-then-arity-eq2
returns-then-arity-eq2 c =
    let same = ap (λ (t : Token). arity_of c.args.tables.now t.tag) c.read-t.ensures in
    omega (arith, c.arity.ensures, c.if-arity-eq2.true, same)

pub returns-else-arity-eq2 : goal.returns-else-arity-eq2
returns-else-arity-eq2 c =
    let same = ap (λ (t : Token). arity_of c.args.tables.now t.tag) c.read-t.ensures in
    omega (arith, c.arity.ensures, c.if-arity-eq2.false, same, c.requires.1.0, c.requires.1.1)
