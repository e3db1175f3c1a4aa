-- `convert::accepts` meets its contract. Assumes nothing.
use Prim.Native.Nat.{◌+◌}
use borrow.Author.Rules.{rules}
use native.Mathlib.Omega.{arith}
use native.Mathlib.Nat.{mul-le-mul}
use mathlib.Core.Path.{sym, ◌∙◌}
use Rattle.rules.proofs.Accepted.{whole_bytes}
use Rattle.record.specs.TokensAndTags.{most_tokens}
use Rattle.convert.specs.Convert.{convert_accepted}
use Rattle.convert.proofs.accepts.Goals as goal

pub overflow_mul-result : goal.overflow_mul-result
unfolding convert_accepted
overflow_mul-result c =
    let few = (whole_bytes (8 + c.args.layout.rest) most_tokens c.args.old (sym c.whole.ensures ∙ c.if-whole.true)).1 in
    record { fits = omega (arith, mul-le-mul {m₁ = 16 + c.args.layout.rest} {n₂ = most_tokens} {m₂ = 28} few (omega arith)) }

pub returns-then-whole : goal.returns-then-whole
unfolding convert_accepted
returns-then-whole c = rw (sym c.whole.ensures ∙ c.if-whole.true)

pub returns-else-whole : goal.returns-else-whole
unfolding convert_accepted
returns-else-whole c = rw (sym c.whole.ensures, c.if-whole.false)
