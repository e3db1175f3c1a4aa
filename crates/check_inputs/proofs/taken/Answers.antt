-- `check_inputs::taken` meets its contract. The invariant: none of the first j tokens stands there. Assumes nothing.
use Prim.Native.Nat.{◌+◌}
use native.Mathlib.Omega.{arith}
use mathlib.Core.Path.{◌≡◌, refl, sym, ◌∙◌}
use Rattle.record.specs.TokensAndTags.{stands_at}
use Rattle.check_inputs.specs.Inputs.{input_tokens}
use Rattle.check_inputs.proofs.Tokens.{any_token, any_more}
use Rattle.check_inputs.proofs.taken.Goals as goal

pub loop-j-init : goal.loop-j-init
loop-j-init c = (omega arith, refl)

pub returns-then-stands_at : goal.returns-then-stands_at
returns-then-stands_at c =
    let l = c.loop-j in
    let f = stands_at c.args.tag c.args.port in
    let t = any_token f c.args.inputs.now l.j (omega (arith, c.requires)) l.invariant.1 c.read.ensures c.stands_at.ensures in
    sym (any_more f (input_tokens c.args.inputs.now) (l.j + 1) c.args.n (omega arith) (t ∙ c.if-stands_at.true))

pub loop-j-preserved : goal.loop-j-preserved
loop-j-preserved c =
    let l = c.loop-j in
    let f = stands_at c.args.tag c.args.port in
    let t = any_token f c.args.inputs.now l.j (omega (arith, c.requires)) l.invariant.1 c.read.ensures c.stands_at.ensures in
    (omega arith, t ∙ c.if-stands_at.false)

pub returns : goal.returns
returns c =
    let l = c.loop-j in
    let e : l.j ≡ c.args.n = omega arith in
    sym (rw e at l.invariant.1)
