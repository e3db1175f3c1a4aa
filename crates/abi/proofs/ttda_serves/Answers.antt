-- `abi::ttda_serves` meets its contract: the cache's decision as a number, from the promise of `plot_cache::serves`. Assumes nothing.
use mathlib.Core.Path.{◌≡◌, refl, sym, ◌∙◌}
use mathlib.Core.Bool.{Bool, true, false, cond}
use mir.Val.{bool_byte}
use Rattle.plot_cache.specs.Serves.{request}
use Rattle.abi.specs.Numbers.{limits_in}
use Rattle.abi.proofs.Serving.{by_answer, no_answer}
use Rattle.abi.proofs.ttda_serves.Goals as goal

pub returns-in_default : goal.returns-in_default
returns-in_default c =
    let a = c.args in
    let kept = request a.kept_graph.now a.kept_arrays.now a.kept_inputs.now a.kept_picks.now (limits_in a.kept_limits.now) in
    let asked = request a.graph.now a.arrays.now a.inputs.now a.picks.now (limits_in a.limits.now) in
    no_answer kept a.kept_answer a.kept_held asked (sym c.unpack.ensures ∙ c.in_default.is)

as_number : (b : Bool) → bool_byte b ≡ cond b 1 0
as_number true = refl
as_number false = refl

pub invariant_of-kept : goal.invariant_of-kept
invariant_of-kept c = (λ k. (c.type_inv.kept_graph k).fits, λ k. (c.type_inv.kept_inputs k).fits)

pub invariant_of-asked : goal.invariant_of-asked
invariant_of-asked c = (λ k. (c.type_inv.graph k).fits, λ k. (c.type_inv.inputs k).fits)

pub returns : goal.returns
returns c =
    let a = c.args in
    let kept = request a.kept_graph.now a.kept_arrays.now a.kept_inputs.now a.kept_picks.now c.limits_in.result in
    let asked = request a.graph.now a.arrays.now a.inputs.now a.picks.now c.limits_in-2.result in
    rw (← c.limits_in.ensures, ← c.limits_in-2.ensures)
    (by_answer kept a.kept_answer a.kept_held asked _ c.serves.result c.from.result (sym c.unpack.ensures ∙ c.in-Some.is) c.serves.ensures (c.from.ensures ∙ as_number c.serves.result))
