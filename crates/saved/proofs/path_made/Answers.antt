-- `saved::path_made` meets its contract. The invariant: the levels that are left decide of the path that is left. Assumes nothing.
use Prim.Native.Nat.{ℕ, ◌-◌, ◌+◌, suc}
use native.Mathlib.Omega.{arith}
use mathlib.Core.Path.{◌≡◌, sym, ap, ◌∙◌}
use Rattle.record.specs.Calls.{most_levels}
use Rattle.rules.specs.Saved.{path_made}
use Rattle.saved.proofs.Laws.{no_level, bad_level, good_level, last_level}
use Rattle.saved.proofs.path_made.Goals as goal

pub returns-in_default : goal.returns-in_default
returns-in_default c g h =
    let l = c.loop in
    let s = c.args in
    sym (l.invariant g h ∙ no_level g s.sites.now h (most_levels - l.counter) l.at (sym c.leave.ensures ∙ c.in_default.is))

pub returns-then-not-has : goal.returns-then-not-has
returns-then-not-has c g h =
    let l = c.loop in
    let s = c.args in
    sym (l.invariant g h ∙ bad_level g s.sites.now h (most_levels - l.counter) l.at c.in-Some.caller.site _ (sym c.leave.ensures ∙ c.in-Some.is) (omega (arith, c.in-Some.known_told-1-own.given)) (sym c.has.ensures ∙ c.if-not-has.true))

pub loop-preserved : goal.loop-preserved
loop-preserved c =
    let l = c.loop in
    let s = c.args in
    let rest = most_levels - (l.counter + 1) in
    let k : most_levels - l.counter ≡ suc rest = omega (arith, c.loop-test.true) in
    λ g h. l.invariant g h ∙ ap (λ (m : ℕ). path_made g m l.at) k
    ∙ good_level g s.sites.now h rest l.at c.in-Some.caller.site _ (sym c.leave.ensures ∙ c.in-Some.is) (omega (arith, c.in-Some.known_told-1-own.given)) (sym c.has.ensures ∙ c.if-not-has.false)

pub returns : goal.returns
returns c g h =
    let l = c.loop in
    let z : most_levels - l.counter ≡ 0 = omega (arith, c.loop-test.false) in
    c.is_root.ensures ∙ sym (l.invariant g h ∙ ap (λ (m : ℕ). path_made g m l.at) z ∙ sym (last_level g l.at))
