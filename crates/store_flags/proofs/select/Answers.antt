-- `store_flags::select` meets its contract. Assumes nothing.
use Prim.Native.Nat.{ℕ, ◌+◌, ◌*◌, ◌<◌}
use mathlib.Core.Path.{◌≡◌, sym, ap, ◌∙◌}
use native.Mathlib.Omega.{arith}
use lib.ListN.{drop}
use Rattle.store_flags.specs.Flags.{ones, place}
use Rattle.store_flags.proofs.Laws.{block_passed, none_left, places_le}
use Rattle.store_flags.proofs.Minus.{among, selected}
use Rattle.store_flags.proofs.select.Goals as goal

pub loop-g-init : goal.loop-g-init
loop-g-init g c =
    record { left = omega (arith, places_le 0 (g.S.FlagWords.flags c.args.set.now), c.requires); place = omega arith; list = λ h. absurd (omega arith) }

pub select_block-requires : goal.select_block-requires
select_block-requires g c =
    let l = c.loop-g in
    let e : l.g * 8 * 64 ≡ l.g * 512 = omega arith in
    (omega (arith, c.loop-g-test.true), rw e l.invariant.left)

pub returns-then-left-n : goal.returns-then-left-n
returns-then-left-n g c =
    let l = c.loop-g in
    let f = g.S.FlagWords.flags c.args.set.now in
    let m : l.g * 8 * 64 ≡ l.g * 512 = omega arith in
    let list = c.ones_in_group-n.ensures.list in
    selected list c.args.k (among list c.args.k c.requires) c.select_block.result
    (c.select_block.ensures ∙ ap (λ (q : ℕ). q + place l.left (drop q f)) m ∙ sym l.invariant.place)

pub loop-g-preserved : goal.loop-g-preserved
loop-g-preserved g c =
    let l = c.loop-g in
    let n = c.ones_in_group-n in
    let f = g.S.FlagWords.flags c.args.set.now in
    let p = block_passed 512 f l.g l.left n.result (omega (arith, n.ensures.list.size, c.loop-g-test.true)) n.ensures.value c.if-left-n.false l.invariant.left in
    record { left = p.0; place = l.invariant.place ∙ p.1; list = λ h. n.ensures.list }

pub returns : goal.returns
returns g c =
    let l = c.loop-g in
    let list = l.invariant.list (omega (arith, c.loop-g-test.false)) in
    absurd (none_left (g.S.FlagWords.flags c.args.set.now) (l.g * 512) l.left (omega (arith, list.size, c.loop-g-test.false)) l.invariant.left)
