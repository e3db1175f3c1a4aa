-- `store_flags::select_in` meets its contract. The loop's invariant: of those that are not taken away yet, as many stand before the one sought as there
-- are turns left. Assumes nothing.
use Prim.Native.Nat.{ℕ, suc, ◌+◌, ◌-◌}
use mathlib.Core.Path.{◌≡◌, refl, sym, ap, ◌∙◌}
use native.Mathlib.Omega.{arith}
use lib.ListN.{set}
use Rattle.store_flags.specs.Flags.{ones, place, in_word}
use Rattle.store_flags.proofs.Laws.{place_one, place_rest}
use Rattle.store_flags.proofs.Digits.{word_binary, word_positive}
use Rattle.store_flags.proofs.select_in.Goals as goal

pub highest-requires : goal.highest-requires
highest-requires c = word_positive c.args.word (omega (arith, c.requires))

pub returns-then-k-on : goal.returns-then-k-on
returns-then-k-on c =
    let e : ones (in_word c.args.word) - 1 ≡ c.args.k = omega (arith, c.requires, c.if-k-on.true) in
    c.highest.ensures ∙ ap (λ (m : ℕ). place m (in_word c.args.word)) e

pub loop-init : goal.loop-init
loop-init c =
    let z : c.args.k - 0 ≡ c.args.k = omega arith in
    (omega (arith, c.requires), ap (λ (m : ℕ). place m (in_word c.args.word)) z)

pub lowest-requires : goal.lowest-requires
lowest-requires c = word_positive c.loop.rest (omega (arith, c.loop.invariant.0))

pub lowered-rest-requires : goal.lowered-rest-requires
lowered-rest-requires c =
    let l = c.loop in
    (c.lowest.ensures.1, rw c.lowest.ensures.0 (place_one 0 (in_word l.rest) (word_binary l.rest) (omega (arith, l.invariant.0))))

pub loop-preserved : goal.loop-preserved
loop-preserved c =
    let l = c.loop in
    let left = c.args.k - (l.counter + 1) in
    let e : in_word c.lowered-rest.result ≡ set (in_word l.rest) (place 0 (in_word l.rest)) 0 = c.lowered-rest.ensures ∙ ap (λ (m : ℕ). set (in_word l.rest) m 0) c.lowest.ensures.0 in
    let d : suc left ≡ c.args.k - l.counter = omega (arith, c.loop-test.true) in
    let p = place_rest left (in_word l.rest) (word_binary l.rest) (omega (arith, d, l.invariant.0)) in
    rw e (p.0, p.1 ∙ ap (λ (m : ℕ). place m (in_word l.rest)) d ∙ l.invariant.1)

pub lowest-requires-2 : goal.lowest-requires-2
lowest-requires-2 c = word_positive c.loop.rest (omega (arith, c.loop.invariant.0))

pub returns : goal.returns
returns c =
    let l = c.loop in
    let z : c.args.k - l.counter ≡ 0 = omega (arith, c.loop-test.false) in
    c.lowest-2.ensures.0 ∙ ap (λ (m : ℕ). place m (in_word l.rest)) (sym z) ∙ l.invariant.1
