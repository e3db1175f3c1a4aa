-- `store_flags::Free::first` meets its contract. Assumes nothing.
use Prim.Native.Nat.{ℕ, ◌+◌, ◌*◌, ◌<◌}
use mathlib.Core.Path.{◌≡◌, sym, ap, ◌∙◌}
use native.Mathlib.Omega.{arith}
use lib.ListN.{length, drop}
use borrow.Author.Tests.{eqb-true, eqb-false}
use Rattle.store_flags.specs.Flags.{ones, places, minus, in_word}
use Rattle.store_flags.proofs.Laws.{ones_places}
use Rattle.store_flags.proofs.Digits.{word_positive}
use Rattle.store_flags.proofs.Minus.{first_from, word_passed, word_found, none_behind, none_whole}
use Rattle.store_flags.proofs.Free.first.Goals as goal

pub returns-then-is_empty : goal.returns-then-is_empty
returns-then-is_empty c =
    let f = c.self.inside.flags.now in
    rw (← c.self.view_is)
    (none_whole f c.self.inside.held.now (omega (arith, ones_places 0 f c.is_empty.ensures.list.binary, eqb-true (length (places f)) 0 (sym c.is_empty.ensures.value ∙ c.if-is_empty.true))))

pub first_word-b-requires : goal.first_word-b-requires
first_word-b-requires c =
    let f = c.self.inside.flags.now in
    omega (arith, ones_places 0 f c.is_empty.ensures.list.binary, eqb-false (length (places f)) 0 (sym c.is_empty.ensures.value ∙ c.if-is_empty.false))

pub loop-b-init : goal.loop-b-init
loop-b-init c =
    let f = c.self.inside.flags.now in
    rw (← c.self.view_is) record {
      all = first_from f c.self.inside.held.now c.first_word-b.result (omega (arith, c.first_word-b.ensures.first));
      list = λ h. absurd (omega arith);
    }

pub lowest-requires : goal.lowest-requires
lowest-requires c = word_positive _ (let z = eqb-false (ones (in_word c.word-word.result)) 0 (sym c.has_none.ensures ∙ c.if-not-has_none.true) in omega arith)

pub returns-then-not-has_none : goal.returns-then-not-has_none
returns-then-not-has_none c =
    let w = c.word-word in
    let some : 0 < ones (in_word w.result) = let z = eqb-false (ones (in_word w.result)) 0 (sym c.has_none.ensures ∙ c.if-not-has_none.true) in omega arith in
    let l = c.loop-b in
    word_found w.ensures.list l.b w.result c.loop-b-test.true w.ensures.value some l.invariant.all _ (ap (λ (x : ℕ). l.b * 64 + x) c.lowest.ensures.0)

pub loop-b-preserved : goal.loop-b-preserved
loop-b-preserved c =
    let l = c.loop-b in
    let w = c.word-word in
    record {
      all = word_passed w.ensures.list l.b w.result w.ensures.value (eqb-true (ones (in_word w.result)) 0 (sym c.has_none.ensures ∙ c.if-not-has_none.false)) l.invariant.all;
      list = λ h. w.ensures.list;
    }

pub returns : goal.returns
returns c =
    let l = c.loop-b in
    let list = l.invariant.list (omega (arith, c.first_word-b.ensures.low, c.loop-b-test.false)) in
    none_behind list l.b (omega (arith, c.loop-b-test.false)) l.invariant.all
