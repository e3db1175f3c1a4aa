-- `store_flags::select_block` meets its contract. Assumes nothing.
use Prim.Native.Nat.{ℕ, ◌+◌, ◌*◌, ◌<◌}
use mathlib.Core.Path.{◌≡◌, refl, sym, ap, ◌∙◌}
use mathlib.Core.List.{List}
use native.Mathlib.Omega.{arith}
use lib.ListN.{drop, take, take-append-drop}
use Rattle.store_flags.specs.Flags.{ones, place, in_word}
use Rattle.store_flags.proofs.Laws.{block_passed, none_left, place_lt, place_left}
use Rattle.store_flags.proofs.Digits.{word_size}
use Rattle.store_flags.proofs.select_block.Goals as goal

-- a one among those of a part that a word holds
in_part : (k : ℕ) (l : List ℕ) (w : ℕ) → in_word w ≡ take 64 l → k < ones (take 64 l) → place k l ≡ place k (in_word w)
in_part k l w e h = ap (place k) (sym (take-append-drop 64 l)) ∙ place_left k (take 64 l) (drop 64 l) h ∙ ap (place k) (sym e)

pub loop-b-init : goal.loop-b-init
loop-b-init g c = record { left = c.requires.1; place = refl; list = λ h. absurd (omega arith) }

pub select_in-requires : goal.select_in-requires
select_in-requires g c = (c.ones_in_word-n.ensures.value ∙ ap ones (sym c.word.ensures.value), c.if-left-n.true)

pub overflow_add-result : goal.overflow_add-result
overflow_add-result g c =
    let n = c.ones_in_word-n in
    let l = c.loop-b in
    let w = c.word.result in
    record { fits = omega (arith, c.select_in.ensures, word_size w, n.ensures.value, ap ones c.word.ensures.value, place_lt l.left (in_word w) (omega (arith, n.ensures.value, ap ones c.word.ensures.value, c.if-left-n.true)), c.loop-b-test.true) }

pub returns-then-left-n : goal.returns-then-left-n
returns-then-left-n g c =
    let l = c.loop-b in
    let f = g.S.FlagWords.flags c.args.set.now in
    let among : l.left < ones (take 64 (drop (l.b * 64) f)) = omega (arith, c.ones_in_word-n.ensures.value, c.if-left-n.true) in
    ap (λ (x : ℕ). l.b * 64 + x) (c.select_in.ensures ∙ sym (in_part l.left (drop (l.b * 64) f) c.word.result c.word.ensures.value among)) ∙ sym l.invariant.place

pub loop-b-preserved : goal.loop-b-preserved
loop-b-preserved g c =
    let l = c.loop-b in
    let n = c.ones_in_word-n in
    let f = g.S.FlagWords.flags c.args.set.now in
    let p = block_passed 64 f l.b l.left n.result (omega (arith, n.ensures.list.size, c.loop-b-test.true)) n.ensures.value c.if-left-n.false l.invariant.left in
    record { left = p.0; place = l.invariant.place ∙ p.1; list = λ h. n.ensures.list }

pub returns : goal.returns
returns g c =
    let l = c.loop-b in
    let list = l.invariant.list (omega (arith, c.requires.0, c.loop-b-test.false)) in
    absurd (none_left (g.S.FlagWords.flags c.args.set.now) (l.b * 64) l.left (omega (arith, list.size, c.loop-b-test.false)) l.invariant.left)
