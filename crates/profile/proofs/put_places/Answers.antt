-- `profile::put_places` meets its contract. The invariant: the first k places are written, and the other ones are left (proofs/Places). The measure: the
-- places and the words that are left. Assumes nothing.
use Prim.Native.Nat.{ℕ, ◌+◌, ◌*◌, ◌≤◌, ◌<◌}
use mathlib.Core.Path.{◌≡◌}
use native.Mathlib.Omega.{arith}
use lib.Count.{trailing_of_zero}
use lib.ListN.{length, length-set, get_or, set}
use Rattle.store_flags.specs.Flags.{places, place, ones, in_word}
use Rattle.store_flags.proofs.Laws.{ones_places, place_places}
use Rattle.store_flags.proofs.Digits.{word_lowest}
use Rattle.profile.proofs.Places.{Left, left_start, left_word, left_one, copied_next, places_few}
use Rattle.profile.proofs.put_places.Goals as goal
use Rattle.profile.proofs.put_places.Goals.{In-loop-k, Start}

pub loop-k-init : goal.loop-k-init
loop-k-init c =
    let all : length (places c.args.flags.now) ≡ ones c.args.flags.now = ones_places 0 c.args.flags.now c.word_at-rest.ensures.list.binary in
    let f = c.args.flags.now in
    let some : 0 < ones f = omega (arith, all, c.requires.1, c.requires.2) in
    let first : c.enabled_at-b.result ≡ place 0 f = omega (arith, c.enabled_at-b.ensures.0, place_places 0 0 f c.word_at-rest.ensures.list.binary some) in
    (left_start c.word_at-rest.ensures.list c.enabled_at-b.result c.word_at-rest.result some first c.word_at-rest.ensures.value, λ j h. absurd (omega arith), c.requires.0, omega arith)

pub offset_bounds-out-k : goal.offset_bounds-out-k
offset_bounds-out-k c =
    let few : c.args.count ≤ 2048 = omega (arith, c.requires.1, places_few c.args.flags.now c.word_at-rest.ensures.list) in
    let room : c.loop-k.k < 2048 = omega (arith, few, c.loop-k-test.true) in
    omega (arith, room)

pub bounds-out-k : goal.bounds-out-k
bounds-out-k c =
    let few : c.args.count ≤ 2048 = omega (arith, c.requires.1, places_few c.args.flags.now c.word_at-rest.ensures.list) in
    let room : c.loop-k.k < 2048 = omega (arith, few, c.loop-k-test.true) in
    omega (arith, room)

pub lowered-rest-requires : goal.lowered-rest-requires
lowered-rest-requires c =
    let all : length (places c.args.flags.now) ≡ ones c.args.flags.now = ones_places 0 c.args.flags.now c.word_at-rest.ensures.list.binary in
    let more : c.loop-k.k < ones c.args.flags.now = omega (arith, all, c.requires.1, c.loop-k-test.true) in
    let one : (p : ℕ) → p ≡ place 0 (in_word c.loop-k.rest) → p < 64 → let l = c.loop-k in let f = c.args.flags.now in (get_or (in_word l.rest) p 0 ≡ 1) × (l.b * 64 + p ≡ get_or (places f) l.k 0) × ((rest' : ℕ) → in_word rest' ≡ set (in_word l.rest) p 0 → Left f l.b rest' (l.k + 1)) = λ p e h. let l = c.loop-k in
    let o = left_one c.word_at-rest.ensures.list l.b l.rest l.k l.invariant.0 more p e h in
    (o.0, omega (arith, o.1, place_places 0 l.k c.args.flags.now c.word_at-rest.ensures.list.binary more), o.2) in
    (c.lowest-p.ensures.1, (one c.lowest-p.result c.lowest-p.ensures.0 c.lowest-p.ensures.1).0)

pub overflow_add-k : goal.overflow_add-k
overflow_add-k c =
    let few : c.args.count ≤ 2048 = omega (arith, c.requires.1, places_few c.args.flags.now c.word_at-rest.ensures.list) in
    let room : c.loop-k.k < 2048 = omega (arith, few, c.loop-k-test.true) in
    omega (arith, room)

pub loop-k-preserved-then-rest-gt0 : goal.loop-k-preserved-then-rest-gt0
loop-k-preserved-then-rest-gt0 c =
    let all : length (places c.args.flags.now) ≡ ones c.args.flags.now = ones_places 0 c.args.flags.now c.word_at-rest.ensures.list.binary in
    let few : c.args.count ≤ 2048 = omega (arith, c.requires.1, places_few c.args.flags.now c.word_at-rest.ensures.list) in
    let more : c.loop-k.k < ones c.args.flags.now = omega (arith, all, c.requires.1, c.loop-k-test.true) in
    let room : c.loop-k.k < 2048 = omega (arith, few, c.loop-k-test.true) in
    let one : (p : ℕ) → p ≡ place 0 (in_word c.loop-k.rest) → p < 64 → let l = c.loop-k in let f = c.args.flags.now in (get_or (in_word l.rest) p 0 ≡ 1) × (l.b * 64 + p ≡ get_or (places f) l.k 0) × ((rest' : ℕ) → in_word rest' ≡ set (in_word l.rest) p 0 → Left f l.b rest' (l.k + 1)) = λ p e h. let l = c.loop-k in
    let o = left_one c.word_at-rest.ensures.list l.b l.rest l.k l.invariant.0 more p e h in
    (o.0, omega (arith, o.1, place_places 0 l.k c.args.flags.now c.word_at-rest.ensures.list.binary more), o.2) in
    let l = c.loop-k in
    let p = c.lowest-p in
    let o = one p.result p.ensures.0 p.ensures.1 in
    let fits : l.k < length l.out = omega (arith, l.invariant.2, room) in
    (o.2 c.lowered-rest.result c.lowered-rest.ensures, copied_next l.k _ (places c.args.flags.now) l.out fits o.1 l.invariant.1, simp length-set l.invariant.2, omega (arith, c.loop-k-test.true))

pub word_at-rest-requires-else-rest-gt0 : goal.word_at-rest-requires-else-rest-gt0
word_at-rest-requires-else-rest-gt0 c =
    let all : length (places c.args.flags.now) ≡ ones c.args.flags.now = ones_places 0 c.args.flags.now c.word_at-rest.ensures.list.binary in
    let more : c.loop-k.k < ones c.args.flags.now = omega (arith, all, c.requires.1, c.loop-k-test.true) in
    let l = c.loop-k in
    let e : l.rest ≡ 0 = omega (arith, c.if-rest-gt0.false) in
    let none : 64 ≤ place 0 (in_word l.rest) = rw e (omega (arith, word_lowest 0, trailing_of_zero 64)) in
    (left_word c.word_at-rest.ensures.list l.b l.rest l.k l.invariant.0 more none).0

pub loop-k-preserved : goal.loop-k-preserved
loop-k-preserved c =
    let all : length (places c.args.flags.now) ≡ ones c.args.flags.now = ones_places 0 c.args.flags.now c.word_at-rest.ensures.list.binary in
    let more : c.loop-k.k < ones c.args.flags.now = omega (arith, all, c.requires.1, c.loop-k-test.true) in
    let l = c.loop-k in
    let e : l.rest ≡ 0 = omega (arith, c.if-rest-gt0.false) in
    let none : 64 ≤ place 0 (in_word l.rest) = rw e (omega (arith, word_lowest 0, trailing_of_zero 64)) in
    let next = left_word c.word_at-rest.ensures.list l.b l.rest l.k l.invariant.0 more none in
    (next.1 c.word_at-rest-else-rest-gt0.result c.word_at-rest-else-rest-gt0.ensures.value, l.invariant.1, l.invariant.2, l.invariant.3)

pub returns : goal.returns
returns c =
    let l = c.loop-k in
    record {
      counted = c.requires.1;
      written = λ k h. l.invariant.1 k (omega (arith, c.loop-k-test.false));
      size = l.invariant.2;
    }
