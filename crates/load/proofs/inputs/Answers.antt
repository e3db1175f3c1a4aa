-- `load::inputs` meets its contract. The loop's invariant: the first i inputs are in the ledger.
-- Assumes nothing.
use Prim.Native.Nat.{ℕ, ◌+◌, ◌/◌, ◌≤◌, ◌<◌}
use mathlib.Core.Path.{◌≡◌, sym, ap, ◌∙◌}
use mathlib.Core.Bool.{Bool, true, cond}
use mathlib.Core.List.{List, [], ◌∷◌, ◌++◌}
use native.Mathlib.Omega.{arith}
use native.Mathlib.Numerals.{add-one}
use lib.ListN.{length}
use Rattle.std.specs.Prelude.{is_some}
use Rattle.buffer.specs.Rows.{put_row}
use Rattle.record.specs.TokensAndTags.{tokens, token_at, encode_token, TokenFits, stands_at}
use Rattle.record.specs.declared.tag.Tag.{Tag}
use Rattle.record.specs.declared.token.Token.{Token}
use Rattle.record.specs.Widths.{token_width}
use Rattle.store_chains.specs.Search.{first_from, Free}
use Rattle.store_enabled.specs.Store.{StandingRecord}
use Rattle.store.specs.Matching.{Matching}
use Rattle.store.proofs.Laws.{matching_known}
use Rattle.store.proofs.Writing.{written_more, written_before, written_own, written_again, written_matching}
use Rattle.load.specs.Loaded.{ProperArrival, Alone}
use Rattle.load.proofs.Taken.{Taken, proper, alone, taken_none, taken_more, taken_all}
use Rattle.load.proofs.inputs.Goals as goal

-- input i is written behind those before it
module _ (tables ledger inputs links flags l : List ℕ) (i : ℕ) (w : Taken tables links flags ledger l inputs i) (left : i < length inputs / token_width) (fit : length inputs / token_width ≤ length ledger / token_width)
    (t : Token) (is : t ≡ token_at inputs i) (m : List ℕ) (put : m ≡ put_row token_width l i (encode_token t)) (fits : TokenFits t) (len : length m ≡ length l)
  where
    room : i < length l / token_width
    room = omega (arith, left, fit, w.size)

    matching : Matching tables links flags m i
    matching = written_matching l i t fits room m put len w.matching

    standing : ProperArrival tables t → StandingRecord tables m i t
    standing fitting = record {
      same = written_own l i t fits room m put;
      fits = fits;
      bytes = written_again l i t fits room m put;
      low = fitting.low;
      alone = fitting.alone;
    }

    free : Alone inputs → Free (tokens i m) t.tag t.port
    free apart = let none = alone inputs l i t is left w.taken apart in rw (written_before l i t fits room m put) none

    more : (links' flags' : List ℕ) → Matching tables links' flags' m (i + 1) → Taken tables links' flags' ledger m inputs (i + 1)
    more links' flags' entered =
        taken_more tables ledger inputs l i w.size w.taken w.rest left fit
        m (put ∙ ap (λ (u : Token). put_row token_width l i (encode_token u)) is) len
        (rw add-one (written_more l i t fits room m put ∙ ap (λ (u : Token). tokens i l ++ u ∷ []) is))
        links' flags' entered

-- none stands where it does
not_taken : (i : ℕ) (m : List ℕ) (t : Token) (tag : Tag) → tag ≡ t.tag → Free (tokens i m) t.tag t.port → is_some (first_from (stands_at tag t.port) 0 (tokens i m)) ≡ true → ⊥
not_taken i m t tag own none taken =
    let z : ◌≡◌ {A = ℕ} 0 1 = ap (λ (b : Bool). cond b 1 0) (sym (ap is_some none) ∙ rw own at taken) in
    absurd (omega arith)

pub loop-i-init : goal.loop-i-init
loop-i-init c =
    let a = c.args in
    taken_none a.tables.now a.ledger.now a.inputs.now a.store.now.links a.store.now.flags c.requires.0

pub read-t-requires : goal.read-t-requires
read-t-requires c = omega (arith, c.loop-i-test.true)

pub write-requires : goal.write-requires
write-requires c = omega (arith, c.loop-i-test.true, c.requires.1, c.loop-i.invariant.size)

pub seek-requires : goal.seek-requires
seek-requires c =
    let a = c.args in
    let q = c.requires in
    let l = c.loop-i in
    let t = c.read-t in
    let m = c.write.new.buf in
    let p = c.write.ensures in
    let left : l.i < length a.inputs.now / token_width = omega (arith, c.loop-i-test.true) in
    let len : length m ≡ length l.ledger = omega (arith, c.write.auto.buf) in
    let fitting = proper a.tables.now a.inputs.now l.i t.result t.ensures left q.3 in
    (matching_known (matching a.tables.now a.ledger.now a.inputs.now l.store.links l.store.flags l.ledger l.i l.invariant left q.1 t.result t.ensures m p.0 p.1 len), fitting.low)

pub shape_of-ledger-in_default : goal.shape_of-ledger-in_default
shape_of-ledger-in_default c =
    let a = c.args in
    let q = c.requires in
    let l = c.loop-i in
    let t = c.read-t in
    let m = c.write.new.buf in
    let p = c.write.ensures in
    let left : l.i < length a.inputs.now / token_width = omega (arith, c.loop-i-test.true) in
    let len : length m ≡ length l.ledger = omega (arith, c.write.auto.buf) in
    let fitting = proper a.tables.now a.inputs.now l.i t.result t.ensures left q.3 in
    let own : c.root-tag.result ≡ t.result.tag = c.root-tag.ensures ∙ sym fitting.root in
    absurd (not_taken l.i m t.result c.root-tag.result own (free a.tables.now a.ledger.now a.inputs.now l.store.links l.store.flags l.ledger l.i l.invariant left q.1 t.result t.ensures m p.0 p.1 len q.4) (rw c.in_default.is at c.seek.ensures))

pub returns-in_default : goal.returns-in_default
returns-in_default c =
    let a = c.args in
    let q = c.requires in
    let l = c.loop-i in
    let t = c.read-t in
    let m = c.write.new.buf in
    let p = c.write.ensures in
    let left : l.i < length a.inputs.now / token_width = omega (arith, c.loop-i-test.true) in
    let len : length m ≡ length l.ledger = omega (arith, c.write.auto.buf) in
    let fitting = proper a.tables.now a.inputs.now l.i t.result t.ensures left q.3 in
    let own : c.root-tag.result ≡ t.result.tag = c.root-tag.ensures ∙ sym fitting.root in
    absurd (not_taken l.i m t.result c.root-tag.result own (free a.tables.now a.ledger.now a.inputs.now l.store.links l.store.flags l.ledger l.i l.invariant left q.1 t.result t.ensures m p.0 p.1 len q.4) (rw c.in_default.is at c.seek.ensures))

pub enter-requires : goal.enter-requires
enter-requires c =
    let a = c.args in
    let q = c.requires in
    let l = c.loop-i in
    let t = c.read-t in
    let m = c.write.new.buf in
    let p = c.write.ensures in
    let left : l.i < length a.inputs.now / token_width = omega (arith, c.loop-i-test.true) in
    let len : length m ≡ length l.ledger = omega (arith, c.write.auto.buf) in
    let fitting = proper a.tables.now a.inputs.now l.i t.result t.ensures left q.3 in
    let own : c.root-tag.result ≡ t.result.tag = c.root-tag.ensures ∙ sym fitting.root in
    let o = rw own at (rw c.in-Some.is at c.seek.ensures) in
    (matching a.tables.now a.ledger.now a.inputs.now l.store.links l.store.flags l.ledger l.i l.invariant left q.1 t.result t.ensures m p.0 p.1 len, omega (arith, room a.tables.now a.ledger.now a.inputs.now l.store.links l.store.flags l.ledger l.i l.invariant left q.1 t.result t.ensures m p.0 p.1 len, len), omega (arith, left, q.1, q.2), standing a.tables.now a.ledger.now a.inputs.now l.store.links l.store.flags l.ledger l.i l.invariant left q.1 t.result t.ensures m p.0 p.1 len fitting, fitting.cell, o)

pub loop-i-smaller : goal.loop-i-smaller
loop-i-smaller c = omega (arith, c.loop-i-test.true)

pub loop-i-preserved : goal.loop-i-preserved
loop-i-preserved c =
    let a = c.args in
    let q = c.requires in
    let l = c.loop-i in
    let t = c.read-t in
    let m = c.write.new.buf in
    let p = c.write.ensures in
    let left : l.i < length a.inputs.now / token_width = omega (arith, c.loop-i-test.true) in
    let len : length m ≡ length l.ledger = omega (arith, c.write.auto.buf) in
    more a.tables.now a.ledger.now a.inputs.now l.store.links l.store.flags l.ledger l.i l.invariant left q.1 t.result t.ensures m p.0 p.1 len c.enter.new.store.links c.enter.new.store.flags c.enter.ensures

pub shape_of-ledger : goal.shape_of-ledger
shape_of-ledger c = omega (arith, c.loop-i.invariant.size)

pub returns : goal.returns
returns c =
    let a = c.args in
    let l = c.loop-i in
    let e : l.i ≡ length a.inputs.now / token_width = omega (arith, l.invariant.size) in
    rw e at (taken_all a.tables.now a.ledger.now a.inputs.now l.ledger l.i l.store.links l.store.flags l.invariant (omega (arith, e)))
