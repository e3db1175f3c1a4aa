-- `fire_commit::admit::admit` meets its contract. Assumes nothing.
use Prim.Native.Nat.{◌<◌}
use mathlib.Core.Path.{◌≡◌, refl, sym, ◌∙◌}
use mathlib.Core.Bool.{Bool, true, false, ◌&&◌}
use lib.Dec.{eqb}
use borrow.Author.Tests.{lt-ltb, le-ltb, eq-eqb, ne_eqb}
use Rattle.record.specs.TokensAndTags.{decode_token, tokens, same_tag}
use Rattle.buffer.proofs.Tables.{length_rows}
use Rattle.record.specs.Widths.{token_width}
use Rattle.store_chains.specs.Slots.{Open}
use Rattle.fire_commit.specs.Admitted.{same_keys, is_taken, any_taken_of, admitted_of}
use Rattle.fire_effect.specs.declared.output.Key.{Key}
use Rattle.record.proofs.Equality.{equal_tags}
use Rattle.fire_commit.proofs.Slots.{low_first, low_second, open_two}
use Rattle.fire_commit.proofs.admit.admit.Goals as goal

turned : (x y : Bool) → (x && y) ≡ (y && x)
turned true true = refl
turned true false = refl
turned false true = refl
turned false false = refl

-- the derived equality of keys
equal_keys : (a b : Key) → (((eqb a.tag.path.low b.tag.path.low && eqb a.tag.path.high b.tag.path.high) && (eqb a.tag.iteration b.tag.iteration && eqb a.tag.instruction b.tag.instruction)) && eqb a.port b.port) ≡ same_keys a b
unfolding same_keys
equal_keys a b = rw (equal_tags a.tag b.tag) (turned (same_tag a.tag b.tag) (eqb a.port b.port))

pub returns-then-ledger-used : goal.returns-then-ledger-used
unfolding admitted_of any_taken_of is_taken
returns-then-ledger-used c =
    let a = c.args in
    rw (length_rows token_width decode_token a.used a.ledger.now, lt-ltb _ _ c.if-ledger-used.true)

pub returns-then-outputs-eq0 : goal.returns-then-outputs-eq0
unfolding admitted_of any_taken_of is_taken
returns-then-outputs-eq0 c =
    let a = c.args in
    (rw (length_rows token_width decode_token a.used a.ledger.now, le-ltb _ _ c.if-ledger-used.false, eq-eqb _ _ c.if-outputs-eq0.true), rw c.if-outputs-eq0.true tt)

pub seek-requires : goal.seek-requires
unfolding admitted_of any_taken_of is_taken
seek-requires c =
    let o = c.args.outputs in
    (c.requires.0, low_first o.first o.second o.count c.if-outputs-eq0.false c.requires.3)

pub returns-in_default : goal.returns-in_default
unfolding admitted_of any_taken_of is_taken
returns-in_default c =
    let a = c.args in
    let taken = rw c.in_default.is at c.seek.ensures in
    rw (length_rows token_width decode_token a.used a.ledger.now, le-ltb _ _ c.if-ledger-used.false, ne_eqb _ _ c.if-outputs-eq0.false, taken)

pub returns-then-outputs-eq1 : goal.returns-then-outputs-eq1
unfolding admitted_of any_taken_of is_taken
returns-then-outputs-eq1 c =
    let a = c.args in
    let o = rw c.in-Some.is at c.seek.ensures in
    (rw (length_rows token_width decode_token a.used a.ledger.now, le-ltb _ _ c.if-ledger-used.false, ne_eqb _ _ c.if-outputs-eq0.false, o.free, eq-eqb _ _ c.if-outputs-eq1.true), rw c.if-outputs-eq1.true o)

pub returns-then-eq : goal.returns-then-eq
unfolding admitted_of any_taken_of is_taken
returns-then-eq c =
    let a = c.args in
    let o = rw c.in-Some.is at c.seek.ensures in
    rw (length_rows token_width decode_token a.used a.ledger.now, le-ltb _ _ c.if-ledger-used.false, ne_eqb _ _ c.if-outputs-eq0.false, o.free, ne_eqb _ _ c.if-outputs-eq1.false, sym (c.eq.ensures ∙ equal_keys c.args.outputs.first c.args.outputs.second) ∙ c.if-eq.true)

pub seek-requires-2 : goal.seek-requires-2
unfolding admitted_of any_taken_of is_taken
seek-requires-2 c =
    let o = c.args.outputs in
    (c.requires.0, low_second o.first o.second o.count c.if-outputs-eq0.false c.requires.3 c.if-outputs-eq1.false)

pub returns-in_default-seek : goal.returns-in_default-seek
unfolding admitted_of any_taken_of is_taken
returns-in_default-seek c =
    let a = c.args in
    let o = rw c.in-Some.is at c.seek.ensures in
    let taken = rw c.in_default-seek.is at c.seek-2.ensures in
    rw (length_rows token_width decode_token a.used a.ledger.now, le-ltb _ _ c.if-ledger-used.false, ne_eqb _ _ c.if-outputs-eq0.false, o.free, ne_eqb _ _ c.if-outputs-eq1.false, sym (c.eq.ensures ∙ equal_keys c.args.outputs.first c.args.outputs.second) ∙ c.if-eq.false, taken)

pub returns : goal.returns
unfolding admitted_of any_taken_of is_taken
returns c =
    let a = c.args in
    let j = a.outputs.first in
    let l = a.outputs.second in
    let z = c.if-outputs-eq0.false in
    let y = c.if-outputs-eq1.false in
    let o = rw c.in-Some.is at c.seek.ensures in
    let u : Open (tokens a.used a.ledger.now) l.tag l.port c.in-Some-seek.next = rw c.in-Some-seek.is at c.seek-2.ensures in
    let apart = sym (c.eq.ensures ∙ equal_keys c.args.outputs.first c.args.outputs.second) ∙ c.if-eq.false in
    let low : (j.port < 2) × (l.port < 2) = (low_first j l a.outputs.count z c.requires.3, low_second j l a.outputs.count z c.requires.3 y) in (
      rw (length_rows token_width decode_token a.used a.ledger.now, le-ltb _ _ c.if-ledger-used.false, ne_eqb _ _ z, o.free, ne_eqb _ _ y, apart, u.free),
      open_two (tokens a.used a.ledger.now) a.outputs.count j l c.in-Some.slot c.beside.result z y o
          (λ x. c.beside.ensures (tokens a.used a.ledger.now) x (length_rows token_width decode_token a.used a.ledger.now) low apart o.free u),
    )
