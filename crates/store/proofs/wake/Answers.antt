-- `store::wake` meets its contract. The loop's invariant: the tokens of the cell's chain from `at` back are as they were, and those past it
-- are woken. The measure is `at`, since a chain goes back. Assumes nothing.
use Prim.Native.Nat.{ℕ, suc, ◌+◌, ◌<◌}
use mathlib.Core.List.{List}
use mathlib.Core.Path.{◌≡◌, refl, sym, ◌∙◌}
use native.Mathlib.Omega.{arith}
use mir.Facts.{to_z-of_z}
use mir.Syntax.{w32}
use mir.Val.{to_z, of_z}
use lib.IntN.{ℤ}
use lib.ListN.{length, get_or, set}
use Rattle.buffer.specs.Rows.{put_row}
use Rattle.record.specs.TokensAndTags.{tokens, token_at, encode_token}
use Rattle.record.specs.Widths.{token_width}
use Rattle.record.specs.declared.token.Token.{Token}
use Rattle.record.specs.declared.token.Content.TheVariants.{Live}
use Rattle.std.specs.Prelude.{Option}
use Rattle.store_chains.specs.Search.{found_of}
use Rattle.store_chains.specs.Deferred as Deferred
use Rattle.store_enabled.specs.Store.{Stored}
use Rattle.store_chains.proofs.Walks.{link_of}
use Rattle.store.specs.Matching.{Matching}
use Rattle.store.proofs.Changes.{Waking, waking_start, waking_low, waking_own, waking_step, waking_tokens, waking_ledger, waking_end}
use Rattle.store.proofs.wake.Goals as goal

-- a token that gets the value is woken
gets : (cell : ℕ) (v : ℤ) (t : Token) → Deferred.content_woken cell v t.content ≡ Live v → record { tag = t.tag; port = t.port; content = Live v } ≡ Deferred.woken cell v t
gets cell v t e = λ i. record { tag = t.tag; port = t.port; content = sym e i }

-- the token of the chain at place i is woken
stepped : (cell : ℕ) (v : ℤ) (tables links flags l : List ℕ) (used : ℕ) (w : Matching tables links flags l used) (small : cell < 1024) (flags₁ m : List ℕ) (i : ℕ)
    (g : Waking cell v tables links l used flags₁ m (suc i)) (t : Token) → t ≡ token_at m i → (u : Token) → u ≡ record { tag = t.tag; port = t.port; content = Live v }
    → (flags₂ m₂ : List ℕ) → length m₂ ≡ length m → m₂ ≡ put_row token_width m i (encode_token u) → tokens used m₂ ≡ set (tokens used m) i u → Stored tables links flags₂ m₂ used
    → (next : Option ℕ) → next ≡ found_of (get_or links (i + 7168) 0) → (link_of next < suc i) × Waking cell v tables links l used flags₂ m₂ (link_of next)
stepped cell v tables links flags l used w small flags₁ m i g t is u made flags₂ m₂ len put e s =
    let own = waking_own cell v tables links flags l used w small flags₁ m i g in
    let same : u ≡ Deferred.woken cell v (token_at m i) = made ∙ rw is (gets cell v (token_at m i) own) in
    waking_step cell v tables links flags l used w small flags₁ m i g flags₂ m₂ len (rw same at put) (rw same at e) s

pub loop-at-init : goal.loop-at-init
loop-at-init c =
    let a = c.args in
    (refl, waking_start a.cell (to_z w32 (of_z w32 a.v)) a.tables.now a.store.now.links a.store.now.flags a.ledger.now a.used c.requires.0 c.requires.1 _ c.place_at-at.ensures)

pub read-t-requires : goal.read-t-requires
read-t-requires c =
    let a = c.args in
    let l = c.loop-at in
    omega (arith, waking_low a.cell (to_z w32 (of_z w32 a.v)) a.tables.now a.store.now.links a.store.now.flags a.ledger.now a.used c.requires.0 c.requires.1 l.store.flags l.ledger c.in-Some.i (rw c.in-Some.is at l.invariant.1), l.invariant.1.store.known.room)

pub change-requires : goal.change-requires
change-requires c =
    let a = c.args in
    let l = c.loop-at in
    let e = c.woken-u.ensures in
    let t = c.read-t.ensures in
    let low = waking_low a.cell (to_z w32 (of_z w32 a.v)) a.tables.now a.store.now.links a.store.now.flags a.ledger.now a.used c.requires.0 c.requires.1 l.store.flags l.ledger c.in-Some.i (rw c.in-Some.is at l.invariant.1) in
    (rw l.invariant.0 l.invariant.1.store, low, rw (e, t), rw (e, t), rw e (λ h. refl))

pub loop-at-smaller : goal.loop-at-smaller
loop-at-smaller c =
    let a = c.args in
    let l = c.loop-at in
    let p = c.change in
    let step = stepped a.cell (to_z w32 (of_z w32 a.v)) a.tables.now a.store.now.links a.store.now.flags a.ledger.now a.used c.requires.0 c.requires.1 l.store.flags l.ledger c.in-Some.i (rw c.in-Some.is at l.invariant.1) c.read-t.result c.read-t.ensures c.woken-u.result c.woken-u.ensures
    p.new.flags p.new.ledger (omega (arith, p.auto.ledger)) p.ensures.ledger_after p.ensures.ledger_after_2 (rw l.invariant.0 at p.ensures.stored) _ (rw l.invariant.0 at c.place_at-at-in-Some.ensures) in
    rw c.in-Some.is step.0

pub loop-at-preserved : goal.loop-at-preserved
loop-at-preserved c =
    let a = c.args in
    let l = c.loop-at in
    let p = c.change in
    let step = stepped a.cell (to_z w32 (of_z w32 a.v)) a.tables.now a.store.now.links a.store.now.flags a.ledger.now a.used c.requires.0 c.requires.1 l.store.flags l.ledger c.in-Some.i (rw c.in-Some.is at l.invariant.1) c.read-t.result c.read-t.ensures c.woken-u.result c.woken-u.ensures
    p.new.flags p.new.ledger (omega (arith, p.auto.ledger)) p.ensures.ledger_after p.ensures.ledger_after_2 (rw l.invariant.0 at p.ensures.stored) _ (rw l.invariant.0 at c.place_at-at-in-Some.ensures) in
    (l.invariant.0, step.1)

pub shape_of-ledger : goal.shape_of-ledger
shape_of-ledger c = omega (arith, c.loop-at.invariant.1.size)

pub returns : goal.returns
returns c =
    let a = c.args in
    let l = c.loop-at in
    let g : Waking a.cell a.v a.tables.now a.store.now.links a.ledger.now a.used l.store.flags l.ledger 0 = rw (c.in_default.is, to_z-of_z c.ranges.v) at l.invariant.1 in
    record {
      ledger_after = waking_ledger a.cell a.v a.tables.now a.store.now.links a.store.now.flags a.ledger.now a.used c.requires.0 c.requires.1 l.store.flags l.ledger g;
      ledger_after_2 = waking_tokens a.cell a.v a.tables.now a.store.now.links a.store.now.flags a.ledger.now a.used c.requires.0 c.requires.1 l.store.flags l.ledger g;
      cases = rw l.invariant.0 (waking_end a.cell a.v a.tables.now a.store.now.links a.store.now.flags a.ledger.now a.used c.requires.0 c.requires.1 l.store.flags l.ledger g);
    }
