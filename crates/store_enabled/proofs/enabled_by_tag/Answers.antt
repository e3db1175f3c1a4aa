-- `store_enabled::enabled_by_tag` meets its contract: what was found on both ports says whether the tag's activity is ready, and where it stands. Assumes nothing.
use Prim.Native.Nat.{ℕ, ◌<◌}
use mathlib.Core.List.{List}
use mathlib.Core.Path.{◌≡◌, sym, ap, ◌∙◌}
use mathlib.Core.Bool.{Bool, true, false, cond}
use native.Mathlib.Omega.{arith}
use lib.Dec.{eqb}
use Rattle.record.specs.declared.token.Token.{Token}
use Rattle.record.specs.declared.tag.Tag.{Tag}
use Rattle.record.specs.TokensAndTags.{tokens, token_at, stands_at}
use Rattle.std.specs.Prelude.{Option, Some, None, unwrap_or}
use Rattle.store_chains.specs.Search.{first_from, FoundWithin}
use Rattle.store_chains.proofs.Search.{within_more}
use Rattle.store_enabled.specs.Enabled.{operands_live, arity_of, is_enabled, earliest_of}
use Rattle.store_enabled.specs.Store.{live_found, ready_of}
use Rattle.store_enabled.proofs.Places.{live_found_lem, first_place, min_below}
use Rattle.store_enabled.proofs.enabled_by_tag.Goals as goal

-- where all operands are live, one was found on port 0
found_first : (n used : ℕ) (at : ℕ → Token) (f : Option ℕ) (b : Bool) → FoundWithin f used → ready_of n (live_found at f) b ≡ true → unwrap_or f used < used
found_first n used at (Some i) b w e = w
found_first n used at None b w e = go (eqb n 1) (eqb n 2) e
  where
    go : (c d : Bool) → cond c false (cond d false false) ≡ true → used < used
    go true d h = let z : ◌≡◌ {A = ℕ} 0 1 = cc in absurd (omega arith)
    go false true h = let z : ◌≡◌ {A = ℕ} 0 1 = cc in absurd (omega arith)
    go false false h = let z : ◌≡◌ {A = ℕ} 0 1 = cc in absurd (omega arith)

-- whether all operands are live
whole : (tables l : List ℕ) (used : ℕ) (tag : Tag) (f g : Option ℕ) (n : ℕ) (r : Bool) → f ≡ first_from (stands_at tag 0) 0 (tokens used l) → g ≡ first_from (stands_at tag 1) 0 (tokens used l)
    → n ≡ arity_of tables tag → r ≡ ready_of n (live_found (token_at l) f) (live_found (token_at l) g) → r ≡ is_enabled tables (tokens used l) tag
unfolding operands_live
whole tables l used tag f g n r e₀ e₁ k ready = ready ∙ rw (k, e₀, e₁, live_found_lem tag 0 used l, live_found_lem tag 1 used l)

pub find-first-requires : goal.find-first-requires
find-first-requires c = (c.requires.room, c.requires.index, c.requires.single)

pub find-second-requires : goal.find-second-requires
find-second-requires c = (c.requires.room, c.requires.index, c.requires.single)

pub ready-requires : goal.ready-requires
ready-requires c =
    (within_more c.find-first.result _ _ c.requires.room c.find-first.ensures.1, within_more c.find-second.result _ _ c.requires.room c.find-second.ensures.1)

pub returns-then-ready : goal.returns-then-ready
returns-then-ready c =
    let a = c.args in
    let complete = whole a.tables.now a.ledger.now a.used a.tag c.find-first.result c.find-second.result c.arity.result c.ready.result c.find-first.ensures.0 c.find-second.ensures.0 c.arity.ensures c.ready.ensures in
    let on = sym complete ∙ c.if-ready.true in
    let place : c.min.result ≡ earliest_of (tokens a.used a.ledger.now) a.tag =
    c.min.ensures ∙ rw (c.unwrap_or.ensures, c.unwrap_or-then-ready.ensures, c.find-first.ensures.0, c.find-second.ensures.0) (sym (first_place a.tag a.used a.ledger.now c.requires.ports)) in
    let low = found_first c.arity.result a.used (token_at a.ledger.now) c.find-first.result (live_found (token_at a.ledger.now) c.find-second.result) c.find-first.ensures.1 (sym c.ready.ensures ∙ c.if-ready.true) in
    (rw on (ap Some place), rw (c.min.ensures, c.unwrap_or.ensures) (min_below _ _ a.used low))

pub returns-else-ready : goal.returns-else-ready
returns-else-ready c =
    let a = c.args in
    let complete = whole a.tables.now a.ledger.now a.used a.tag c.find-first.result c.find-second.result c.arity.result c.ready.result c.find-first.ensures.0 c.find-second.ensures.0 c.arity.ensures c.ready.ensures in
    let off = sym complete ∙ c.if-ready.false in
    (rw off, tt)
