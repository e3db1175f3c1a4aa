-- `store_enabled::settle_changed` meets its contract: what was found on the other port says both where the tag's activity stands and whether it is ready. Assumes nothing.
use Rattle.std.specs.Prelude.{unwrap_or}
use Prim.Native.Nat.{ℕ, ◌-◌, ◌<◌, min}
use mathlib.Core.Path.{◌≡◌, sym, ◌∙◌}
use mathlib.Core.List.{List}
use native.Mathlib.Omega.{arith}
use Rattle.record.specs.TokensAndTags.{tokens, stands_at}
use Rattle.store_chains.specs.Search.{first_from, FoundWithin}
use Rattle.store_chains.proofs.Search.{within_more}
use Rattle.store_enabled.specs.Enabled.{operands_live, earliest_of}
use Rattle.store_enabled.specs.Store.{Known}
use Rattle.store_enabled.proofs.Stored.{known_few, known_partner}
use Rattle.store_enabled.proofs.Places.{min_below}
use Rattle.store_enabled.proofs.Arriving.{own_place, own_ready, not_raised, raised_again}
use Rattle.store_enabled.proofs.settle_changed.Goals as goal

-- the earlier of the place of a record and another is that of a flag
place_low : (links l : List ℕ) (used own other place : ℕ) → Known links l used → own < used → place ≡ min own other → place < 2048
place_low links l used own other place k h e = rw e (min_below own other 2048 (omega (arith, h, known_few links l used k)))

pub partner-other-requires : goal.partner-other-requires
partner-other-requires c = let a = c.args in omega (arith, c.requires.1, known_few a.links.now a.ledger.now a.used c.requires.0)

pub ready_with-requires : goal.ready_with-requires
ready_with-requires c =
    let a = c.args in
    let f = c.partner-other.result in
    let found : (f ≡ first_from (stands_at a.tag (1 - a.port)) 0 (tokens a.used a.ledger.now)) × FoundWithin f a.used =
    rw c.partner-other.ensures (known_partner a.links.now a.ledger.now a.used c.requires.0 a.own a.tag a.port c.requires.1 c.requires.3) in
    (omega (arith, c.requires.0.room, c.requires.1), within_more f _ _ c.requires.0.room found.1)

pub is_raised-requires : goal.is_raised-requires
is_raised-requires c = place_low _ _ _ _ _ _ c.requires.0 c.requires.1 c.min-place.ensures

pub raise-requires : goal.raise-requires
raise-requires c =
    let a = c.args in
    let low = place_low _ _ _ _ _ _ c.requires.0 c.requires.1 c.min-place.ensures in
    let binary = c.is_raised.ensures.list.binary c.min-place.result in
    (low, not_raised a.flags.now _ binary (sym c.is_raised.ensures.value ∙ c.if-not-is_raised.true))

pub returns-then-not-is_raised : goal.returns-then-not-is_raised
returns-then-not-is_raised c =
    let a = c.args in
    let f = c.partner-other.result in
    let found : (f ≡ first_from (stands_at a.tag (1 - a.port)) 0 (tokens a.used a.ledger.now)) × FoundWithin f a.used =
    rw c.partner-other.ensures (known_partner a.links.now a.ledger.now a.used c.requires.0 a.own a.tag a.port c.requires.1 c.requires.3) in
    let here : earliest_of (tokens a.used a.ledger.now) a.tag ≡ min a.own (unwrap_or f a.own) =
    own_place a.tag a.port a.own a.used a.ledger.now c.requires.1 c.requires.2 c.requires.3 f found.0 c.requires.0.ports in
    let whole : c.ready_with.result ≡ operands_live a.operands (tokens a.used a.ledger.now) a.tag =
    c.ready_with.ensures ∙ own_ready a.tag a.port a.own a.used a.ledger.now c.requires.1 c.requires.2 c.requires.3 f found.0 a.operands in
    let on = sym whole ∙ c.if-ready_with.true in
    record { flags_after = c.raise.ensures.flags_after ∙ rw (c.min-place.ensures, c.unwrap_or.ensures, here, on) }

pub returns-else-not-is_raised : goal.returns-else-not-is_raised
returns-else-not-is_raised c =
    let a = c.args in
    let f = c.partner-other.result in
    let found : (f ≡ first_from (stands_at a.tag (1 - a.port)) 0 (tokens a.used a.ledger.now)) × FoundWithin f a.used =
    rw c.partner-other.ensures (known_partner a.links.now a.ledger.now a.used c.requires.0 a.own a.tag a.port c.requires.1 c.requires.3) in
    let here : earliest_of (tokens a.used a.ledger.now) a.tag ≡ min a.own (unwrap_or f a.own) =
    own_place a.tag a.port a.own a.used a.ledger.now c.requires.1 c.requires.2 c.requires.3 f found.0 c.requires.0.ports in
    let whole : c.ready_with.result ≡ operands_live a.operands (tokens a.used a.ledger.now) a.tag =
    c.ready_with.ensures ∙ own_ready a.tag a.port a.own a.used a.ledger.now c.requires.1 c.requires.2 c.requires.3 f found.0 a.operands in
    let on = sym whole ∙ c.if-ready_with.true in
    let stays = raised_again a.flags.now c.min-place.result (sym c.is_raised.ensures.value ∙ c.if-not-is_raised.false) in
    record { flags_after = stays ∙ rw (c.min-place.ensures, c.unwrap_or.ensures, here, on) }

pub returns-else-ready_with : goal.returns-else-ready_with
returns-else-ready_with c =
    let a = c.args in
    let f = c.partner-other.result in
    let found : (f ≡ first_from (stands_at a.tag (1 - a.port)) 0 (tokens a.used a.ledger.now)) × FoundWithin f a.used =
    rw c.partner-other.ensures (known_partner a.links.now a.ledger.now a.used c.requires.0 a.own a.tag a.port c.requires.1 c.requires.3) in
    let whole : c.ready_with.result ≡ operands_live a.operands (tokens a.used a.ledger.now) a.tag =
    c.ready_with.ensures ∙ own_ready a.tag a.port a.own a.used a.ledger.now c.requires.1 c.requires.2 c.requires.3 f found.0 a.operands in
    let off = sym whole ∙ c.if-ready_with.false in
    record { flags_after = rw off }
