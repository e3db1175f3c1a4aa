-- `store_enabled::enter` meets its contract: as `append`, of a record that is written already. Assumes nothing.
use Prim.Native.Nat.{ℕ, ◌+◌, ◌/◌, ◌<◌}
use mathlib.Core.Path.{◌≡◌, refl, sym, ap, ◌∙◌}
use mathlib.Core.Bool.{true, false}
use mathlib.Core.List.{List, [], ◌∷◌, ◌++◌}
use Rattle.record.specs.TokensAndTags.{tokens, token_at, decode_token}
use Rattle.record.specs.declared.token.Token.{Token}
use Rattle.buffer.proofs.Tables.{length_rows}
use Rattle.record.specs.Widths.{token_width}
use Rattle.store_chains.specs.declared.Slot.{Slot}
use Rattle.store_chains.specs.Slots.{Open}
use Rattle.store_chains.specs.Chains.{Indexed}
use lib.ListN.{length}
use Rattle.store_chains.specs.Partners.{Partnered, Beside}
use Rattle.store_enabled.specs.Enabled.{is_live_record, arity_of, is_enabled}
use Rattle.store_enabled.specs.Store.{Stored, Last, StandingRecord, live_found, ready_of}
use Rattle.store_enabled.proofs.Stored.{slot_within, slot_beside, Moved, added, added_last}
use Rattle.store_enabled.proofs.Arriving.{flag_before, port_below, right_wait, last_partner, last_place, last_flag, last_completes, last_waits, not_live}
use Rattle.store_enabled.proofs.enter.Goals as goal

-- the chains have it; its flag is still to be put
module _ (tables links flags l after : List ℕ) (used : ℕ) (t : Token) (slot : Slot)
    (stored : Stored tables links flags l used) (room : used < length l / token_width) (few : used < 2048) (p : StandingRecord tables l used t) (free : Open (tokens used l) t.tag t.port slot)
    (index : (ts : List Token) → length ts ≡ used → Indexed links ts → Indexed after (ts ++ t ∷ []))
    (beside : (ts : List Token) → length ts ≡ used → Beside links ts t slot → Partnered after (ts ++ t ∷ []))
  where
    indexed : Indexed after (tokens used l ++ t ∷ [])
    indexed = index (tokens used l) (length_rows token_width decode_token used l) stored.known.index

    -- it is beside its partner
    partners : Partnered after (tokens used l ++ t ∷ [])
    partners = beside (tokens used l) (length_rows token_width decode_token used l) (slot_beside tables links flags l used t slot stored p.low free)

    entered : Moved tables after flags l (used + 1) used (tokens used l ++ t ∷ []) t
    entered = added tables links flags l used t stored room few p.low free.free p.fits l p.bytes refl after indexed partners

    -- its tag is not enabled, and the flags stay
    stays : is_enabled tables (tokens (used + 1) l) t.tag ≡ false → Stored tables after flags l (used + 1)
    stays off =
        let still = right_wait tables (tokens used l) t flags stored.right (rw entered.more at off) in
        entered.stored flags (rw entered.more still)

    -- it is the last
    last : Last l used t.tag t.port slot.partner
    last = added_last tables links flags l used t stored room few p.low free.free p.fits l p.bytes refl after indexed partners slot free

pub enter-requires : goal.enter-requires
enter-requires c = let a = c.args in (c.requires.2, c.requires.4, c.requires.5.bucket, slot_within a.tables.now a.store.now.links a.store.now.flags a.ledger.now a.used a.t a.slot c.requires.0 c.requires.3.low c.requires.5)

pub completes-requires : goal.completes-requires
completes-requires c =
    let a = c.args in
    let q = c.requires in
    let n = c.enter in
    last_partner (last a.tables.now a.store.now.links a.store.now.flags a.ledger.now n.new.links a.used a.t a.slot q.0 q.1 q.2 q.3 q.5 n.ensures.indexed n.ensures.partnered)

pub raise-requires : goal.raise-requires
raise-requires c =
    let a = c.args in
    let q = c.requires in
    let n = c.enter in
    let end = last a.tables.now a.store.now.links a.store.now.flags a.ledger.now n.new.links a.used a.t a.slot q.0 q.1 q.2 q.3 q.5 n.ensures.indexed n.ensures.partnered in
    let k = arity_of a.tables.now a.t.tag in
    let live = ap (λ (x : Token). is_live_record x.content) q.3.same ∙ ap is_live_record c.in-Live.is in
    let whole : c.completes.result ≡ is_enabled a.tables.now (tokens (a.used + 1) a.ledger.now) a.t.tag =
    c.completes.ensures ∙ ap (λ (m : ℕ). ready_of m true (live_found (token_at a.ledger.now) a.slot.partner)) c.arity.ensures ∙ last_completes end k q.3.alone live in
    let e = entered a.tables.now a.store.now.links a.store.now.flags a.ledger.now n.new.links a.used a.t a.slot q.0 q.1 q.2 q.3 q.5 n.ensures.indexed n.ensures.partnered in
    let on = sym whole ∙ c.if-completes.true in
    let below = port_below k a.t.port (tokens (a.used + 1) a.ledger.now) a.t.tag q.3.low q.3.alone on in
    let down = flag_before a.tables.now a.ledger.now a.used a.t a.store.now.flags q.0.right q.5.free q.3.low below in
    (rw c.unwrap_or.ensures (last_flag end), rw (c.unwrap_or.ensures, ← last_place end, e.more) down)

pub returns-then-completes : goal.returns-then-completes
returns-then-completes c =
    let a = c.args in
    let q = c.requires in
    let n = c.enter in
    let end = last a.tables.now a.store.now.links a.store.now.flags a.ledger.now n.new.links a.used a.t a.slot q.0 q.1 q.2 q.3 q.5 n.ensures.indexed n.ensures.partnered in
    let k = arity_of a.tables.now a.t.tag in
    let live = ap (λ (x : Token). is_live_record x.content) q.3.same ∙ ap is_live_record c.in-Live.is in
    let whole : c.completes.result ≡ is_enabled a.tables.now (tokens (a.used + 1) a.ledger.now) a.t.tag =
    c.completes.ensures ∙ ap (λ (m : ℕ). ready_of m true (live_found (token_at a.ledger.now) a.slot.partner)) c.arity.ensures ∙ last_completes end k q.3.alone live in
    let e = entered a.tables.now a.store.now.links a.store.now.flags a.ledger.now n.new.links a.used a.t a.slot q.0 q.1 q.2 q.3 q.5 n.ensures.indexed n.ensures.partnered in
    let on = sym whole ∙ c.if-completes.true in
    let ts = tokens a.used a.ledger.now in
    record {
      ledger_value = e.more;
      stored = e.stored c.raise.new.self (c.raise.ensures.flags_after ∙ rw (c.unwrap_or.ensures, last_place end, on));
      waiting = (λ w. rw e.more (n.ensures.waiting ts (length_rows token_width decode_token a.used a.ledger.now) w));
    }

pub returns-else-completes : goal.returns-else-completes
returns-else-completes c =
    let a = c.args in
    let q = c.requires in
    let n = c.enter in
    let end = last a.tables.now a.store.now.links a.store.now.flags a.ledger.now n.new.links a.used a.t a.slot q.0 q.1 q.2 q.3 q.5 n.ensures.indexed n.ensures.partnered in
    let k = arity_of a.tables.now a.t.tag in
    let live = ap (λ (x : Token). is_live_record x.content) q.3.same ∙ ap is_live_record c.in-Live.is in
    let whole : c.completes.result ≡ is_enabled a.tables.now (tokens (a.used + 1) a.ledger.now) a.t.tag =
    c.completes.ensures ∙ ap (λ (m : ℕ). ready_of m true (live_found (token_at a.ledger.now) a.slot.partner)) c.arity.ensures ∙ last_completes end k q.3.alone live in
    let e = entered a.tables.now a.store.now.links a.store.now.flags a.ledger.now n.new.links a.used a.t a.slot q.0 q.1 q.2 q.3 q.5 n.ensures.indexed n.ensures.partnered in
    let ts = tokens a.used a.ledger.now in
    record {
      ledger_value = e.more;
      stored = stays a.tables.now a.store.now.links a.store.now.flags a.ledger.now n.new.links a.used a.t a.slot q.0 q.1 q.2 q.3 q.5 n.ensures.indexed n.ensures.partnered (sym whole ∙ c.if-completes.false);
      waiting = (λ w. rw e.more (n.ensures.waiting ts (length_rows token_width decode_token a.used a.ledger.now) w));
    }

pub returns-in_default : goal.returns-in_default
returns-in_default c =
    let a = c.args in
    let q = c.requires in
    let n = c.enter in
    let e = entered a.tables.now a.store.now.links a.store.now.flags a.ledger.now n.new.links a.used a.t a.slot q.0 q.1 q.2 q.3 q.5 n.ensures.indexed n.ensures.partnered in
    let ts = tokens a.used a.ledger.now in
    let off = ap (λ (x : Token). is_live_record x.content) q.3.same ∙ not_live a.t.content c.in_default.not-Live in
    record {
      ledger_value = e.more;
      stored = stays a.tables.now a.store.now.links a.store.now.flags a.ledger.now n.new.links a.used a.t a.slot q.0 q.1 q.2 q.3 q.5 n.ensures.indexed n.ensures.partnered (last_waits (last a.tables.now a.store.now.links a.store.now.flags a.ledger.now n.new.links a.used a.t a.slot q.0 q.1 q.2 q.3 q.5 n.ensures.indexed n.ensures.partnered) (arity_of a.tables.now a.t.tag) q.3.alone off);
      waiting = (λ w. rw e.more (n.ensures.waiting ts (length_rows token_width decode_token a.used a.ledger.now) w));
    }
