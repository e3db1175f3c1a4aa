-- `store_enabled::append` meets its contract: none stood on the arriving token's port, and where its activity is not ready the flags stay. Assumes nothing.
use Prim.Native.Nat.{ℕ, suc, ◌+◌, ◌/◌, ◌≤◌, ◌<◌}
use mathlib.Core.Path.{◌≡◌, ap, ◌∙◌}
use mathlib.Core.List.{List, [], ◌∷◌, ◌++◌}
use native.Mathlib.Omega.{arith}
use native.Mathlib.Decide.{dec_le}
use mathlib.Core.Bool.{false}
use lib.Dec.{ltb}
use lib.ListN.{length, set}
use borrow.Author.Tests.{ltb-false}
use Rattle.record.specs.TokensAndTags.{tokens, token_at, decode_token, encode_token, TokenFits}
use Rattle.buffer.specs.Rows.{put_row}
use Rattle.store_chains.specs.declared.Slot.{Slot}
use Rattle.store_chains.specs.Slots.{Open}
use Rattle.store_chains.specs.Chains.{Indexed}
use Rattle.record.specs.declared.token.Token.{Token}
use Rattle.buffer.proofs.Tables.{length_rows}
use Rattle.record.specs.Widths.{token_width}
use Rattle.store_chains.specs.Partners.{Partnered, Beside}
use Rattle.store_flags.specs.Marks.{bit}
use Rattle.store_enabled.specs.Enabled.{is_live_record, arity_of, is_enabled, earliest_of}
use Rattle.store_enabled.specs.Store.{Last, Stored}
use Rattle.store_enabled.proofs.Stored.{slot_within, slot_beside, Moved, added, added_there, added_last}
use Rattle.store_enabled.proofs.Arriving.{flag_before, right_past, right_wait, raised_operand, not_live, last_waits}
use Rattle.store_enabled.proofs.append.Goals as goal

-- the record is written and the chains have it; its flag is still to be put, and it is the last
module _ (tables links flags l written after : List ℕ) (used : ℕ) (t : Token) (slot : Slot)
    (stored : Stored tables links flags l used) (room : used < length l / token_width) (few : used < 2048) (low : t.port < 2) (free : Open (tokens used l) t.tag t.port slot)
    (put : written ≡ put_row token_width l used (encode_token t)) (fits : TokenFits t) (same : length written ≡ length l)
    (index : (ts : List Token) → length ts ≡ used → Indexed links ts → Indexed after (ts ++ t ∷ []))
    (beside : (ts : List Token) → length ts ≡ used → Beside links ts t slot → Partnered after (ts ++ t ∷ []))
  where
    abbrev us : List Token
    us = tokens used l ++ t ∷ []

    indexed : Indexed after us
    indexed = index (tokens used l) (length_rows token_width decode_token used l) stored.known.index

    -- it is beside its partner
    partners : Partnered after us
    partners = beside (tokens used l) (length_rows token_width decode_token used l) (slot_beside tables links flags l used t slot stored low free)

    entered : Moved tables after flags written (used + 1) used us t
    entered = added tables links flags l used t stored room few low free.free fits written put same after indexed partners

    last : Last written used t.tag t.port slot.partner
    last = added_last tables links flags l used t stored room few low free.free fits written put same after indexed partners slot free

    there : token_at written used ≡ t
    there = added_there tables links flags l used t stored room few low free.free fits written put same after indexed partners

    -- the flags are right where its port is not waited for
    past : arity_of tables t.tag ≤ t.port → flags ≡ set flags (earliest_of us t.tag) (bit (is_enabled tables us t.tag))
    past h = right_past tables (tokens used l) t flags stored.right h low

    -- and where its activity is not ready
    waits : is_enabled tables us t.tag ≡ false → flags ≡ set flags (earliest_of us t.tag) (bit (is_enabled tables us t.tag))
    waits = right_wait tables (tokens used l) t flags stored.right

    -- as they are where the token is not live
    idle : is_live_record t.content ≡ false → flags ≡ set flags (earliest_of us t.tag) (bit (is_enabled tables us t.tag))
    idle off = go (dec_le (suc t.port) (arity_of tables t.tag))
      where
        k : ℕ
        k = arity_of tables t.tag

        go : Dec (suc t.port ≤ k) → flags ≡ set flags (earliest_of us t.tag) (bit (is_enabled tables us t.tag))
        go (yes h) = waits (rw (← entered.more) (last_waits last k (λ e. omega arith) (ap (λ (x : Token). is_live_record x.content) there ∙ off)))
        go (no z) = past (omega arith)

pub enter-requires : goal.enter-requires
enter-requires c = let a = c.args in (c.requires.2, c.requires.4, c.requires.5.bucket, slot_within a.tables.now a.store.now.links a.store.now.flags a.ledger.now a.used a.t a.slot c.requires.0 c.requires.3 c.requires.5)

pub settle_arrived-requires : goal.settle_arrived-requires
settle_arrived-requires c =
    let a = c.args in
    let q = c.requires in
    let p = c.write in
    let n = c.enter in
    let same : length p.new.buf ≡ length a.ledger.now = omega (arith, p.auto.buf) in
    let e = entered a.tables.now a.store.now.links a.store.now.flags a.ledger.now p.new.buf n.new.links a.used a.t a.slot q.0 q.1 q.2 q.3 q.5 p.ensures.0 p.ensures.1 same n.ensures.indexed n.ensures.partnered in
    let here = there a.tables.now a.store.now.links a.store.now.flags a.ledger.now p.new.buf n.new.links a.used a.t a.slot q.0 q.1 q.2 q.3 q.5 p.ensures.0 p.ensures.1 same n.ensures.indexed n.ensures.partnered in
    let live = ap (λ (x : Token). is_live_record x.content) here ∙ ap is_live_record c.in-Live.is in
    (last a.tables.now a.store.now.links a.store.now.flags a.ledger.now p.new.buf n.new.links a.used a.t a.slot q.0 q.1 q.2 q.3 q.5 p.ensures.0 p.ensures.1 same n.ensures.indexed n.ensures.partnered, live, λ h. rw e.more (flag_before a.tables.now a.ledger.now a.used a.t a.store.now.flags q.0.right q.5.free q.3 (rw c.entry_of-entry.ensures at h)))

pub returns-in-Live : goal.returns-in-Live
returns-in-Live c =
    let a = c.args in
    let q = c.requires in
    let p = c.write in
    let n = c.enter in
    let same : length p.new.buf ≡ length a.ledger.now = omega (arith, p.auto.buf) in
    let e = entered a.tables.now a.store.now.links a.store.now.flags a.ledger.now p.new.buf n.new.links a.used a.t a.slot q.0 q.1 q.2 q.3 q.5 p.ensures.0 p.ensures.1 same n.ensures.indexed n.ensures.partnered in
    let ts = tokens a.used a.ledger.now in
    let vs = ts ++ a.t ∷ [] in
    let k = arity_of a.tables.now a.t.tag in
    let once = raised_operand (ltb a.t.port k) (is_enabled a.tables.now vs a.t.tag) a.store.now.flags (earliest_of vs a.t.tag)
    (λ h. past a.tables.now a.store.now.links a.store.now.flags a.ledger.now p.new.buf n.new.links a.used a.t a.slot q.0 q.1 q.2 q.3 q.5 p.ensures.0 p.ensures.1 same n.ensures.indexed n.ensures.partnered (ltb-false a.t.port k h)) (waits a.tables.now a.store.now.links a.store.now.flags a.ledger.now p.new.buf n.new.links a.used a.t a.slot q.0 q.1 q.2 q.3 q.5 p.ensures.0 p.ensures.1 same n.ensures.indexed n.ensures.partnered) in
    let flags = c.settle_arrived.ensures.flags_after ∙ rw (c.entry_of-entry.ensures, e.more) once in
    record {
      ledger_after = p.ensures.0;
      ledger_after_2 = e.more;
      stored = e.stored c.settle_arrived.new.flags flags;
      waiting = (λ w. rw e.more (n.ensures.waiting ts (length_rows token_width decode_token a.used a.ledger.now) w));
    }

pub returns-in_default : goal.returns-in_default
returns-in_default c =
    let a = c.args in
    let q = c.requires in
    let p = c.write in
    let n = c.enter in
    let same : length p.new.buf ≡ length a.ledger.now = omega (arith, p.auto.buf) in
    let e = entered a.tables.now a.store.now.links a.store.now.flags a.ledger.now p.new.buf n.new.links a.used a.t a.slot q.0 q.1 q.2 q.3 q.5 p.ensures.0 p.ensures.1 same n.ensures.indexed n.ensures.partnered in
    let ts = tokens a.used a.ledger.now in
    let off = not_live a.t.content c.in_default.not-Live in
    record {
      ledger_after = p.ensures.0;
      ledger_after_2 = e.more;
      stored = e.stored a.store.now.flags (rw e.more (idle a.tables.now a.store.now.links a.store.now.flags a.ledger.now p.new.buf n.new.links a.used a.t a.slot q.0 q.1 q.2 q.3 q.5 p.ensures.0 p.ensures.1 same n.ensures.indexed n.ensures.partnered off));
      waiting = (λ w. rw e.more (n.ensures.waiting ts (length_rows token_width decode_token a.used a.ledger.now) w));
    }
