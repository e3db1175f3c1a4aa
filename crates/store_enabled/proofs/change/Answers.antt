-- `store_enabled::change` meets its contract: the changed token stays the first on its port, and where its activity is not ready the flags stay. Assumes nothing.
use Prim.Native.Nat.{◌<◌}
use mathlib.Core.Path.{◌≡◌, ◌∙◌}
use native.Mathlib.Omega.{arith}
use lib.ListN.{length, get_or, set}
use Rattle.record.specs.TokensAndTags.{tokens, token_at, decode_token}
use Rattle.record.specs.declared.token.Token.{Token}
use Rattle.buffer.proofs.Tables.{length_rows, get_d_rows}
use Rattle.record.specs.Widths.{token_width}
use Rattle.store_enabled.specs.Enabled.{is_enabled, earliest_of}
use Rattle.store_enabled.proofs.Stored.{Moved, changed, all_at}
use Rattle.store_enabled.proofs.Arriving.{right_still, raised_only}
use Rattle.store_enabled.proofs.change.Goals as goal

pub write-requires : goal.write-requires
write-requires c = omega (arith, c.requires.0.known.room, c.requires.1)

pub settle_changed-requires : goal.settle_changed-requires
settle_changed-requires c =
    let a = c.args in
    let l = a.ledger.now in
    let before : get_or (tokens a.used l) a.i (token_at l a.i) ≡ token_at l a.i = get_d_rows token_width decode_token a.used a.i l (token_at l a.i) c.requires.1 in
    let size : length (tokens a.used l) ≡ a.used = length_rows token_width decode_token a.used l in
    let p = c.write in
    let same : length p.new.buf ≡ length l = omega (arith, p.auto.buf) in
    let e : Moved a.tables.now a.links.now a.flags.now p.new.buf a.used a.i (set (tokens a.used l) a.i a.t) a.t =
    changed a.tables.now a.links.now a.flags.now l a.used a.i a.t c.requires.0 c.requires.1 c.requires.2 c.requires.3 p.ensures.1 p.new.buf p.ensures.0 same in
    let low : a.t.port < 2 = rw (c.requires.3, ← before) (all_at (λ (t : Token). t.port < 2) (tokens a.used l) a.i (token_at l a.i) (omega (arith, size, c.requires.1)) c.requires.0.known.ports) in
    (e.known, c.requires.1, low, e.own)

pub returns : goal.returns
returns c =
    let a = c.args in
    let l = a.ledger.now in
    let before : get_or (tokens a.used l) a.i (token_at l a.i) ≡ token_at l a.i = get_d_rows token_width decode_token a.used a.i l (token_at l a.i) c.requires.1 in
    let size : length (tokens a.used l) ≡ a.used = length_rows token_width decode_token a.used l in
    let p = c.write in
    let same : length p.new.buf ≡ length l = omega (arith, p.auto.buf) in
    let e : Moved a.tables.now a.links.now a.flags.now p.new.buf a.used a.i (set (tokens a.used l) a.i a.t) a.t =
    changed a.tables.now a.links.now a.flags.now l a.used a.i a.t c.requires.0 c.requires.1 c.requires.2 c.requires.3 p.ensures.1 p.new.buf p.ensures.0 same in
    let ts = tokens a.used l in
    let us = set ts a.i a.t in
    let still = right_still a.tables.now ts a.i a.t (token_at l a.i) a.flags.now (omega (arith, size, c.requires.1)) (rw before c.requires.2) (rw before c.requires.3) (rw before c.requires.4) c.requires.0.right in
    let once = raised_only (is_enabled a.tables.now us a.t.tag) a.flags.now (earliest_of us a.t.tag) still in
    let flags = c.settle_changed.ensures.flags_after ∙ rw (c.arity-operands.ensures, e.more) once in
    record { ledger_after = p.ensures.0; ledger_after_2 = e.more; stored = e.stored c.settle_changed.new.flags flags }
