-- `store_enabled::settle_arrived` meets its contract: the partner says both where the tag's activity stands and whether it is complete. Assumes nothing.
use Prim.Native.Nat.{◌+◌}
use mathlib.Core.Path.{◌≡◌, sym, ◌∙◌}
use mathlib.Core.Bool.{◌&&◌}
use borrow.Author.Tests.{ltb-true}
use lib.Dec.{ltb}
use Rattle.record.specs.TokensAndTags.{tokens}
use Rattle.store_chains.proofs.Index.{and_left}
use Rattle.store_enabled.specs.Enabled.{operands_live, waited_for}
use Rattle.store_enabled.proofs.Arriving.{last_partner, last_place, last_flag, last_operand}
use Rattle.store_enabled.proofs.settle_arrived.Goals as goal

pub completes_by-requires : goal.completes_by-requires
completes_by-requires c = (last_partner c.requires.0, c.requires.0.low)

pub raise-requires : goal.raise-requires
raise-requires c =
    let a = c.args in
    let k = waited_for a.entry a.tag in
    let whole : c.completes_by.result ≡ ltb a.port k && operands_live k (tokens (a.own + 1) a.ledger.now) a.tag = c.completes_by.ensures ∙ last_operand c.requires.0 k c.requires.1 in
    let waited = ltb-true a.port k (and_left (ltb a.port k) (operands_live k (tokens (a.own + 1) a.ledger.now) a.tag) (sym whole ∙ c.if-completes_by.true)) in
    (rw c.unwrap_or.ensures (last_flag c.requires.0), rw (c.unwrap_or.ensures, ← last_place c.requires.0) (c.requires.2 waited))

pub returns-then-completes_by : goal.returns-then-completes_by
returns-then-completes_by c =
    let a = c.args in
    let k = waited_for a.entry a.tag in
    let whole : c.completes_by.result ≡ ltb a.port k && operands_live k (tokens (a.own + 1) a.ledger.now) a.tag = c.completes_by.ensures ∙ last_operand c.requires.0 k c.requires.1 in
    let on = sym whole ∙ c.if-completes_by.true in
    record { flags_after = c.raise.ensures.flags_after ∙ rw (c.unwrap_or.ensures, last_place c.requires.0, on) }

pub returns-else-completes_by : goal.returns-else-completes_by
returns-else-completes_by c =
    let a = c.args in
    let k = waited_for a.entry a.tag in
    let whole : c.completes_by.result ≡ ltb a.port k && operands_live k (tokens (a.own + 1) a.ledger.now) a.tag = c.completes_by.ensures ∙ last_operand c.requires.0 k c.requires.1 in
    let off = sym whole ∙ c.if-completes_by.false in
    record { flags_after = rw off }
