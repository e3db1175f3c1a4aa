-- `store_chains::seek` meets its contract. The loop's invariant: two searches of the chain, for the port and for the other one, have come to `at`; the first
-- has found nothing. The measure is `at`, since a chain goes back. Assumes nothing.
use Prim.Native.Nat.{suc, ◌-◌, ◌<◌}
use mathlib.Core.Path.{sym, ◌∙◌}
use native.Mathlib.Omega.{arith}
use Rattle.record.proofs.Equality.{equal_tags}
use Rattle.store_chains.proofs.Walks.{Walk, link_of, found_link}
use Rattle.store_chains.proofs.Index.{walk_start, walk_step, walk_none, walk_end, seek_past, seek_partner, seek_taken, record_port}
use Rattle.store_chains.proofs.seek.Goals as goal
use Rattle.store_chains.proofs.seek.Goals.{then-eq+else-t-port, else-eq}

pub loop-at-init : goal.loop-at-init
loop-at-init c =
    let a = c.args in
    let first = rw c.bucket-b.ensures.0 at c.place_at-at.ensures in
    (walk_start a.ledger.now a.used a.tag a.port a.links.now c.requires.1 _ first, walk_start a.ledger.now a.used a.tag (1 - a.port) a.links.now c.requires.1 _ first)

pub returns-then-t-port : goal.returns-then-t-port
returns-then-t-port c =
    let a = c.args in
    let t = c.read-t.ensures in
    let own : Walk a.ledger.now a.used a.tag a.port (suc c.in-Some.i) 0 = rw c.in-Some.is at c.loop-at.invariant.0 in
    let within : c.in-Some.i < a.used = omega (arith, own.low) in
    seek_taken a.ledger.now a.used a.tag a.port c.in-Some.i within (rw t at (sym (c.eq.ensures ∙ equal_tags c.read-t.result.tag c.args.tag) ∙ c.if-eq.true)) (rw t at c.if-t-port.true)

pub loop-at-smaller : goal.loop-at-smaller
loop-at-smaller c =
    let a = c.args in
    rw c.in-Some.is (walk_step a.ledger.now a.used a.tag a.port a.links.now c.requires.1 c.in-Some.i 0 _ c.place_at-at-in-Some.ensures (rw c.in-Some.is at c.loop-at.invariant.0)).0

pub loop-at-preserved : goal.loop-at-preserved
loop-at-preserved c =
    let a = c.args in
    let i = c.in-Some.i in
    let t = c.read-t.ensures in
    let own : Walk a.ledger.now a.used a.tag a.port (suc i) 0 = rw c.in-Some.is at c.loop-at.invariant.0 in
    let other : Walk a.ledger.now a.used a.tag (1 - a.port) (suc i) (link_of c.loop-at.partner) = rw c.in-Some.is at c.loop-at.invariant.1 in
    let within : i < a.used = omega (arith, own.low) in
    let next = c.place_at-at-in-Some.ensures in
    let has = c.eq.ensures ∙ equal_tags c.read-t.result.tag c.args.tag in
    elim c.if-eq.branch [
      | then-eq+else-t-port w ↦
          let r = seek_partner a.ledger.now a.used a.tag a.port c.requires.2 a.links.now c.requires.1 i (link_of c.loop-at.partner) _ next own other
          (record_port a.ledger.now a.used i within c.requires.3) (rw t at (sym has ∙ w.if-eq.true)) (rw t at w.if-t-port.false) in
          rw w.partner-is (r.1, r.2)
      | else-eq w ↦
          let r = seek_past a.ledger.now a.used a.tag a.port c.requires.2 a.links.now c.requires.1 i (link_of c.loop-at.partner) _ next own other
          (rw t at (sym has ∙ w.if-eq.false)) in
          rw w.partner-is (r.1, r.2)
    ]

pub returns : goal.returns
returns c =
    let a = c.args in
    record {
      free = walk_none a.ledger.now a.used a.tag a.port (rw c.in_default.is at c.loop-at.invariant.0);
      bucket = c.bucket-b.ensures.0;
      partner = sym (found_link c.loop-at.partner) ∙ walk_end a.ledger.now a.used a.tag (1 - a.port) (link_of c.loop-at.partner) (rw c.in_default.is at c.loop-at.invariant.1);
    }
