-- `range_engine::accepted` meets its contract: it runs in as many plain records as are lent. Assumes nothing.
use native.Mathlib.Omega.{arith}
use lib.ListN.{length}
use Rattle.range_engine.specs.Over.{own_bytes, store_bytes}
use Rattle.range_engine.proofs.Writing.{own_part, as_many_lem, accepted_in}
use Rattle.range_engine.proofs.accepted.Goals as goal

pub slice_bounds-own-end : goal.slice_bounds-own-end
slice_bounds-own-end c = omega (arith, c.requires.0.few)

pub slice_bounds-store-end : goal.slice_bounds-store-end
slice_bounds-store-end c = omega (arith, c.requires.0.cell_records)

pub written-requires : goal.written-requires
written-requires c =
    let a = c.args in
    let o = own_part (own_bytes (length a.ledger.now)) 57344 (omega (arith, c.requires.0.few)) in
    let t = own_part (store_bytes (length a.cells.now)) 8192 (omega (arith, c.requires.0.cell_records)) in
    (accepted_in _ _ _ _ _ (length a.ledger.now) (length a.cells.now) o t c.requires.0, c.requires.1, c.requires.2, as_many_lem _ _ (length a.ledger.now) (length a.cells.now) o t)

pub returns : goal.returns
returns c = c.written.ensures
