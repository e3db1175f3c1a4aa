-- `range_engine::written` meets its contract: what is left over handles is written as ranges. Assumes nothing.
use native.Mathlib.Omega.{arith}
use Rattle.range_engine.proofs.Writing.{leaves}
use Rattle.range_engine.proofs.written.Goals as goal

pub over_handles-a-requires : goal.over_handles-a-requires
over_handles-a-requires c = (c.requires.0, c.requires.1, c.requires.2)

pub put_tokens-requires : goal.put_tokens-requires
put_tokens-requires c =
    let f = c.over_handles-a.ensures.fits in
    (f.room, omega (arith, f.room, f.size, c.requires.3.tokens))

pub put_cells-requires : goal.put_cells-requires
put_cells-requires c =
    let f = c.over_handles-a.ensures.fits in
    (omega arith, omega (arith, f.cell_size, c.requires.3.cell_count))

pub returns : goal.returns
returns c =
    let a = c.args in
    let o = c.over_handles-a in
    leaves a.bound a.picks.now a.budget a.graph.now a.arrays.now a.handles.now a.over.now a.own.now a.store.now a.ledger.now a.cells.now o.result _ _ _ _ _ c.requires.3 o.ensures.tells
    (rw c.over.view_is at c.put_tokens.ensures) (rw c.over.view_is at c.put_cells.ensures)
