-- `start::begin` meets its contract: what the tables, the cleared cells and the loaded inputs promise is what holds at a start (proofs/Starting). Assumes nothing.
use mathlib.Core.Path.{ap}
use native.Mathlib.Omega.{arith}
use Prim.Native.Nat.{ℕ, ◌/◌}
use lib.ListN.{length, length-replicate}
use Rattle.record.specs.Widths.{token_width}
use Rattle.store.proofs.Laws.{matching_start}
use Rattle.start.proofs.Starting.{inputs_fit, inputs_proper, inputs_alone, begun}
use Rattle.start.proofs.begin.Goals as goal

pub make-requires : goal.make-requires
make-requires c = let k = c.requires.0 in (k.graph_passed, k.few_arrays)

pub inputs-requires : goal.inputs-requires
inputs-requires c =
    let a = c.args in
    let k = c.requires.0 in
    let passed = k.inputs_passed in
    (rw (c.requires.1, c.requires.2) (matching_start _ _), inputs_fit a.graph.now a.inputs.now (length a.ledger.now / token_width) 0 passed, k.few, inputs_proper a.graph.now a.inputs.now (length a.ledger.now / token_width) 0 passed _ c.make.ensures.arities, inputs_alone a.graph.now a.inputs.now (length a.ledger.now / token_width) 0 passed)

pub shape_of-cells : goal.shape_of-cells
shape_of-cells c =
    omega (arith, ap length c.clear.ensures, length-replicate {A = ℕ} (length c.args.cells.now) 0)

pub returns : goal.returns
returns c =
    let a = c.args in
    begun a.graph.now a.arrays.now a.inputs.now a.ledger.now a.cells.now c.requires.0 c.inputs.ensures c.clear.ensures c.make.ensures
