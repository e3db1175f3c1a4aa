-- `graph_tables::name` meets its contract. The invariant: the first i arrays are in the table, and what stands before and behind them stays. Assumes nothing.
use Prim.Native.Nat.{◌+◌, ◌*◌, ◌/◌}
use native.Mathlib.Omega.{arith}
use mathlib.Core.Path.{◌∙◌}
use lib.ListN.{length, length-set}
use Rattle.record.specs.Widths.{array_width}
use Rattle.graph_tables.proofs.Named.{none_named, other_entry, one_more, all_named}
use Rattle.graph_tables.proofs.name.Goals as goal

pub overflow_cast-out : goal.overflow_cast-out
overflow_cast-out c = omega (arith, c.requires.0)

pub bounds-out-256 : goal.bounds-out-256
bounds-out-256 c = omega (arith, c.requires.1)

pub loop-i-init : goal.loop-i-init
loop-i-init c = none_named c.args.arrays.now c.args.out.now c.requires.0 c.requires.1

pub read-a-requires : goal.read-a-requires
read-a-requires c = omega (arith, c.loop-i-test.true)

pub overflow_mul-out : goal.overflow_mul-out
overflow_mul-out c = let l = c.loop-i in omega (arith, l.invariant.few, l.invariant.most)

pub overflow_add-out : goal.overflow_add-out
overflow_add-out c = let l = c.loop-i in omega (arith, l.invariant.few, l.invariant.most)

pub offset_bounds-out-i : goal.offset_bounds-out-i
offset_bounds-out-i c = let l = c.loop-i in omega (arith, l.invariant.few, l.invariant.most)

pub bounds-out-i : goal.bounds-out-i
bounds-out-i c = let l = c.loop-i in omega (arith, c.loop-i-test.true, l.invariant.most, l.invariant.size)

pub overflow_mul-out-in-loop-i : goal.overflow_mul-out-in-loop-i
overflow_mul-out-in-loop-i c = let l = c.loop-i in omega (arith, l.invariant.few, l.invariant.most)

pub overflow_add-out-in-loop-i : goal.overflow_add-out-in-loop-i
overflow_add-out-in-loop-i c = let l = c.loop-i in omega (arith, l.invariant.few, l.invariant.most)

pub offset_bounds-out-i-in-loop-i : goal.offset_bounds-out-i-in-loop-i
offset_bounds-out-i-in-loop-i c = let l = c.loop-i in omega (arith, l.invariant.few, l.invariant.most)

pub bounds-out-i-in-loop-i : goal.bounds-out-i-in-loop-i
bounds-out-i-in-loop-i c =
    let l = c.loop-i in
    omega (arith, c.loop-i-test.true, l.invariant.most, l.invariant.size, length-set l.out (l.i * 2 + 257) c.read-a.result.first)

pub loop-i-smaller : goal.loop-i-smaller
loop-i-smaller c = omega (arith, c.loop-i-test.true)

pub loop-i-preserved : goal.loop-i-preserved
loop-i-preserved c =
    let l = c.loop-i in
    one_more c.args.arrays.now _ l.out l.i l.invariant c.loop-i-test.true c.read-a.result c.read-a.ensures

pub returns : goal.returns
returns c =
    let l = c.loop-i in
    let lent = c.args.out.now in
    let n = length c.args.arrays.now / array_width in record { out_after = all_named c.args.arrays.now _ l.out l.i l.invariant c.loop-i-test.false; by_index = (λ k h. l.invariant.returns k h ∙ other_entry lent n k (λ e. omega arith)); by_index_2 = (λ k. l.invariant.counts k ∙ other_entry lent n (k + 385) (λ e. omega arith)) }
