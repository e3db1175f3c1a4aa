-- `convert::put_records` meets its contract. The invariant: the first i records of `out` are those of `old`, widened. Assumes nothing.
use Prim.Native.Nat.{ℕ, ◌+◌, ◌*◌, ◌/◌}
use borrow.Author.Rules.{rules}
use native.Mathlib.Omega.{arith}
use native.Mathlib.Nat.{zero-mul}
use mathlib.Core.Path.{◌≡◌, sym, ap, ◌∙◌}
use lib.ListN.{length}
use lib.Seq.{take_all}
use Rattle.buffer.specs.Rows.{rows}
use Rattle.convert.specs.Convert.{widened, converted}
use Rattle.convert.proofs.Records.{together, one_more, inside_old, inside_new}
use Rattle.convert.proofs.put_records.Goals as goal

pub loop-i-init : goal.loop-i-init
unfolding converted
loop-i-init c = (omega arith, c.requires, rw (zero-mul (16 + c.args.layout.rest)))

pub put_record-requires : goal.put_record-requires
unfolding converted
put_record-requires c = let l = c.loop-i in record { old_in_bounds = inside_old c.args.layout.rest c.args.old.now l.i c.loop-i-test.true; out_in_bounds = inside_new c.args.layout.rest c.args.old.now l.out l.i l.invariant.1 c.loop-i-test.true }

pub loop-i-smaller : goal.loop-i-smaller
unfolding converted
loop-i-smaller c = omega arith

pub loop-i-preserved : goal.loop-i-preserved
unfolding converted
loop-i-preserved c =
    let p = c.put_record in
    let l = c.loop-i in
    let more = c.loop-i-test.true in
    let room = inside_new c.args.layout.rest c.args.old.now l.out l.i l.invariant.1 more in (
      omega arith,
      p.auto.out ∙ l.invariant.1,
      rw p.ensures (one_more c.args.layout.rest c.args.old.now l.out l.i (inside_old c.args.layout.rest c.args.old.now l.i more) (omega (arith, room)) l.invariant.2),
    )

pub shape_of-out : goal.shape_of-out
unfolding converted
shape_of-out c = omega arith

pub returns : goal.returns
unfolding converted
returns c =
    let l = c.loop-i in
    let rest = c.args.layout.rest in
    let done : l.i ≡ length c.args.old.now / (8 + rest) = omega arith in
    sym (take_all (l.i * (16 + rest)) l.out (rw done (omega (arith, l.invariant.1)))) ∙ l.invariant.2 ∙ ap (λ (n : ℕ). together (rows (8 + rest) (widened rest) n c.args.old.now)) done
