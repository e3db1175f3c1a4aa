-- `text::line::put_last_digits` meets its contract (`Putting` of proofs/Lines). Assumes nothing.
use native.Mathlib.Omega.{arith}
use Rattle.text.proofs.Lines.{putting_next, putting_last}
use Rattle.text.proofs.line.put_last_digits.Goals as goal

pub loop-left-preserved : goal.loop-left-preserved
loop-left-preserved c =
    let l = c.loop-left in
    putting_next c.args.out.now c.args.at c.args.k c.args.n l.out l.rest l.left c.requires (omega arith) l.invariant

pub returns : goal.returns
returns c =
    let l = c.loop-left in
    putting_last c.args.out.now c.args.at c.args.k c.args.n l.out l.rest l.left c.requires (omega arith) l.invariant
