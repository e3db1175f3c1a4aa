-- `text::line::put_last_digits` meets its contract (`Putting` of proofs/Lines). Assumes nothing.
use Rattle.text.proofs.Lines.{Putting}
use Rattle.text.proofs.line.put_last_digits.Given as goal

abbrev pub invariant-loop-left : goal.invariant-loop-left
invariant-loop-left l = Putting l.initial.out l.at l.k l.n l.out l.rest l.left
