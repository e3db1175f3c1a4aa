-- `text::line::put_path_digits` meets its contract (`Putting` of proofs/Lines). Assumes nothing.
use Rattle.record.specs.Paths.{path_number}
use Rattle.text.proofs.Lines.{Putting}
use Rattle.text.proofs.line.put_path_digits.Given as goal

abbrev pub invariant-loop-left : goal.invariant-loop-left
invariant-loop-left l = Putting l.initial.out l.at l.k (path_number l.fn.path) l.out (path_number l.rest) l.left
