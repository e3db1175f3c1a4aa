-- `text::line::put_path_digits` meets its contract (`Putting` of proofs/Lines). Assumes nothing.
use native.Mathlib.Omega.{arith}
use mathlib.Core.Path.{ap, ◌∙◌}
use Rattle.record.specs.Paths.{path_number}
use Rattle.record.proofs.Paths.{number_words}
use Rattle.text.proofs.Lines.{putting_next, putting_last}
use Rattle.text.proofs.line.put_path_digits.Goals as goal

pub loop-left-preserved : goal.loop-left-preserved
loop-left-preserved c =
    let b = c.by_ten-d in
    let l = c.loop-left in
    let q = ap path_number b.ensures.0 ∙ number_words _ in
    rw (q, b.ensures.1) (putting_next c.args.out.now c.args.at c.args.k (path_number c.args.path) l.out (path_number l.rest) l.left c.requires (omega arith) l.invariant)

pub returns : goal.returns
returns c =
    let l = c.loop-left in
    putting_last c.args.out.now c.args.at c.args.k (path_number c.args.path) l.out (path_number l.rest) l.left c.requires (omega arith) l.invariant
