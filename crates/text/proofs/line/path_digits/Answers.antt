-- `text::line::path_digits` meets its contract: a digit less with each turn, until the lower word holds the rest. Assumes nothing.
use borrow.Author.Rules.{rules}
use native.Mathlib.Omega.{arith}
use mathlib.Core.Path.{ap, ◌∙◌}
use lib.ListN.{length}
use Rattle.record.specs.Paths.{path_number, PathFits}
use Rattle.record.proofs.Paths.{number_words}
use Rattle.text.specs.Text.{decimal}
use Rattle.text.proofs.Paths.{more_digits, lower_only, path_short}
use Rattle.text.proofs.line.path_digits.Goals as goal

pub overflow_add-k : goal.overflow_add-k
overflow_add-k c =
    let l = c.loop-rest in
    let f : PathFits c.args.path = record { low = search rules; high = search rules } in
    record { fits = omega (arith, path_short c.args.path f, l.invariant) }

pub loop-rest-preserved : goal.loop-rest-preserved
loop-rest-preserved c =
    let l = c.loop-rest in
    let q = ap path_number c.by_ten-d.ensures.0 ∙ number_words _ in
    rw q (omega (arith, more_digits l.rest c.loop-rest-test.true, l.invariant))

pub overflow_add-result : goal.overflow_add-result
overflow_add-result c =
    let l = c.loop-rest in
    let f : PathFits c.args.path = record { low = search rules; high = search rules } in
    let e = lower_only l.rest c.loop-rest-test.false in
    record { fits = omega (arith, path_short c.args.path f, l.invariant, c.digits.ensures, ap (λ n. length (decimal n)) e) }

pub returns : goal.returns
returns c =
    let l = c.loop-rest in
    let e = lower_only l.rest c.loop-rest-test.false in
    omega (arith, l.invariant, c.digits.ensures, ap (λ n. length (decimal n)) e)
