-- `expression::to_graph` meets its contract. Assumes nothing.
use Rattle.std.proofs.Common.{Ok}
use Prim.Native.Nat.{ℕ, suc, ◌+◌, ◌/◌}
use native.Mathlib.Omega.{arith}
use mathlib.Core.Path.{◌≡◌, sym, ap, ◌∙◌}
use mathlib.Core.List.{List}
use lib.ListN.{length}
use Rattle.record.specs.ExpressionRecords.{expression_of}
use Rattle.record.specs.Widths.{term_width}
use Rattle.check_fields.proofs.Turns.{handed_on}
use Rattle.expression.proofs.Terms.{length_terms}
use Rattle.expression.proofs.to_graph.Goals as goal

records : (s : List ℕ) → length s / term_width + 1 ≡ suc (length (expression_of s))
records s = omega (arith, length_terms s)

pub returns-in_err-made : goal.returns-in_err-made
returns-in_err-made c =
    let failed = sym c.made.ensures ∙ c.in_err-made.was in
    record { answered = rw (handed_on c.from_residual.ensures, failed); output_left = rw failed }

pub write-requires : goal.write-requires
write-requires c = sym c.made.ensures ∙ c.in_ok-made.was

pub shape_of-graph : goal.shape_of-graph
shape_of-graph c = c.write.auto.graph

pub returns : goal.returns
returns c =
    let s = c.args.expression.now in
    let ok = sym c.made.ensures ∙ c.in_ok-made.was in
    record { answered = rw ok (ap Ok (records s)); output_left = rw ok c.write.ensures }
