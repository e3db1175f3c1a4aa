-- `checks::graph::record` meets its contract. Each test is that of the rule. Assumes nothing.
use Rattle.rules.specs.Check.{check_record}
use Rattle.checks.proofs.graph.record.Goals as goal

pub returns : goal.returns
unfolding check_record
returns c = rw (← c.of-known.ensures, ← c.good-fields.ensures, ← c.all_good-arcs.ensures, ← c.good-site.ensures _ c.requires) c.first_fault.ensures
