-- `record::tag::Path::is_root` meets its contract. Assumes nothing.
use Rattle.std.proofs.Common.{ap, ne_eqb}
use Rattle.record.specs.declared.tag.Path.{Path}
use Rattle.record.proofs.Paths.{root_high, not_root}
use Rattle.record.proofs.tag.Path.is_root.Goals as goal

pub returns-then-self-eq0 : goal.returns-then-self-eq0
returns-then-self-eq0 c = root_high c.args.self c.if-self-eq0.true

pub returns-else-self-eq0 : goal.returns-else-self-eq0
returns-else-self-eq0 c = rw (ne_eqb _ _ c.if-self-eq0.false, not_root c.args.self (λ e. c.if-self-eq0.false (ap (λ (p : Path). p.low) e)))
