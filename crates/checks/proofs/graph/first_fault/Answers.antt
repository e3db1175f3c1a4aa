-- `checks::graph::first_fault` meets its contract. Assumes nothing.
use Rattle.checks.proofs.graph.first_fault.Goals as goal

pub returns-then-not-known : goal.returns-then-not-known
returns-then-not-known c = rw (c.at.ensures, c.if-not-known.true)

pub returns-then-not-fields : goal.returns-then-not-fields
returns-then-not-fields c = rw (c.at-then-not-fields.ensures, c.if-not-known.false, c.if-not-fields.true)

pub returns-then-not-arcs : goal.returns-then-not-arcs
returns-then-not-arcs c = rw (c.at-then-not-arcs.ensures, c.if-not-known.false, c.if-not-fields.false, c.if-not-arcs.true)

pub returns-then-not-site : goal.returns-then-not-site
returns-then-not-site c = rw (c.at-then-not-site.ensures, c.if-not-known.false, c.if-not-fields.false, c.if-not-arcs.false, c.if-not-site.true)

pub returns : goal.returns
returns c = rw (c.if-not-known.false, c.if-not-fields.false, c.if-not-arcs.false, c.if-not-site.false)
