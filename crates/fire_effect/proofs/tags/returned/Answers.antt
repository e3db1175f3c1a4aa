-- `fire_effect::tags::returned` meets its contract. Assumes nothing.
use Rattle.fire_effect.proofs.Does.{refused, made_as, to_site, past_graph}
use Rattle.fire_effect.proofs.tags.returned.Goals as goal

pub returns-then-to-graph : goal.returns-then-to-graph
returns-then-to-graph c = let a = c.args in made_as (to_site a.graph.now a.back a.k a.caller c.if-to-graph.true) c.to_one.ensures

pub returns-else-to-graph : goal.returns-else-to-graph
returns-else-to-graph c = let a = c.args in made_as (past_graph a.graph.now a.back a.k a.caller c.if-to-graph.false) (refused _)
