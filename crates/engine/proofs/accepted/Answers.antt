-- `engine::accepted` meets its contract: bound 0 is none, and what the run leaves is said of the buffers as lent. Assumes nothing.
use mathlib.Core.Path.{ap, ◌∙◌}
use mathlib.Core.List.{List}
use Rattle.record.specs.declared.tag.Tag.{Tag}
use Rattle.record.specs.GraphRecords.{graph_of}
use Rattle.engine.specs.Turns.{recorded}
use Rattle.engine.proofs.Keeping.{fired_plain, proceeded_plain}
use Rattle.engine.proofs.Accepting.{bound_fits, ended_by_bound, logged_by_bound, as_run_lem, as_logged}
use Rattle.engine.proofs.accepted.Goals as goal

pub from_inputs-requires : goal.from_inputs-requires
from_inputs-requires c =
    let o = c.order_under-order in
    (c.requires.0, bound_fits c.args.picks.now c.args.bound c.requires.1 o.result o.ensures, tt)

pub returns : goal.returns
returns c =
    let a = c.args in
    let o = c.order_under-order in
    let g = graph_of a.graph.now in
    let f = c.from_inputs.ensures in record {
      ended_at =
          as_run_lem a.graph.now a.arrays.now a.inputs.now a.picks.now a.ledger.now a.cells.now c.requires.0 f.begun a.budget a.bound _ _ _
          (ended_by_bound a.picks.now a.bound g f.tables f.ledger₁ f.cells₁ f.used a.budget o.result o.ensures (proceeded_plain _ o.result a.picks.now g f.tables f.ledger₁ f.cells₁ f.used a.budget f.proceeded));
      log_after =
          as_logged a.graph.now a.arrays.now a.inputs.now a.picks.now a.ledger.now a.cells.now c.requires.0 f.begun a.budget a.bound _ _
          (f.log_after
          ∙ ap (λ (τs : List Tag). recorded τs a.log.now)
          (fired_plain _ o.result a.picks.now g f.tables f.ledger₁ f.cells₁ f.used a.budget
          ∙ logged_by_bound a.picks.now a.bound g f.tables f.ledger₁ f.cells₁ f.used a.budget o.result o.ensures));
    }
