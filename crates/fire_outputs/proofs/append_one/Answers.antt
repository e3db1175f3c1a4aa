-- `fire_outputs::append_one` meets its contract. Assumes nothing.
use Rattle.fire_outputs.proofs.Laws.{kept_arrived}
use Rattle.fire_outputs.specs.Outputs.{token_out}
use Rattle.fire_outputs.proofs.append_one.Goals as goal

pub returns : goal.returns
returns c =
    let p = c.arrive.ensures in
    kept_arrived c.requires.0 (token_out c.args.content c.args.key) c.requires.1 p.ledger_after p.ledger_after_2 p.cases
