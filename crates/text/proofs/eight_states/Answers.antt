-- `text::eight_states` meets its contract. Assumes nothing.
use Rattle.text.proofs.Fields.{eight_absent}
use Rattle.text.proofs.eight_states.Goals as goal

pub returns : goal.returns
returns c = λ e. eight_absent c.args.cells.now c.args.k (rw c.row_at-s.ensures at e)
