-- `check_inputs::check` meets its contract. Assumes nothing.
use borrow.Author.Tests.{le-leb, lt-leb}
use Rattle.rules.specs.Check.{check_inputs}
use Rattle.check_fields.proofs.Turns.{handed_on}
use Rattle.check_inputs.proofs.Tokens.{length_tokens}
use Rattle.check_inputs.proofs.check.Goals as goal

pub returns-in_err-fields : goal.returns-in_err-fields
unfolding check_inputs
returns-in_err-fields c = rw (handed_on c.from_residual.ensures, ← c.fields.ensures, c.in_err-fields.was)

pub returns-then-capacity-inputs : goal.returns-then-capacity-inputs
unfolding check_inputs
returns-then-capacity-inputs c = rw (c.at.ensures, ← c.fields.ensures, c.in_ok-fields.was, length_tokens c.args.inputs.now, lt-leb _ _ c.if-capacity-inputs.true)

pub returns : goal.returns
unfolding check_inputs
returns c = rw (← c.fields.ensures, c.in_ok-fields.was, length_tokens c.args.inputs.now, le-leb _ _ c.if-capacity-inputs.false) c.second.ensures
