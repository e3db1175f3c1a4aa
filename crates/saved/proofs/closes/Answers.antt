-- `saved::closes` meets its contract. Assumes nothing.
use Rattle.saved.specs.Passes.{closes_at}
use Rattle.saved.proofs.closes.Goals as goal

pub returns-then-not-spent_of_two : goal.returns-then-not-spent_of_two
unfolding closes_at
returns-then-not-spent_of_two c = rw (← c.spent_of_two.ensures c.args.ledger.now c.args.i c.requires.0, c.if-not-spent_of_two.true)

pub returns : goal.returns
unfolding closes_at
returns c =
    rw (
      ← c.spent_of_two.ensures c.args.ledger.now c.args.i c.requires.0,
      c.if-not-spent_of_two.false,
      ← c.requires.0,
      ← c.find.ensures.0,
    )
    c.spent_found.ensures
