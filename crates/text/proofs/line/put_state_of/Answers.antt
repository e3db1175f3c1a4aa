-- `text::line::put_state_of` meets its contract. Assumes nothing.
use Rattle.text.proofs.Fields.{word_live, word_spent, word_deferred}
use Rattle.text.proofs.line.put_state_of.Goals as goal

pub returns-then-state-eq0 : goal.returns-then-state-eq0
returns-then-state-eq0 c = rw (word_live c.args.bits c.args.state c.if-state-eq0.true) c.put_word.ensures

pub put_word-requires-then-state-eq1 : goal.put_word-requires-then-state-eq1
put_word-requires-then-state-eq1 c = rw (word_spent c.args.bits c.args.state c.if-state-eq1.true) at c.requires

pub returns-then-state-eq1 : goal.returns-then-state-eq1
returns-then-state-eq1 c = rw (word_spent c.args.bits c.args.state c.if-state-eq1.true) c.put_word-then-state-eq1.ensures

pub put_word-requires-2 : goal.put_word-requires-2
put_word-requires-2 c = rw (word_deferred c.args.bits c.args.state c.if-state-eq0.false c.if-state-eq1.false) at c.requires

pub returns : goal.returns
returns c = rw (word_deferred c.args.bits c.args.state c.if-state-eq0.false c.if-state-eq1.false) c.put_word-2.ensures
