-- `text::line::put_outcome` meets its contract: each outcome has its word, and a refusal its number. Assumes nothing.
use Rattle.text.proofs.Lines.{both}
use Rattle.text.proofs.line.put_outcome.Goals as goal

pub returns-in-Refused : goal.returns-in-Refused
returns-in-Refused c =
    let n = rw c.number.ensures at c.put_number.ensures in
    rw c.in-Refused.is (both c.put_word-word.ensures n)
