-- `text::put_line` meets its contract: the first line is the answer's, then each record has one. Assumes nothing.
use Rattle.text.proofs.Whole.{line_token, line_cell}
use Rattle.text.proofs.put_line.Goals as goal

pub put_token-requires : goal.put_token-requires
put_token-requires c =
    let a = c.args in
    let e = line_token a.answer a.listing.now a.cells.now a.j c.if-j-eq0.false c.if-j-tokens.true in
    rw c.read.ensures (rw e at c.requires.1)

pub put_cell-requires : goal.put_cell-requires
put_cell-requires c =
    let a = c.args in
    let e = line_cell a.answer a.listing.now a.cells.now a.j c.if-j-tokens.false c.requires.0 in
    rw c.read-else-j-tokens.ensures (rw e at c.requires.1)

pub returns-then-j-tokens : goal.returns-then-j-tokens
returns-then-j-tokens c =
    let a = c.args in
    let e = line_token a.answer a.listing.now a.cells.now a.j c.if-j-eq0.false c.if-j-tokens.true in
    rw e (rw c.read.ensures at c.put_token.ensures)

pub returns-else-j-tokens : goal.returns-else-j-tokens
returns-else-j-tokens c =
    let a = c.args in
    let e = line_cell a.answer a.listing.now a.cells.now a.j c.if-j-tokens.false c.requires.0 in
    rw e (rw c.read-else-j-tokens.ensures at c.put_cell.ensures)
