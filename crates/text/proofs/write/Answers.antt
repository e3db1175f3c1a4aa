-- `text::write` meets its contract. Assumes nothing.
use mathlib.Core.List.{◌++◌}
use Rattle.text.specs.Text.{answer_line, printed}
use Rattle.text.specs.Lines.{text_of_lines, token_lines, lines_of_cells}
use Rattle.text.proofs.Lines.{both, room_first, room_rest}
use Rattle.text.proofs.Whole.{joined_append}
use Rattle.text.proofs.write.Goals as goal

pub put_tokens-tokens-requires : goal.put_tokens-tokens-requires
unfolding printed
put_tokens-tokens-requires c =
    let a = answer_line c.args.answer in
    let ts = token_lines c.args.listing.now in
    let cs = lines_of_cells c.args.cells.now in
    let r = rw (joined_append ts cs) at (room_rest (text_of_lines (ts ++ cs)) c.put_answer-head.ensures c.requires) in
    room_first (text_of_lines ts) (text_of_lines cs) r

pub put_cells-requires : goal.put_cells-requires
unfolding printed
put_cells-requires c =
    let a = answer_line c.args.answer in
    let ts = token_lines c.args.listing.now in
    let cs = lines_of_cells c.args.cells.now in
    let r = rw (joined_append ts cs) at (room_rest (text_of_lines (ts ++ cs)) c.put_answer-head.ensures c.requires) in
    room_rest (text_of_lines cs) c.put_tokens-tokens.ensures r

pub returns : goal.returns
unfolding printed
returns c =
    let a = answer_line c.args.answer in
    let ts = token_lines c.args.listing.now in
    let cs = lines_of_cells c.args.cells.now in
    rw (joined_append ts cs) (both c.put_answer-head.ensures (both c.put_tokens-tokens.ensures c.put_cells.ensures))
