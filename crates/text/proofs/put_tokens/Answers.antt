-- `text::put_tokens` meets its contract: the lines put so far stand from the start on, and `text` has the path of the last one. Assumes nothing.
use native.Mathlib.Omega.{arith}
use Prim.Native.Nat.{◌/◌, ◌<◌}
use lib.ListN.{length}
use Rattle.record.specs.Widths.{token_width}
use Rattle.text.specs.Lines.{token_lines}
use Rattle.text.proofs.Whole.{made_all}
use Rattle.text.proofs.Fields.{count_tokens, token_at_lem, line_room, line_made}
use Rattle.text.proofs.put_tokens.Goals as goal

pub put_record-at-requires-clause-room_for_text : goal.put_record-at-requires-clause-room_for_text
put_record-at-requires-clause-room_for_text c =
    let k = c.loop-i in
    let g = c.args.listing.now in
    let h : k.i < length g / token_width = omega arith in
    let lt : k.i < length (token_lines g) = omega (arith, count_tokens g) in
    rw c.row_at-row.ensures (rw (token_at_lem g k.i h) at (line_room (token_lines g) k.i lt k.invariant.1 c.requires))

pub loop-i-preserved : goal.loop-i-preserved
loop-i-preserved c =
    let k = c.loop-i in
    let g = c.args.listing.now in
    let h : k.i < length g / token_width = omega arith in
    let lt : k.i < length (token_lines g) = omega (arith, count_tokens g) in (
      omega arith,
      line_made (token_lines g) k.i lt k.invariant.1 (rw (token_at_lem g k.i h) (rw c.row_at-row.ensures at c.put_record-at.ensures)),
      c.keep_path-count.ensures,
    )

pub returns : goal.returns
returns c = let k = c.loop-i in let g = c.args.listing.now in rw (made_all (token_lines g) k.i (omega (arith, count_tokens g))) at k.invariant.1
