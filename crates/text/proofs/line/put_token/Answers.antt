-- `text::line::put_token` meets its contract: its six fields, each with the byte that ends it. Assumes nothing.
use mathlib.Core.List.{[]}
use mir.Facts.{to_z-of_z}
use mir.Syntax.{w32}
use mir.Val.{SFits}
use Rattle.record.specs.Paths.{path_number}
use Rattle.text.specs.Text.{decimal, signed_decimal, state_word, token_line}
use Rattle.text.proofs.Fields.{word_of_state}
use Rattle.text.proofs.Lines.{field_room, with_rest}
use Rattle.text.proofs.TokenFields.{instruction, after_path, after_port, after_value, rest_put}
use Rattle.record.specs.TokensAndTags.{value_in}
use Rattle.text.proofs.line.put_token.Goals as goal

pub put_signed-value-requires : goal.put_signed-value-requires
unfolding token_line
put_signed-value-requires c =
    let t = c.args.t in
    let p = after_path t c.requires c.put_path-path.ensures in
    let z = c.value_in in
    let f : SFits w32 z.result = record { sfits = z.type_inv } in
    rw (to_z-of_z f, z.ensures) (field_room (state_word t.content) [] (signed_decimal (value_in t.content)) (after_port t p c.put_number-iteration.ensures c.put_number-instruction.ensures c.put_number-port.ensures))

pub put_state_of-requires : goal.put_state_of-requires
unfolding token_line
put_state_of-requires c =
    let t = c.args.t in
    let p = after_path t c.requires c.put_path-path.ensures in
    let z = c.value_in in
    let f : SFits w32 z.result = record { sfits = z.type_inv } in
    let v = rw (to_z-of_z f, z.ensures) at c.put_signed-value.ensures in
    rw (c.state_of.ensures, word_of_state t.content) (after_value t p c.put_number-iteration.ensures c.put_number-instruction.ensures c.put_number-port.ensures v)

pub returns : goal.returns
unfolding token_line
returns c =
    let t = c.args.t in
    let z = c.value_in in
    let f : SFits w32 z.result = record { sfits = z.type_inv } in
    let v = rw (to_z-of_z f, z.ensures) at c.put_signed-value.ensures in
    let w = rw (c.state_of.ensures, word_of_state t.content) at c.put_state_of.ensures in
    let r = rest_put t c.put_number-iteration.ensures c.put_number-instruction.ensures c.put_number-port.ensures v w in
    with_rest (decimal t.tag.iteration) (instruction t) (decimal (path_number t.tag.path)) c.put_path-path.ensures r
