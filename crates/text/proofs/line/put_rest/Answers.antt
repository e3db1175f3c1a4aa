-- `text::line::put_rest` meets its contract. Assumes nothing.
use native.Mathlib.Omega.{arith}
use mathlib.Core.List.{[]}
use Rattle.number.specs.Number.{byte_at, number32}
use Rattle.record.specs.TokensAndTags.{decode_token, value_in}
use Rattle.text.specs.Text.{decimal, signed_decimal, state_word}
use Rattle.text.proofs.Lines.{field_room}
use Rattle.text.proofs.TokenFields.{word, value, after_iteration, after_instruction, after_port, after_value, rest_put}
use Rattle.text.proofs.Fields.{value_of}
use Rattle.text.proofs.line.put_rest.Goals as goal

pub put_field-instruction-requires : goal.put_field-instruction-requires
unfolding decode_token
put_field-instruction-requires c =
    let l = c.args.s.now in
    let t = decode_token l in
    let first = c.put_small-iteration.ensures in
    rw c.u16_at.ensures (field_room (decimal t.port) (value t) (decimal t.tag.instruction) (after_iteration t c.requires.1 first))

pub put_small-port-requires : goal.put_small-port-requires
unfolding decode_token
put_small-port-requires c =
    let l = c.args.s.now in
    let t = decode_token l in
    let v = signed_decimal (value_in t.content) in
    let first = c.put_small-iteration.ensures in
    let pf = rw c.u16_at.ensures at c.put_field-instruction.ensures in
    (omega (arith, c.shared_slice_known-3-1.given 17), field_room v (word t) (decimal t.port) (after_instruction t c.requires.1 first pf))

pub put_bits-value-requires : goal.put_bits-value-requires
unfolding decode_token
put_bits-value-requires c =
    let l = c.args.s.now in
    let t = decode_token l in
    let v = signed_decimal (value_in t.content) in
    let u = c.u32_at-bits.ensures in
    let first = c.put_small-iteration.ensures in
    let pf = rw c.u16_at.ensures at c.put_field-instruction.ensures in
    let third = c.put_small-port.ensures in
    rw (u, ← value_of (number32 l 20) (byte_at l 24)) (field_room (state_word t.content) [] v (after_port t c.requires.1 first pf third))

pub put_state_of-requires : goal.put_state_of-requires
unfolding decode_token
put_state_of-requires c =
    let l = c.args.s.now in
    let t = decode_token l in
    let u = c.u32_at-bits.ensures in
    let first = c.put_small-iteration.ensures in
    let pf = rw c.u16_at.ensures at c.put_field-instruction.ensures in
    let third = c.put_small-port.ensures in
    let pb = rw (u, ← value_of (number32 l 20) (byte_at l 24)) at c.put_bits-value.ensures in
    rw u (after_value t c.requires.1 first pf third pb)

pub returns : goal.returns
unfolding decode_token
returns c =
    let first = c.put_small-iteration in
    let third = c.put_small-port in
    let l = c.args.s.now in
    let t = decode_token l in
    let u = c.u32_at-bits.ensures in
    let pf = rw c.u16_at.ensures at c.put_field-instruction.ensures in
    let pb = rw (u, ← value_of (number32 l 20) (byte_at l 24)) at c.put_bits-value.ensures in
    rest_put t first.ensures pf third.ensures pb (rw u at c.put_state_of.ensures)
