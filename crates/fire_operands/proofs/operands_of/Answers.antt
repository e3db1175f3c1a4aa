-- `fire_operands::operands_of` meets its contract: the token at the place is an operand by proofs/Earliest. Assumes nothing.
use mir.Facts.{to_z-of_z}
use mir.Syntax.{w32}
use mir.Val.{SFits}
use Rattle.fire_operands.proofs.Earliest.{within, place_low, alone, other_within, as_first, as_second}
use Rattle.fire_operands.proofs.operands_of.Goals as goal

pub read-t-requires : goal.read-t-requires
read-t-requires c = within c.requires.0 c.requires.1

pub returns-then-arity-ne2 : goal.returns-then-arity-ne2
returns-then-arity-ne2 c =
    let v = c.value_in-own in
    rw (to_z-of_z {w = w32} (record { sfits = v.type_inv }), v.ensures, ← c.read-t.ensures) (alone c.requires.0 c.requires.1 _ c.read-t.ensures c.if-arity-ne2.true)

pub partner-requires : goal.partner-requires
partner-requires c = place_low c.requires.0 c.requires.1

pub read-u-requires : goal.read-u-requires
read-u-requires c =
    let f = c.partner in
    rw c.unwrap_or-other.ensures (other_within c.requires.0 c.requires.1 _ c.read-t.ensures c.if-arity-ne2.false f.result f.ensures)

pub returns-then-t-eq0 : goal.returns-then-t-eq0
returns-then-t-eq0 c =
    let v = c.value_in-own in
    let u = c.value_in-value in
    let left : SFits w32 v.result = record { sfits = v.type_inv } in
    let right : SFits w32 u.result = record { sfits = u.type_inv } in
    rw (to_z-of_z left, to_z-of_z right, v.ensures, u.ensures, c.read-u.ensures, c.unwrap_or-other.ensures, ← c.read-t.ensures)
    (as_first c.requires.0 c.requires.1 _ c.read-t.ensures c.if-arity-ne2.false c.partner.result c.partner.ensures c.if-t-eq0.true)

pub returns-else-t-eq0 : goal.returns-else-t-eq0
returns-else-t-eq0 c =
    let v = c.value_in-own in
    let u = c.value_in-value in
    let left : SFits w32 v.result = record { sfits = v.type_inv } in
    let right : SFits w32 u.result = record { sfits = u.type_inv } in
    rw (to_z-of_z left, to_z-of_z right, v.ensures, u.ensures, c.read-u.ensures, c.unwrap_or-other.ensures, ← c.read-t.ensures)
    (as_second c.requires.0 c.requires.1 _ c.read-t.ensures c.if-arity-ne2.false c.partner.result c.partner.ensures c.if-t-eq0.false)
