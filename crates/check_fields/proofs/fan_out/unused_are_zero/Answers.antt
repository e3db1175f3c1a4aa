-- `check_fields::fan_out::unused_are_zero` meets its contract. Assumes nothing.
use mathlib.Core.Path.{sym}
use mir.Facts.{to_z-of_z}
use mir.Val.{SFits}
use mir.Syntax.{w32}
use Rattle.rules.specs.Check.{unused_are_zero}
use Rattle.check_fields.proofs.fan_out.unused_are_zero.Goals as goal

pub returns-then-constant_used_or_zero : goal.returns-then-constant_used_or_zero
unfolding unused_are_zero
returns-then-constant_used_or_zero c =
    let fits : SFits w32 c.args.r.constant = record { sfits = c.struct_told-1.given.1.1.1.1.0.1 } in
    let used = rw (to_z-of_z fits) at c.constant_used_or_zero.ensures _ (sym c.from.ensures) in
    rw (← c.used_or_zero.ensures, c.if-used_or_zero.true, ← c.used_or_zero-then-used_or_zero.ensures, c.if-used_or_zero-2.true, ← used, c.if-constant_used_or_zero.true)

pub returns-else-constant_used_or_zero : goal.returns-else-constant_used_or_zero
unfolding unused_are_zero
returns-else-constant_used_or_zero c =
    let fits : SFits w32 c.args.r.constant = record { sfits = c.struct_told-1.given.1.1.1.1.0.1 } in
    let used = rw (to_z-of_z fits) at c.constant_used_or_zero.ensures _ (sym c.from.ensures) in
    rw (← c.used_or_zero.ensures, c.if-used_or_zero.true, ← c.used_or_zero-then-used_or_zero.ensures, c.if-used_or_zero-2.true, ← used, c.if-constant_used_or_zero.false)

pub returns-else-used_or_zero-2 : goal.returns-else-used_or_zero-2
unfolding unused_are_zero
returns-else-used_or_zero-2 c = rw (← c.used_or_zero.ensures, c.if-used_or_zero.true, ← c.used_or_zero-then-used_or_zero.ensures, c.if-used_or_zero-2.false)

pub returns-else-used_or_zero : goal.returns-else-used_or_zero
unfolding unused_are_zero
returns-else-used_or_zero c = rw (← c.used_or_zero.ensures, c.if-used_or_zero.false)
