-- The value of an expression as a number, from `value`'s promise. Assumes nothing.
use Rattle.std.proofs.Common.{ℤ, Result}
use Prim.Native.Nat.{ℕ, ◌/◌, ◌%◌}
use mathlib.Core.Path.{◌≡◌, ap, ◌∙◌}
use mir.Syntax.{w32}
use mir.Val.{SFits}
use mir.Facts.{to_z-of_z}
use Rattle.number.specs.Number.{bits_of}
use Rattle.rules.specs.Answer.{values_of}
use Rattle.rules.specs.declared.answer.Answer.{Answer}
use Rattle.rules.specs.declared.answer.Fault.{Fault}
use Rattle.abi.specs.Numbers.{packed, value_number}
use Rattle.abi.proofs.ttda_expression_value.Goals as goal

pub returns-in-Ok : goal.returns-in-Ok
returns-in-Ok c =
    let fits : SFits w32 c.in-Ok.v = record { sfits = c.in-Ok.known_told-1-own.given.0.1 } in
    let bits : c.bits-bits.result ≡ bits_of c.in-Ok.v = c.bits-bits.ensures ∙ ap bits_of (to_z-of_z fits) in
    c.number_of.ensures ∙ ap (λ (b : ℕ). packed (record { word = 0; firings = b % 65536; tokens = b / 65536; place = 0 })) bits
    ∙ ap (λ (x : Result ℤ Fault). packed (value_number x)) c.in-Ok.ensures

pub returns-in-Err : goal.returns-in-Err
returns-in-Err c =
    c.number_of-in-Err.ensures ∙ ap (λ (a : Answer). packed (values_of a)) c.refused.ensures
    ∙ ap (λ (x : Result ℤ Fault). packed (value_number x)) c.in-Err.ensures
