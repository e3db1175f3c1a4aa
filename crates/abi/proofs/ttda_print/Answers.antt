-- `abi::ttda_print` meets its contract: the printed lines as a number of bytes, from text's promise. Assumes nothing.
use mathlib.Core.Path.{ap, sym, ◌∙◌}
use Rattle.abi.specs.Numbers.{length_of}
use Rattle.abi.proofs.ttda_print.Goals as goal

pub returns-in_default : goal.returns-in_default
returns-in_default c = let none = sym c.unpack.ensures ∙ c.in_default.is in record { value = rw none; out_after = rw none }

pub returns-in-Ok : goal.returns-in-Ok
returns-in-Ok c =
    let e = sym c.unpack.ensures ∙ c.in-Some.is in record { value = rw e (ap length_of (sym c.in-Ok.is ∙ c.print.ensures.value)); out_after = rw e c.print.ensures.out_after }

pub returns-in-Err : goal.returns-in-Err
returns-in-Err c =
    let e = sym c.unpack.ensures ∙ c.in-Some.is in record { value = rw e (ap length_of (sym c.in-Err.is ∙ c.print.ensures.value)); out_after = rw e c.print.ensures.out_after }
