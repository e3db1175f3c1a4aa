-- `abi::ttda_carry_on` meets its contract: the run from a saved state as a number, from the engine's promise. Assumes nothing.
use Rattle.abi.proofs.ttda_carry_on.Goals as goal

pub returns : goal.returns
returns c =
    let ran = c.carry_on in
    record { answer = ran.result; number = c.number_of.ensures; promised = ran.ensures }
