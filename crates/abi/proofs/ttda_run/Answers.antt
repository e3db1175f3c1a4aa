-- `abi::ttda_run` meets its contract: the run as a number, from the engine's promise. Assumes nothing.
use Rattle.abi.proofs.ttda_run.Goals as goal

pub returns : goal.returns
returns c =
    let ran = c.run in
    record { answer = ran.result; number = c.number_of.ensures; promised = ran.ensures }
