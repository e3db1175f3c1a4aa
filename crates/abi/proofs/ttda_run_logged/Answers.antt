-- `abi::ttda_run_logged` meets its contract: the run as a number, from the engine's promise. Assumes nothing.
use Rattle.abi.proofs.ttda_run_logged.Goals as goal

pub returns : goal.returns
returns c =
    let ran = c.run_logged in
    record { answer = ran.result; number = c.number_of.ensures; promised = ran.ensures }
