-- `abi::ttda_replay` meets its contract: the replay as a number, from the promise of `replay`. Assumes nothing.
use Rattle.abi.proofs.ttda_replay.Goals as goal

pub returns : goal.returns
returns c =
    let ran = c.replay in
    record { answer = ran.result; number = c.number_of.ensures; promised = ran.ensures }
