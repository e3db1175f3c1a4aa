-- `abi_ranges::ttda_run_ranges` meets its contract: the range run as a number, from its promise. Assumes nothing.
use Rattle.abi_ranges.proofs.ttda_run_ranges.Goals as goal

pub returns : goal.returns
returns c =
    let ran = c.run_ranges in
    record { answer = ran.result; number = c.number_of.ensures; promised = ran.ensures }
