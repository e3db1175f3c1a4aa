-- `abi_profile::ttda_profile` meets its contract: the profile as a number, from profile's promise. Assumes nothing.
use Rattle.abi_profile.proofs.ttda_profile.Goals as goal

pub returns : goal.returns
returns c =
    let ran = c.profile-profiled in
    record { answer = ran.result.answer; number = c.number_of.ensures; promised = ran.ensures }
