-- `profile::bytes_of` meets its contract. Assumes nothing.
use Rattle.rules.specs.Profile.{encode_step}
use Rattle.profile.proofs.bytes_of.Goals as goal

pub returns : goal.returns
unfolding encode_step
returns c = rw (c.to_le_bytes.ensures, c.to_le_bytes-2.ensures)
