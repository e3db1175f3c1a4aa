-- `profile::put_record` meets its contract. Assumes nothing.
use mathlib.Core.Path.{◌∙◌}
use Rattle.profile.proofs.put_record.Goals as goal

pub returns : goal.returns
returns c = c.put_row.ensures ∙ rw c.bytes_of-bytes.ensures
