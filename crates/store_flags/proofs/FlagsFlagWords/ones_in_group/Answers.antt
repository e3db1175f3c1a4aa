-- `ones_in_group` of a `store_flags::Flags` meets its contract. Assumes nothing.
use Rattle.store_flags.proofs.Words.{group_count, flag_list}
use Rattle.store_flags.proofs.FlagsFlagWords.ones_in_group.Goals as goal

pub returns : goal.returns
returns c = rw (← c.self.view_is) record { value = group_count c.self.invariant.0 c.args.g c.requires; list = flag_list c.self.invariant.0 }
