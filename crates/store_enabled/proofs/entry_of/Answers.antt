-- `store_enabled::entry_of` meets its contract: the tables end with the last entry. Assumes nothing.
use mathlib.Core.Path.{sym}
use lib.ListN.{get_or-eq_default}
use Rattle.store_enabled.proofs.entry_of.Goals as goal

pub returns-else-i-tables : goal.returns-else-i-tables
returns-else-i-tables c = sym (get_or-eq_default c.args.tables.now 0 c.if-i-tables.false)
