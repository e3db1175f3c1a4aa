-- `store_enabled::spend_operands` meets its contract. Assumes nothing.
use Prim.Native.Nat.{◌+◌, ◌*◌}
use mathlib.Core.Path.{refl}
use native.Mathlib.Omega.{arith}
use lib.ListN.{length-set}
use Rattle.store_enabled.proofs.Spending.{in_order_spent}
use Rattle.record.specs.Widths.{token_width, state_offset}
use Rattle.store_enabled.proofs.spend_operands.Goals as goal

pub bounds-ledger-other : goal.bounds-ledger-other
bounds-ledger-other c = let a = c.args in omega (arith, length-set a.ledger.now (a.place * token_width + state_offset) 1, c.requires.3)

pub lower-requires : goal.lower-requires
lower-requires c = (c.requires.1, c.requires.0)

pub returns : goal.returns
returns c = let a = c.args in record { ledger_after = refl; by_index = (λ tables links used w o. in_order_spent tables links a.flags.now a.ledger.now used a.place a.other w o c.lower.new.self c.lower.ensures.flags_after) }
