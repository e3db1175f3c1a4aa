-- `text::line::digits` meets its contract. Assumes nothing.
use native.Mathlib.Omega.{arith}
use mathlib.Core.Path.{sym, ap}
use lib.ListN.{length}
use Rattle.text.proofs.Decimals.{decimal_digit, has_digits}
use Rattle.text.proofs.line.digits.Goals as goal

pub returns-then-n-eq0 : goal.returns-then-n-eq0
returns-then-n-eq0 c = sym (ap length (decimal_digit c.args.n (omega arith)))

pub returns-else-n-eq0 : goal.returns-else-n-eq0
returns-else-n-eq0 c = let k = c.ilog10 in omega (arith, has_digits k.result c.args.n k.ensures.power_le k.ensures.next_power_gt)
