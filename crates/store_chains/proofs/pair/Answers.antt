-- `store_chains::pair` meets its contract. Assumes nothing.
use Prim.Native.Nat.{◌<◌}
use mathlib.Core.Path.{refl}
use native.Mathlib.Omega.{arith}
use Rattle.store_chains.proofs.pair.Goals as goal
use Rattle.store_chains.proofs.pair.Goals.{In-Some}

-- a partner stands before
low : (c : In-Some) → let n = c.args.used in (c.in-Some.i < n) × (n < 2048)
low c = (rw c.in-Some.is at c.requires.1, c.requires.0)

pub overflow_add-links : goal.overflow_add-links
overflow_add-links c = omega (arith, (low c).0, (low c).1)

pub overflow_cast-links : goal.overflow_cast-links
overflow_cast-links c = omega (arith, (low c).0, (low c).1)

pub overflow_add-links-in-Some : goal.overflow_add-links-in-Some
overflow_add-links-in-Some c = omega (arith, (low c).0, (low c).1)

pub offset_bounds-links-used : goal.offset_bounds-links-used
offset_bounds-links-used c = omega (arith, (low c).0, (low c).1)

pub bounds-links-used : goal.bounds-links-used
bounds-links-used c = omega (arith, (low c.before).0, (low c.before).1)

pub overflow_add-links-in-Some-2 : goal.overflow_add-links-in-Some-2
overflow_add-links-in-Some-2 c = omega (arith, (low c.before).0, (low c.before).1)

pub overflow_cast-links-in-Some : goal.overflow_cast-links-in-Some
overflow_cast-links-in-Some c = omega (arith, (low c.before).0, (low c.before).1)

pub overflow_add-links-in-Some-3 : goal.overflow_add-links-in-Some-3
overflow_add-links-in-Some-3 c = omega (arith, (low c.before).0, (low c.before).1)

pub offset_bounds-links-i : goal.offset_bounds-links-i
offset_bounds-links-i c = omega (arith, (low c.before).0, (low c.before).1)

pub bounds-links-i : goal.bounds-links-i
bounds-links-i c = omega (arith, (low c.before).0, (low c.before).1)

pub returns-in-Some : goal.returns-in-Some
returns-in-Some c = rw c.in-Some.is refl

pub returns-in-None : goal.returns-in-None
returns-in-None c = rw c.in-None.is refl
