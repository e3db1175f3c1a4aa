-- `arithmetic::compute` meets its contract: each arm calls the function of its operation. Assumes nothing.
use mathlib.Core.Path.{◌≡◌}
use lib.IntN.{ℤ}
use mir.Syntax.{w32}
use mir.Val.{to_z, of_z}
use mir.Facts.{to_z-of_z}
use Rattle.std.specs.Prelude.{Option}
use Rattle.record.specs.declared.operation.Arithmetic.{Arithmetic}
use Rattle.arithmetic.specs.Arithmetic.{compute_of}
use Rattle.arithmetic.proofs.compute.Goals as goal
use Rattle.arithmetic.proofs.compute.Goals.{Start}

-- an arm's operation is op, and its operands are what the machine reads back of a and b
arm : (s : Start) {o : Arithmetic} {r : Option ℤ} → s.args.op ≡ o → r ≡ compute_of o (to_z w32 (of_z w32 s.args.a)) (to_z w32 (of_z w32 s.args.b)) → r ≡ compute_of s.args.op s.args.a s.args.b
arm s e h = rw (e, ← to_z-of_z s.ranges.a, ← to_z-of_z s.ranges.b) h

pub returns-in-Add : goal.returns-in-Add
returns-in-Add c = arm c.before.before c.in-Add.is c.add.ensures

pub returns-in-Sub : goal.returns-in-Sub
returns-in-Sub c = arm c.before.before c.in-Sub.is c.sub.ensures

pub returns-in-Mul : goal.returns-in-Mul
returns-in-Mul c = arm c.before.before c.in-Mul.is c.mul.ensures

pub returns-in-Div : goal.returns-in-Div
returns-in-Div c = arm c.before.before c.in-Div.is c.div.ensures

pub returns-in-Rem : goal.returns-in-Rem
returns-in-Rem c = arm c.before.before c.in-Rem.is c.rem.ensures

pub returns-in-Lt : goal.returns-in-Lt
returns-in-Lt c = arm c.before.before c.in-Lt.is c.lt.ensures

pub returns-in-Le : goal.returns-in-Le
returns-in-Le c = arm c.before.before c.in-Le.is c.le.ensures
