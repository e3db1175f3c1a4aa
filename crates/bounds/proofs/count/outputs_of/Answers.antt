-- `bounds::count::outputs_of` meets its contract: there are two destinations at most. Assumes nothing.
use Prim.Native.Nat.{ℕ, zero, suc, min}
use native.Mathlib.Omega.{arith}
use mathlib.Core.Path.{◌≡◌, refl, sym, ◌∙◌}
use lib.ListN.{length}
use borrow.Author.Tests.{ne_eqb}
use Rattle.record.specs.declared.instruction.Destination.{Destination}
use Rattle.record.specs.GraphRecords.{in_use}
use Rattle.rules.specs.Needs.{outputs_needed}
use Rattle.check_fields.proofs.Operations.{switch_code, not_switch}
use Rattle.bounds.proofs.count.outputs_of.Goals as goal

few : (n : ℕ) (d e : Destination) → min n 2 ≡ length (in_use n d e)
few zero d e = refl
few (suc zero) d e = refl
few (suc (suc n)) d e = omega arith

pub returns-in-Switch : goal.returns-in-Switch
unfolding outputs_needed
returns-in-Switch c = (rw (switch_code c.args.r.code (sym c.from.ensures ∙ c.in-Switch.is)), omega arith)

pub returns-in_default : goal.returns-in_default
unfolding outputs_needed
returns-in_default c = (rw (ne_eqb _ _ (not_switch c.args.r.code (λ e. c.in_default.not-Switch (c.from.ensures ∙ e)))) (c.min.ensures ∙ few c.args.r.fanout c.args.r.first c.args.r.second), omega (arith, c.min.ensures))
