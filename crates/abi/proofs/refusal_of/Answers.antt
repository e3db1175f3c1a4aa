-- `abi::refusal_of` meets its contract: the number of the last arm is no refusal's. Assumes nothing.
use Rattle.std.specs.Prelude.{Some, None}
use Rattle.rules.specs.Answer.{number_of}
use Rattle.abi.specs.Numbers.{refusals, refusal_of}
use Rattle.record.proofs.LastArm.{last_arm}
use Rattle.abi.proofs.refusal_of.Goals as goal

pub returns-in_default : goal.returns-in_default
unfolding refusal_of
returns-in_default c = last_arm number_of Some (λ n. None) refusals c.args.word c.in_default.in_default-own.rest
