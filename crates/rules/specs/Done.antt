-- The number that C gets of what is done or refused. Assumes nothing.
use Rattle.std.specs.Prelude.{ℕ, Result, Ok, Err}
use Rattle.rules.specs.Answer.{number_of}
use Rattle.rules.specs.declared.answer.Refusal.{Refusal}

-- 0 where it is done, and else the number of the refusal
abbrev pub done_number : Result Unit Refusal → ℕ
done_number (Ok _) = 0
done_number (Err r) = number_of r
