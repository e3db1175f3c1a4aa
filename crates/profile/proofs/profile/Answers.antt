-- `profile::profile` meets its contract: a check that failed leaves everything as lent, and an accepted profile ends as the rules say. Assumes nothing.
use mathlib.Core.Path.{refl, sym, ap, ◌∙◌}
use Rattle.rules.specs.declared.answer.Profiled.{Profiled}
use Rattle.rules.specs.Answer.{values_of}
use Rattle.rules.specs.Run.{answer, ledger_after, cells_after}
use Rattle.rules.specs.Profile.{profile_unless_failed, profiled, profile_answer, profile_after}
use Rattle.profile.proofs.profile.Goals as goal

pub accepted-requires : goal.accepted-requires
unfolding profiled profile_unless_failed profile_answer profile_after answer ledger_after cells_after
accepted-requires c = sym c.check-checked.ensures ∙ c.in-Ok.is

pub returns-in-Err : goal.returns-in-Err
unfolding profiled profile_unless_failed profile_answer profile_after answer ledger_after cells_after
returns-in-Err c =
    let e = sym c.check-checked.ensures ∙ c.in-Err.is in
    let r = c.answered.ensures in
    rw e (record { answered = r; numbers = ap (λ (p : Profiled). values_of p.answer) r; ledger_left = refl; cells_left = refl; profile_left = refl })

pub returns-in-Ok : goal.returns-in-Ok
unfolding profiled profile_unless_failed profile_answer profile_after answer ledger_after cells_after
returns-in-Ok c =
    let e = sym c.check-checked.ensures ∙ c.in-Ok.is in
    let l = c.accepted.ensures in
    rw e (record { answered = λ i. record { answer = l.ended.answered i; records = l.counted i }; numbers = ap values_of l.ended.answered; ledger_left = l.ended.ledger_left; cells_left = l.ended.cells_left; profile_left = l.profile_left })
