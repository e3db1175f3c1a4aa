-- `saved::cell_allowed` meets its contract. Assumes nothing.
use Rattle.rules.specs.Saved.{cell_allowed}
use Rattle.saved.proofs.Laws.{cell_own, told}
use Rattle.saved.proofs.cell_allowed.Goals as goal

pub returns-then-state_allowed : goal.returns-then-state_allowed
unfolding cell_allowed
returns-then-state_allowed c =
    let both = told (cell_allowed c.args.s.now) (cell_own c.args.s.now c.requires (λ i. (c.shared_slice_known-1.given i).fits))
    (rw (← c.state_allowed.ensures, c.if-state_allowed.true) c.zero_until_present.ensures) in
    record { value = both.0; s_value = both.1 }

pub returns-else-state_allowed : goal.returns-else-state_allowed
unfolding cell_allowed
returns-else-state_allowed c =
    let both = told (cell_allowed c.args.s.now) (cell_own c.args.s.now c.requires (λ i. (c.shared_slice_known-1.given i).fits))
    (rw (← c.state_allowed.ensures, c.if-state_allowed.false)) in
    record { value = both.0; s_value = both.1 }
