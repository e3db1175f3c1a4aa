-- `engine::choice::free_at` meets its contract: where none is held back, what is free is all that is enabled. Assumes nothing.
use Prim.Native.Nat.{ℕ, ◌<◌}
use mathlib.Core.Path.{sym, ap, subst, ◌∙◌}
use mathlib.Core.List.{List}
use lib.ListN.{length, get_or}
use Rattle.store_flags.specs.Flags.{places}
use Rattle.engine.proofs.Bounding.{all_free_lem}
use Rattle.engine.proofs.choice.free_at.Goals as goal

pub select-requires : goal.select-requires
select-requires c =
    let all = all_free_lem c.args.flags.now c.args.held.now (sym c.count.ensures.value ∙ c.if-count-eq0.true) in
    subst (λ (l : List ℕ). c.args.k < length (places l)) all c.requires.1

pub new-requires : goal.new-requires
new-requires c = c.requires.0

pub select-requires-else-count-eq0 : goal.select-requires-else-count-eq0
select-requires-else-count-eq0 c = rw c.new.ensures c.requires.1

pub returns-then-count-eq0 : goal.returns-then-count-eq0
returns-then-count-eq0 c =
    let all = all_free_lem c.args.flags.now c.args.held.now (sym c.count.ensures.value ∙ c.if-count-eq0.true) in
    c.select.ensures.0 ∙ ap (λ (l : List ℕ). get_or (places l) c.args.k 0) (sym all)

pub returns-else-count-eq0 : goal.returns-else-count-eq0
returns-else-count-eq0 c = c.select-else-count-eq0.ensures.0 ∙ ap (λ (l : List ℕ). get_or (places l) c.args.k 0) c.new.ensures
