-- `activities::count_free` meets its contract: the held activities are found as before the first firing of a run. Assumes nothing.
use Prim.Native.Nat.{ℕ}
use mathlib.Core.Path.{ap, ◌∙◌}
use mathlib.Core.List.{List, []}
use lib.ListN.{length}
use Rattle.store_flags.specs.Flags.{places}
use Rattle.engine.proofs.Bounding.{started_on}
use Rattle.activities.proofs.Counting.{flags_under, flags_free}
use Rattle.activities.proofs.count_free.Goals as goal

pub follow-requires : goal.follow-requires
follow-requires c =
    let f = started_on c.args.graph.now c.requires.0.prepared c.requires.0.running c.args.bound c.requires.1 c.requires.2 in
    (f.arities, f.grown, f.room.0, f.room.1, f.bound.0, f.bound.1, f.unspent, rw (c.new-holds.ensures.0, c.new-holds.ensures.1, c.new-holds.ensures.2) f.carried)

pub new-requires : goal.new-requires
new-requires c = flags_under c.args.graph.now c.requires.0 [] 0 0 [] c.args.bound _ c.follow.ensures.decided

pub returns : goal.returns
returns c table capacity count cs =
    c.count.ensures ∙ ap (λ (l : List ℕ). length (places l)) c.new.ensures
    ∙ flags_free c.args.graph.now c.requires.0 table capacity count cs c.args.bound _ c.follow.ensures.decided
