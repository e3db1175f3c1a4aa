-- `fire_effect::tags::new_tags` meets its contract: each arm makes the tags of its operation. Assumes nothing.
use Prim.Native.Nat.{ℕ}
use mathlib.Core.Path.{◌≡◌, refl}
use mathlib.Core.List.{List, [], ◌∷◌}
use lib.IntN.{ℤ}
use mir.Facts.{to_z-of_z}
use types.Run.{OneOf, miss}
use denote.Enum.Declared.{tag_of}
use Rattle.record.specs.declared.tag.Tag.{Tag}
use Rattle.record.specs.declared.instruction.Instruction.{Instruction}
use Rattle.record.specs.declared.operation.Operation.{Operation}
use Rattle.record.specs.declared.operation.Operation.TheVariants as Operations
use Rattle.record.specs.contracts.operation.Operation.{the_type}
use Rattle.record.specs.GraphRecords.{graph_of}
use Rattle.machine.specs.Machine.{send}
use Rattle.rules.specs.InstructionSet.{all_under}
use Rattle.fire_effect.proofs.Does.{made_as}
use Rattle.fire_effect.specs.Effects.{new_tags_of}
use Rattle.fire_effect.proofs.tags.new_tags.Goals as goal

-- the operations that none of the other arms names, by their numbers as variants: they send to each destination in use
abbrev rest : List ℕ
rest = 0 ∷ 3 ∷ 5 ∷ 9 ∷ 10 ∷ 11 ∷ 12 ∷ []

to_each : (o : Operation) (g : List Instruction) (τ : Tag) (r : Instruction) (b : ℤ) → OneOf rest (tag_of the_type o)
    → (v : ℤ) → new_tags_of o g τ r b v ≡ send v (all_under τ r)
unfolding new_tags_of
to_each Operations.Copy g τ r b h v = refl
to_each Operations.Sink g τ r b h v = absurd (miss rest 1 tt h)
to_each Operations.Out g τ r b h v = absurd (miss rest 2 tt h)
to_each Operations.Const g τ r b h v = refl
to_each Operations.Switch g τ r b h v = absurd (miss rest 4 tt h)
to_each Operations.Gate g τ r b h v = refl
to_each Operations.Next g τ r b h v = absurd (miss rest 6 tt h)
to_each Operations.Enter g τ r b h v = absurd (miss rest 7 tt h)
to_each Operations.Leave g τ r b h v = absurd (miss rest 8 tt h)
to_each Operations.Fetch g τ r b h v = refl
to_each Operations.Store g τ r b h v = refl
to_each (Operations.OnTwo o) g τ r b h v = refl
to_each (Operations.OnConstant o) g τ r b h v = refl
to_each Operations.Unknown g τ r b h v = absurd (miss rest 13 tt h)

pub enter-requires : goal.enter-requires
unfolding new_tags_of
enter-requires c = c.requires.of_enter c.in-Enter.is

pub leave-requires : goal.leave-requires
unfolding new_tags_of
leave-requires c = let p = c.requires in record { graph_width_len_bound = p.records; returns = p.returns; constant_value = p.of_leave c.in-Leave.is }

pub returns-in-Sink : goal.returns-in-Sink
unfolding new_tags_of
returns-in-Sink c = rw c.in-Sink.is c.to_none.ensures

pub returns-in-Out : goal.returns-in-Out
unfolding new_tags_of
returns-in-Out c = rw c.in-Out.is c.to_none-in-Out.ensures

pub returns-in-Switch : goal.returns-in-Switch
unfolding new_tags_of
returns-in-Switch c = rw c.in-Switch.is (rw (to_z-of_z c.ranges.b) at c.switch.ensures)

pub returns-in-Next : goal.returns-in-Next
unfolding new_tags_of
returns-in-Next c = rw c.in-Next.is c.next.ensures

pub returns-in-Enter : goal.returns-in-Enter
unfolding new_tags_of
returns-in-Enter c = rw c.in-Enter.is c.enter.ensures

pub returns-in-Leave : goal.returns-in-Leave
unfolding new_tags_of
returns-in-Leave c = rw c.in-Leave.is c.leave.ensures

pub returns-in-Unknown : goal.returns-in-Unknown
unfolding new_tags_of
returns-in-Unknown c = rw c.in-Unknown.is c.to_none-in-Unknown.ensures

pub returns-in_default : goal.returns-in_default
unfolding new_tags_of
returns-in_default c = let a = c.args in made_as (to_each a.o (graph_of a.graph.now) a.tag a.r a.b c.in_default.in_default-own.keys8) c.to_all.ensures
