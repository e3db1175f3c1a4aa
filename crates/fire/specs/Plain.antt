-- Working definition: no public promise cites it.
-- The plain operation is one for a firing: an effect of the rules is the operation and then the new tags, and is sound. Assumes nothing.
use Prim.Native.Nat.{ℕ, ◌/◌, ◌<◌}
use mathlib.Core.Path.{◌≡◌, refl}
use mathlib.Core.List.{List}
use lib.ListN.{length}
use lib.IntN.{ℤ}
use Rattle.record.specs.declared.array.NamedArray.{NamedArray}
use Rattle.record.specs.declared.tag.Tag.{Tag}
use Rattle.record.specs.GraphRecords.{graph_of, instruction_in, operation_of}
use Rattle.record.specs.Widths.{graph_width}
use Rattle.rules.specs.InstructionSet.{effect_in}
use Rattle.rules.proofs.Lawful.{lawful}
use Rattle.fire_effect.specs.Effects.{operated_of, then_tags, new_tags_of}
use Rattle.fire_effect.proofs.Arrives.{cells_below_lem, all_arrive}
use Rattle.fire_effect.proofs.Passed.{in_bytes}
use Rattle.fire_effect.proofs.Parted.{parted}
use Rattle.fire.specs.Operating.{InTurn, AllSound}

plain_asked : (graph : List ℕ) (table : List NamedArray) (cells : ℕ) (τ : Tag) (a b : ℤ) → τ.instruction < length graph / graph_width
    → effect_in (graph_of graph) table cells τ a b
    ≡ then_tags (operated_of (operation_of (instruction_in graph τ.instruction).code) table (instruction_in graph τ.instruction).constant cells a b)
    (new_tags_of (operation_of (instruction_in graph τ.instruction).code) (graph_of graph) τ (instruction_in graph τ.instruction) b)
unfolding effect_in
plain_asked graph table cells τ a b inside =
    rw (in_bytes graph τ.instruction inside)
    (parted (operation_of (instruction_in graph τ.instruction).code) (graph_of graph) table cells τ (instruction_in graph τ.instruction) a b)

pub plain_in_turn : {S : Type 0} (x : S) → InTurn operated_of (λ o table k cells a b. x) (λ b. b) effect_in (λ g table cells τ a b. x)
plain_in_turn x = record {
  asked = plain_asked;
  kept = λ graph table cells τ a b inside. refl;
}

pub plain_sound : AllSound effect_in
plain_sound graph passed table cells τ a b = record {
  arrives = all_arrive graph passed table cells τ a b;
  cells_below = cells_below_lem graph passed table cells τ a b;
  reads_for_some = (lawful graph passed table 0 cells).reads_for_some τ a b;
}
