-- The records of a graph's bytes as the list of its instructions. Assumes nothing.
use Prim.Native.Nat.{ℕ, zero, suc, ◌*◌, ◌/◌, ◌≤◌, ◌<◌}
use native.Mathlib.Omega.{arith}
use native.Mathlib.Nat.{add-zero}
use mathlib.Core.Path.{◌≡◌, refl, ap, ◌∙◌}
use mathlib.Core.List.{List, [], ◌∷◌}
use mathlib.Core.Bool.{◌&&◌, ◌||◌, cond}
use lib.Dec.{eqb}
use lib.ListN.{length, get_or, get_or-eq_default}
use lib.Seq.{get_or-drop}
use Rattle.record.specs.declared.tag.Tag.{Tag}
use Rattle.record.specs.declared.instruction.Destination.{Destination}
use Rattle.record.specs.declared.instruction.Instruction.{Instruction}
use Rattle.record.specs.Paths.{is_root}
use Rattle.record.specs.GraphRecords.{decode_instruction, graph_of, instruction_in, in_use, row_of, operands_of}
use Rattle.buffer.proofs.Tables.{length_rows, get_d_rows}
use Rattle.record.specs.Widths.{graph_width}
use Rattle.rules.specs.Check.{instruction_at, operands_at}
use Rattle.rules.specs.InstructionSet.{is_result, arity_in}

pub length_graph : (l : List ℕ) → length (graph_of l) ≡ length l / graph_width
length_graph l = length_rows graph_width decode_instruction (length l / graph_width) l

module _ (l : List ℕ) (i : ℕ) where
  module _ (h : i < length l / graph_width) where
    -- whatever stands past the graph
    pub in_graph : (d : Instruction) → get_or (graph_of l) i d ≡ instruction_in l i
    in_graph d = get_d_rows graph_width decode_instruction (length l / graph_width) i l d h

    pub at_graph : instruction_at (graph_of l) i ≡ instruction_in l i
    unfolding instruction_at
    at_graph = in_graph (decode_instruction [])

    pub code_at : (instruction_at (graph_of l) i).code ≡ get_or l (i * graph_width) 0
    unfolding decode_instruction
    code_at = ap (λ (r : Instruction). r.code) at_graph ∙ get_or-drop (i * graph_width) l 0 0 ∙ rw (add-zero (i * graph_width))

  module _ (h : length l / graph_width ≤ i) where
    pub past_graph : instruction_at (graph_of l) i ≡ decode_instruction []
    unfolding instruction_at
    past_graph = get_or-eq_default (graph_of l) (decode_instruction []) (omega (arith, length_graph l))

    pub code_past : (instruction_at (graph_of l) i).code ≡ 0
    unfolding decode_instruction
    code_past = ap (λ (r : Instruction). r.code) past_graph

  pub operands_in : i < length l / graph_width → operands_at (graph_of l) i ≡ operands_of (get_or l (i * graph_width) 0)
  unfolding operands_at
  operands_in h = ap (λ (c : ℕ). operands_of c) (code_at h)

  pub operands_past : length l / graph_width ≤ i → operands_at (graph_of l) i ≡ 0
  unfolding operands_at row_of
  operands_past h = ap (λ (c : ℕ). operands_of c) (code_past h)

-- a fan-out past 1 has both destinations in use
pub both_in_use : (n : ℕ) (d e : Destination) → (n ≡ 0 → ⊥) → (n ≡ 1 → ⊥) → in_use n d e ≡ d ∷ e ∷ []
both_in_use zero d e h k = absurd (h refl)
both_in_use (suc zero) d e h k = absurd (k refl)
both_in_use (suc (suc n)) d e h k = refl

-- what an activity waits for, by its instruction's code
abbrev pub arity_by : (code : ℕ) → Tag → ℕ
arity_by c τ = cond (eqb c 3 || eqb c 9 && is_root τ.path) 0 (operands_of c)

module _ (l : List ℕ) (τ : Tag) where
  pub arity_in_lem : τ.instruction < length l / graph_width → arity_in (graph_of l) τ ≡ arity_by (get_or l (τ.instruction * graph_width) 0) τ
  unfolding arity_in is_result
  arity_in_lem h = ap (λ (c : ℕ). arity_by c τ) (code_at l τ.instruction h)

  pub arity_past : length l / graph_width ≤ τ.instruction → arity_in (graph_of l) τ ≡ 0
  unfolding arity_in is_result row_of
  arity_past h = ap (λ (c : ℕ). arity_by c τ) (code_past l τ.instruction h)

-- an instruction past any graph has no operands
pub past : (g : List Instruction) (i : ℕ) → length g ≤ i → operands_at g i ≡ 0
unfolding operands_at instruction_at decode_instruction row_of
past g i h = ap (λ (r : Instruction). operands_of r.code) (get_or-eq_default g (decode_instruction []) h)
