-- R-5: a run in which no token comes to a LEAVE under path 0 is what it was (`keeps_answer`). Assumes nothing.
use Prim.Native.Nat.{ℕ}
use mathlib.Core.Path.{◌≡◌, refl, sym}
use mathlib.Core.Bool.{Bool, true, false, ◌||◌, cond}
use mathlib.Core.Logic.{◌⊎◌, inl, inr}
use mathlib.Core.Option.{some}
use mathlib.Core.List.{List, [], ◌∷◌}
use lib.IntN.{ℤ}
use lib.Dec.{eqb}
use Rattle.record.specs.declared.tag.Tag.{Tag}
use Rattle.record.specs.declared.array.NamedArray.{NamedArray}
use Rattle.record.specs.declared.instruction.Instruction.{Instruction}
use Rattle.record.specs.GraphRecords.{operands_of, graph_of}
use Rattle.machine.specs.Machine.{Key, Token, refuse, Machine, is_there, when, find, same_key, by_picks, run}
use Rattle.machine.specs.Orders.{CellsBelow, ReadsForSome, Lawful, Good}
use Rattle.machine.proofs.View.{false_true}
use Rattle.machine.proofs.Orders.{by_picks_lawful}
use Rattle.machine.proofs.Agreement.{same_run, AgreeAt}
use Rattle.rules.specs.declared.answer.Refusal.{Refusal}
use Rattle.rules.specs.Check.{instruction_at}
use Rattle.rules.specs.InstructionSet.{effect_in, is_result, arity_in, machine_of}
use Rattle.rules.specs.Run.{first_state}
use Rattle.rules.specs.RootLeave.{is_root_leave, arity_before, effect_at_root_leave, machine_at_root_leave, NoneAtRootLeave, KeepsAnswer}
use Rattle.rules.proofs.Accepted.{Accepted, law, good}

module _ (word : Refusal) (g : List Instruction) (table : List NamedArray) (capacity cells : ℕ) where
  abbrev M : Machine
  M = machine_of g table capacity cells

  abbrev N : Machine
  N = machine_at_root_leave word g table capacity cells

  -- ---- elsewhere the two instruction sets agree

  same_arity : (τ : Tag) → is_root_leave g τ ≡ false → arity_before g τ ≡ arity_in g τ
  unfolding arity_before arity_in is_result is_root_leave
  same_arity τ e = rw e (go (eqb (instruction_at g τ.instruction).code 3) (operands_of (instruction_at g τ.instruction).code))
    where
      go : (b : Bool) (n : ℕ) → cond b 0 n ≡ cond (b || false) 0 n
      go true n = refl
      go false n = refl

  same_effect : (τ : Tag) → is_root_leave g τ ≡ false → (v w : ℤ) → effect_at_root_leave word g table cells τ v w ≡ effect_in g table cells τ v w
  unfolding effect_at_root_leave
  same_effect τ e v w = rw e

  before_agrees : (τ : Tag) → is_root_leave g τ ≡ false → AgreeAt M (arity_before g) (effect_at_root_leave word g table cells) τ
  before_agrees τ e = record { arities = same_arity τ e; effects = same_effect τ e }

  now_agrees : (τ : Tag) → is_root_leave g τ ≡ false → AgreeAt N (arity_in g) (effect_in g table cells) τ
  now_agrees τ e = record { arities = sym (same_arity τ e); effects = λ v w. sym (same_effect τ e v w) }

  -- a key that is found is one of a token
  found_none : (ts : List (Token Tag ℤ)) → NoneAtRootLeave g ts → (k : Key Tag) → is_there (find M k ts) ≡ true → is_root_leave g k.tag ≡ false
  found_none [] h k e = false_true e
  found_none (t ∷ ts) h k e = go (same_key M k t.key) e (found_none ts h.1 k)
    where
      go : (d : Dec (k ≡ t.key)) → is_there (when d (some t.content) (find M k ts)) ≡ true → (is_there (find M k ts) ≡ true → is_root_leave g k.tag ≡ false) → is_root_leave g k.tag ≡ false
      go (yes p) f rest = rw p h.0
      go (no n) f rest = rest f

  -- ---- what was lawful before

  lawful_before : Lawful M → Lawful N
  unfolding effect_at_root_leave
  lawful_before l = record {
    cells_below = λ τ v w. below (is_root_leave g τ) τ v w;
    reads_for_some = λ τ v w. reads (is_root_leave g τ) τ v w;
  }
    where
      below : (b : Bool) (τ : Tag) (v w : ℤ) → CellsBelow cells (cond b (refuse word) (effect_in g table cells τ v w))
      below true τ v w = tt
      below false τ v w = l.cells_below τ v w

      reads : (b : Bool) (τ : Tag) (v w : ℤ) → ReadsForSome (cond b (refuse word) (effect_in g table cells τ v w))
      reads true τ v w = tt
      reads false τ v w = l.reads_for_some τ v w

pub keeps_answer : KeepsAnswer
keeps_answer graph inputs table capacity cells passed accepted word budget picks = go
  where
    a : Accepted graph inputs capacity
    a = record { graph_passed = passed; inputs_passed = accepted }

    first : Good (machine_of (graph_of graph) table capacity cells) (first_state inputs cells)
    first = good graph inputs table capacity cells a

    go : NoneAtRootLeave (graph_of graph) (run (machine_at_root_leave word (graph_of graph) table capacity cells) budget picks (first_state inputs cells)).state.tokens
        ⊎ NoneAtRootLeave (graph_of graph) (run (machine_of (graph_of graph) table capacity cells) budget picks (first_state inputs cells)).state.tokens
        → run (machine_of (graph_of graph) table capacity cells) budget picks (first_state inputs cells) ≡ run (machine_at_root_leave word (graph_of graph) table capacity cells) budget picks (first_state inputs cells)
    go (inl h) =
        let N = machine_at_root_leave word (graph_of graph) table capacity cells in
        same_run N (arity_in (graph_of graph)) (effect_in (graph_of graph) table cells) (lawful_before word (graph_of graph) table capacity cells (law graph inputs table capacity cells a)) (by_picks N) (by_picks_lawful N) (first_state inputs cells)
        (record { distinct = first.distinct; room = first.room; cell_count = first.cell_count }) budget picks 0
        (λ k e. now_agrees word (graph_of graph) table capacity cells k.tag (found_none word (graph_of graph) table capacity cells (run N budget picks (first_state inputs cells)).state.tokens h k e))
    go (inr h) =
        let M = machine_of (graph_of graph) table capacity cells in
        sym (same_run M (arity_before (graph_of graph)) (effect_at_root_leave word (graph_of graph) table cells) (law graph inputs table capacity cells a) (by_picks M) (by_picks_lawful M) (first_state inputs cells) first budget picks 0
        (λ k e. before_agrees word (graph_of graph) table capacity cells k.tag (found_none word (graph_of graph) table capacity cells (run M budget picks (first_state inputs cells)).state.tokens h k e)))
