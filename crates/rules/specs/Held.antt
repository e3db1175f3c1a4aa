-- 02, R-9, "Loop bounding": which activities are held back. "A NEXT activity that would make iteration m (256 from 255, too) is held back while the same path has, at
-- an iteration of m - k or less, a live token that is no result or a deferred one, or such a token stands in a path entered from there, at any depth." What
-- holds of it is stated and proved in proofs/Held and proofs/HeldAfter. Assumes nothing.
use Rattle.std.specs.Prelude.{ℕ, zero, suc, ◌+◌, Bool, false, not, ◌&&◌, cond, List, eqb, leb}
use Rattle.std.proofs.Math.Option.{Option, none, some}
use Rattle.record.specs.declared.tag.Path.{Path}
use Rattle.record.specs.declared.tag.Tag.{Tag}
use Rattle.record.specs.declared.instruction.Instruction.{Instruction}
use Rattle.record.specs.Paths.{path_number, same_path}
use Rattle.record.specs.Calls.{leave_of}
use Rattle.machine.specs.Machine.{Token, State, Activity, is_proper, on_option}
use Rattle.rules.specs.Check.{any, instruction_at}
use Rattle.rules.specs.InstructionSet.{arity_in}
use Rattle.rules.specs.Saved.{on_left}

-- ---- where a tag stands in a path

-- the iteration of a path that a tag stands at: in the path itself its own, and in a path entered from there the one that it was entered from. `levels` levels are
-- looked at
abbrev pub stands_within : (levels : ℕ) → Path → Tag → Option ℕ
stands_within zero p τ = none
stands_within (suc n) p τ = cond (same_path τ.path p) (some τ.iteration) (on_left (leave_of τ) none (λ site caller. stands_within n p caller))

-- "at any depth": a path has no more levels than its number says
unfoldable pub stands_in : Path → Tag → Option ℕ
stands_in p τ = stands_within (suc (path_number τ.path)) p τ

-- ---- what holds back

-- "a live token that is no result or a deferred one": one that a completed run does not leave
unfoldable pub is_pending : {W : Type 0} → List Instruction → Token Tag W → Bool
is_pending g t = not (is_proper (arity_in g t.key.tag) t.content)

-- "at an iteration of m - k or less" of the path
unfoldable pub holds_back : {W : Type 0} → List Instruction → (bound : ℕ) → Path → (m : ℕ) → Token Tag W → Bool
holds_back g k p m t = is_pending g t && on_option (stands_in p t.key.tag) false (λ j. leb (j + k) m)

-- NEXT has code 7; bound 0 is none. Whatever stands for a value is not looked at
unfoldable pub held_in : {W : Type 0} → List Instruction → (bound : ℕ) → State Tag W → Activity Tag → Bool
held_in g k s a =
    leb 1 k
    && (eqb (instruction_at g a.tag.instruction).code 7
    && any (holds_back g k a.tag.path (a.tag.iteration + 1)) s.tokens)
