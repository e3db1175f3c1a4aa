-- What a run over a graph keeps, of keys, of values and of cells read, is asked by kinds of operations: of the destinations in use, of the tags that NEXT,
-- ENTER and LEAVE make, of the values that are computed and of the cells that FETCH reads (`Asked`). Then the machine of the graph keeps it (`keeps_asked`). Assumes nothing.
use Prim.Native.Nat.{ℕ, zero, suc, ◌+◌, ◌-◌, ◌^◌, ◌<◌, ◌≤◌}
use mathlib.Core.Path.{◌≡◌, refl}
use mathlib.Core.Bool.{Bool, true, false, cond}
use mathlib.Core.List.{List, [], ◌∷◌, map}
use native.Mathlib.Omega.{arith}
use lib.ListN.{length}
use lib.Dec.{ltb}
use lib.IntN.{ℤ, pos, negsuc, nat_abs}
use borrow.Author.Tests.{ltb-true}
use Rattle.std.specs.Prelude.{Option, None, Some}
use Rattle.record.specs.declared.tag.Tag.{Tag}
use Rattle.record.specs.declared.array.NamedArray.{NamedArray}
use Rattle.record.specs.declared.tag.Caller.{Caller}
use Rattle.record.specs.declared.instruction.Destination.{Destination}
use Rattle.record.specs.declared.instruction.Instruction.{Instruction}
use Rattle.record.specs.declared.operation.Arithmetic.{Arithmetic}
use Rattle.record.specs.declared.operation.Operation.{Operation}
use Rattle.record.specs.declared.operation.Operation.TheVariants as Operations
use Rattle.record.specs.Paths.{path_number}
use Rattle.record.specs.TokensAndTags.{to_of}
use Rattle.record.specs.Calls.{most_levels, entered, next_of, enter_within, enter_of, leave_of}
use Rattle.record.specs.GraphRecords.{in_use, operation_of}
use Rattle.arithmetic.specs.Arithmetic.{compute_of, eq_z}
use Rattle.machine.specs.Machine.{Key, refuse, send, read, write, Machine}
use Rattle.machine.proofs.Kept.{Each, OfEffect, OfOperands, Keeps}
use Rattle.rules.specs.declared.answer.Refusal.TheVariants as Refusals
use Rattle.rules.specs.Check.{instruction_at}
use Rattle.rules.specs.InstructionSet.{EffectHere, key_under, all_under, side_of, send_computed, send_next, send_entered, return_of, send_returned, send_left, on_cell, cell_number, effect_of, effect_in, machine_of}

-- the tag that NEXT makes
abbrev pub later : Tag → Tag
later τ = record { path = τ.path; iteration = τ.iteration + 1; instruction = τ.instruction }

-- where both destinations are in use
pub both_sides : (Q : Key Tag → Type 0) (τ : Tag) (n : ℕ) (d e : Destination) → 2 ≤ n → Each Q (map (key_under τ) (in_use n d e)) → Q (key_under τ d) × Q (key_under τ e)
both_sides Q τ zero d e l h = absurd (omega arith)
both_sides Q τ (suc zero) d e l h = absurd (omega arith)
both_sides Q τ (suc (suc n)) d e l h = (h.0, h.1.0)

module _ (g : List Instruction) (table : List NamedArray) (capacity cells : ℕ) (P : Key Tag → Type 0) (Q : ℤ → Type 0) (R : (cell : ℕ) → Type 0) where
  abbrev M : Machine
  M = machine_of g table capacity cells

  abbrev Holds : EffectHere → Type 0
  Holds e = OfEffect M P Q R e

  -- of an instruction r under a tag
  pub record Asked (τ : Tag) (r : Instruction) : Type 0 where
    pub all : Each P (all_under τ r)
    pub sides : operation_of r.code ≡ Operations.Switch → P (key_under τ r.first) × P (key_under τ r.second)
    pub next : operation_of r.code ≡ Operations.Next → τ.iteration < 255 → Each P (all_under (later τ) r)
    pub enter : operation_of r.code ≡ Operations.Enter → path_number τ.path < 65536 ^ (most_levels - 1) → P (key_under (entered τ (nat_abs r.constant)) r.first)
    pub leave : operation_of r.code ≡ Operations.Leave → (site : ℕ) (caller : Tag) → leave_of τ ≡ Some (record { site = site; tag = caller }) → (i : ℕ) → i < length g → P (record { tag = to_of caller i; port = 0 })
    pub fetch : operation_of r.code ≡ Operations.Fetch → (c : ℕ) → c < cells → R c
    pub constant : Q r.constant
    pub computed : (o : Arithmetic) (a b v : ℤ) → compute_of o a b ≡ Some v → Q v

  -- ---- by operations

  of_cond : (b : Bool) (x y : EffectHere) → (b ≡ true → Holds x) → Holds y → Holds (cond b x y)
  of_cond true x y h k = h refl
  of_cond false x y h k = k

  of_computed : (c : Option ℤ) (keys : List (Key Tag)) → ((v : ℤ) → c ≡ Some v → Q v) → Each P keys → Holds (send_computed c keys)
  unfolding send_computed
  of_computed (Some v) keys h k = (h v refl, k)
  of_computed None keys h k = tt

  of_cell : (a : ℤ) (f : ℕ → EffectHere) → ((c : ℕ) → c < cells → Holds (f c)) → Holds (on_cell cells a f)
  unfolding on_cell
  of_cell (negsuc c) f h = tt
  of_cell (pos c) f h = of_cond (ltb c cells) (f c) (refuse Refusals.NoSuchCell) (λ e. h c (ltb-true c cells e)) tt

  module _ (τ : Tag) (r : Instruction) (asked : Asked τ r) where
    of_side : (b : ℤ) → operation_of r.code ≡ Operations.Switch → P (key_under τ (side_of b r))
    unfolding side_of
    of_side b e = go (eq_z b (pos 0))
      where
        go : (c : Bool) → P (key_under τ (cond c r.second r.first))
        go true = (asked.sides e).1
        go false = (asked.sides e).0

    of_next : (v : ℤ) → Q v → operation_of r.code ≡ Operations.Next → Holds (send_next (next_of τ) r v)
    unfolding next_of send_next
    of_next v h e = go (ltb τ.iteration 255) refl
      where
        go : (b : Bool) → ltb τ.iteration 255 ≡ b → Holds (send_next (cond b (Some (later τ)) None) r v)
        go true f = (h, asked.next e (ltb-true τ.iteration 255 f))
        go false f = tt

    of_enter_lem : (v : ℤ) → Q v → operation_of r.code ≡ Operations.Enter → Holds (send_entered (enter_of τ (nat_abs r.constant)) r v)
    unfolding enter_within send_entered
    of_enter_lem v h e = go (ltb (path_number τ.path) (65536 ^ (most_levels - 1))) refl
      where
        go : (b : Bool) → ltb (path_number τ.path) (65536 ^ (most_levels - 1)) ≡ b → Holds (send_entered (cond b (Some (entered τ (nat_abs r.constant))) None) r v)
        go true f = (h, (asked.enter e (ltb-true (path_number τ.path) (65536 ^ (most_levels - 1)) f), tt))
        go false f = tt

    of_leave_lem : (v : ℤ) → Q v → operation_of r.code ≡ Operations.Leave → (l : Option Caller) → leave_of τ ≡ l → Holds (send_left g l r v)
    unfolding send_left send_returned
    of_leave_lem v h e None f = (h, tt)
    of_leave_lem v h e (Some c) f =
        let i = return_of c.site g + nat_abs r.constant in
        of_cond (ltb i (length g)) (send v (record { tag = to_of c.tag i; port = 0 } ∷ [])) (refuse Refusals.NoReturn)
        (λ l. (h, (asked.leave e c.site c.tag f i (ltb-true i (length g) l), tt))) tt

    pub of_operation : (o : Operation) → operation_of r.code ≡ o → (a b : ℤ) → Q a → Q b → Holds (effect_of o g table cells τ r a b (all_under τ r))
    unfolding effect_of
    of_operation Operations.Copy e a b qa qb = (qa, asked.all)
    of_operation Operations.Sink e a b qa qb = (qa, tt)
    of_operation Operations.Out e a b qa qb = (qa, tt)
    of_operation Operations.Const e a b qa qb = (asked.constant, asked.all)
    of_operation Operations.Switch e a b qa qb = (qa, (of_side b e, tt))
    of_operation Operations.Gate e a b qa qb = (qa, asked.all)
    of_operation Operations.Next e a b qa qb = of_next a qa e
    of_operation Operations.Enter e a b qa qb = of_enter_lem a qa e
    of_operation Operations.Leave e a b qa qb = of_leave_lem a qa e (leave_of τ) refl
    of_operation Operations.Fetch e a b qa qb = of_cell (cell_number table r.constant a) (λ c. read c (all_under τ r)) (λ c h. (asked.fetch e c h, asked.all))
    of_operation Operations.Store e a b qa qb = of_cell (cell_number table r.constant a) (λ c. write c b (all_under τ r)) (λ c h. (qb, asked.all))
    of_operation (Operations.OnTwo o) e a b qa qb = of_computed (compute_of o a b) (all_under τ r) (λ v f. asked.computed o a b v f) asked.all
    of_operation (Operations.OnConstant o) e a b qa qb = of_computed (compute_of o a r.constant) (all_under τ r) (λ v f. asked.computed o a r.constant v f) asked.all
    of_operation Operations.Unknown e a b qa qb = (qa, tt)

  -- ---- of the machine

  pub effect_asked : (τ : Tag) → Asked τ (instruction_at g τ.instruction) → (v w : ℤ) → Q v → Q w → Holds (effect_in g table cells τ v w)
  unfolding effect_in
  effect_asked τ ask v w qv qw = let r = instruction_at g τ.instruction in of_operation τ r ask (operation_of r.code) refl v w qv qw

  pub keeps_asked : ((τ : Tag) → OfOperands M P Q R τ → Asked τ (instruction_at g τ.instruction)) → Q (pos 0) → Keeps M P Q R
  keeps_asked ask signal = record { effect = λ τ v w keys qv qw. effect_asked τ (ask τ keys) v w qv qw; signal = signal }
