-- The instruction set of a graph that passed the check is lawful: an effect names only cells below the count, and a FETCH has an output at least.
-- Assumes nothing.
use Rattle.std.proofs.Common.{Ok}
use Prim.Native.Nat.{ℕ, zero, suc, ◌+◌, ◌<◌, ◌≤◌}
use mathlib.Core.Path.{◌≡◌, refl, sym, ap, ◌∙◌, subst}
use mathlib.Core.Bool.{Bool, true, false, ◌&&◌, cond}
use mathlib.Core.List.{List, [], ◌∷◌}
use native.Mathlib.Omega.{arith}
use native.Mathlib.Nat.{zero-add}
use native.Mathlib.Decide.{dec_le}
use lib.ListN.{length, get_or, length-map}
use lib.Dec.{eqb, leb, ltb}
use lib.IntN.{ℤ, pos, negsuc, nat_abs}
use borrow.Author.Tests.{ltb-true, leb-true}
use Rattle.std.specs.Prelude.{Option, None, Some}
use Rattle.record.specs.declared.tag.Tag.{Tag}
use Rattle.record.specs.declared.array.NamedArray.{NamedArray}
use Rattle.record.specs.declared.tag.Caller.{Caller}
use Rattle.record.specs.declared.instruction.Destination.{Destination}
use Rattle.record.specs.declared.instruction.Instruction.{Instruction}
use Rattle.record.specs.declared.operation.Operation.{Operation}
use Rattle.record.specs.declared.operation.Operation.TheVariants as Operations
use Rattle.record.specs.GraphRecords.{Row, row_with, row_of, operation_of, in_use, destinations, graph_of, is_graph_length}
use Rattle.record.specs.GraphRecords as Graph
use Rattle.record.specs.Calls.{next_of, enter_of, leave_of}
use Rattle.arithmetic.specs.Arithmetic.{compute_of}
use Rattle.machine.specs.Machine.{Key, refuse, send, read, write}
use Rattle.machine.specs.Orders.{CellsBelow, ReadsForSome, Lawful}
use Rattle.rules.specs.declared.answer.Refusal.TheVariants as Refusals
use Rattle.rules.specs.Check.{demand, in_turn, fan_out_allowed, unused_are_zero, check_record, check_graph, instruction_at}
use Rattle.rules.specs.InstructionSet.{EffectOver, key_under, all_under, send_computed, send_next, send_entered, send_returned, return_of, send_left, on_cell, cell_number, effect_of, effect_in, machine_of}
use Rattle.rules.proofs.Passed.{both, demand_passed, and_then_passed, turn_passed, get_d_past}

-- ---- what holds of every row of the table

abbrev pub Holds : (Row → Bool) → List Row → Type 0
Holds p [] = Unit {0}
Holds p (r ∷ rs) = (p r ≡ true) × Holds p rs

looked_up : (p : Row → Bool) (rs : List Row) (n : ℕ) → Holds p rs → p (Graph.no_row n) ≡ true → p (row_with rs n) ≡ true
looked_up p [] n h e = e
looked_up p (r ∷ rs) n h e = go (eqb n r.code) (looked_up p rs n h.1 e)
  where
    go : (b : Bool) → p (row_with rs n) ≡ true → p (cond b r (row_with rs n)) ≡ true
    go true k = h.0
    go false k = k

-- FETCH alone reads
abbrev pub reads : Operation → Bool
reads Operations.Copy = false
reads Operations.Sink = false
reads Operations.Out = false
reads Operations.Const = false
reads Operations.Switch = false
reads Operations.Gate = false
reads Operations.Next = false
reads Operations.Enter = false
reads Operations.Leave = false
reads Operations.Fetch = true
reads Operations.Store = false
reads (Operations.OnTwo o) = false
reads (Operations.OnConstant o) = false
reads Operations.Unknown = false

-- operations of this kind have a destination at least
abbrev pub SendForOne : (Operation → Bool) → Row → Bool
SendForOne kind r = cond (kind r.operation) (leb 1 r.least_fan_out) true

pub record ForOne (kind : Operation → Bool) : Type 0 where
  pub rows : Holds (SendForOne kind) Graph.table
  pub unknown : kind Operations.Unknown ≡ false

readers_for_one : ForOne reads
readers_for_one = record {
  rows = (refl, (refl, (refl, (refl, (refl, (refl, (refl, (refl, (refl, (refl, (refl, (refl, (refl, (refl, (refl, (refl, (refl, (refl, (refl, (refl, (refl, (refl, (refl, (refl, (refl, (refl, (refl, tt)))))))))))))))))))))))))));
  unknown = refl;
}

-- ---- an effect that neither reads nor writes

-- it is a refusal or a sending
abbrev Plain : {W : Type 0} → EffectOver W → Type 0
Plain (refuse r) = Unit {0}
Plain (send v keys) = Unit {0}
Plain (read c keys) = ⊥
Plain (write c v keys) = ⊥

computed_plain : (c : Option ℤ) (keys : List (Key Tag)) → Plain (send_computed c keys)
unfolding send_computed
computed_plain (Some v) keys = tt
computed_plain None keys = tt

next_plain : {W : Type 0} (n : Option Tag) (r : Instruction) (v : W) → Plain (send_next n r v)
unfolding send_next
next_plain (Some τ) r v = tt
next_plain None r v = tt

entered_plain : {W : Type 0} (e : Option Tag) (r : Instruction) (v : W) → Plain (send_entered e r v)
unfolding send_entered
entered_plain (Some τ) r v = tt
entered_plain None r v = tt

cond_plain : {W : Type 0} (b : Bool) (x y : EffectOver W) → Plain x → Plain y → Plain (cond b x y)
cond_plain true x y p q = p
cond_plain false x y p q = q

returned_plain : {W : Type 0} (g : List Instruction) (i k : ℕ) (τ : Tag) (v : W) → Plain (send_returned g i k τ v)
unfolding send_returned
returned_plain g i k τ v = cond_plain (ltb (i + k) (length g)) (send v _) (refuse Refusals.NoReturn) tt tt

left_plain : {W : Type 0} (g : List Instruction) (l : Option Caller) (r : Instruction) (v : W) → Plain (send_left g l r v)
unfolding send_left
left_plain g None r v = tt
left_plain g (Some c) r v = returned_plain g (return_of c.site g) (nat_abs r.constant) c.tag v

-- ---- lawful effects

abbrev pub LawfulEffect : {W : Type 0} → (cells : ℕ) → EffectOver W → Type 0
LawfulEffect n e = CellsBelow n e × ReadsForSome e

plain_lawful : {W : Type 0} (n : ℕ) (e : EffectOver W) → Plain e → LawfulEffect n e
plain_lawful n (refuse r) p = (tt, tt)
plain_lawful n (send v keys) p = (tt, tt)
plain_lawful n (read c keys) p = absurd p
plain_lawful n (write c v keys) p = absurd p

pub next_lawful : {W : Type 0} (n : ℕ) (x : Option Tag) (r : Instruction) (v : W) → LawfulEffect n (send_next x r v)
next_lawful n x r v = plain_lawful n (send_next x r v) (next_plain x r v)

pub entered_lawful : {W : Type 0} (n : ℕ) (e : Option Tag) (r : Instruction) (v : W) → LawfulEffect n (send_entered e r v)
entered_lawful n e r v = plain_lawful n (send_entered e r v) (entered_plain e r v)

pub left_lawful : {W : Type 0} (n : ℕ) (g : List Instruction) (l : Option Caller) (r : Instruction) (v : W) → LawfulEffect n (send_left g l r v)
left_lawful n g l r v = plain_lawful n (send_left g l r v) (left_plain g l r v)

-- a cell that an operand names is below the count, or the firing is refused
pub on_cell_lem : {W : Type 0} (cells : ℕ) (a : ℤ) (f : ℕ → EffectOver W) → ((c : ℕ) → c < cells → LawfulEffect cells (f c)) → LawfulEffect cells (on_cell cells a f)
unfolding on_cell
on_cell_lem cells (negsuc c) f h = (tt, tt)
on_cell_lem cells (pos c) f h = go (ltb c cells) refl
  where
    go : (b : Bool) → ltb c cells ≡ b → LawfulEffect cells (cond b (f c) (refuse Refusals.NoSuchCell))
    go true e = h c (ltb-true c cells e)
    go false e = (tt, tt)

operation_lawful : (o : Operation) (g : List Instruction) (table : List NamedArray) (cells : ℕ) (τ : Tag) (r : Instruction) (a b : ℤ) (keys : List (Key Tag))
    → (reads o ≡ true → 0 < length keys) → LawfulEffect cells (effect_of o g table cells τ r a b keys)
unfolding effect_of
operation_lawful Operations.Copy g table cells τ r a b keys h = (tt, tt)
operation_lawful Operations.Sink g table cells τ r a b keys h = (tt, tt)
operation_lawful Operations.Out g table cells τ r a b keys h = (tt, tt)
operation_lawful Operations.Const g table cells τ r a b keys h = (tt, tt)
operation_lawful Operations.Switch g table cells τ r a b keys h = (tt, tt)
operation_lawful Operations.Gate g table cells τ r a b keys h = (tt, tt)
operation_lawful Operations.Next g table cells τ r a b keys h = next_lawful cells (next_of τ) r a
operation_lawful Operations.Enter g table cells τ r a b keys h = entered_lawful cells (enter_of τ (nat_abs r.constant)) r a
operation_lawful Operations.Leave g table cells τ r a b keys h = left_lawful cells g (leave_of τ) r a
operation_lawful Operations.Fetch g table cells τ r a b keys h = on_cell_lem cells (cell_number table r.constant a) (λ c. read c keys) (λ c k. (k, h refl))
operation_lawful Operations.Store g table cells τ r a b keys h = on_cell_lem cells (cell_number table r.constant a) (λ c. write c b keys) (λ c k. (k, tt))
operation_lawful (Operations.OnTwo o) g table cells τ r a b keys h = plain_lawful cells (send_computed (compute_of o a b) keys) (computed_plain (compute_of o a b) keys)
operation_lawful (Operations.OnConstant o) g table cells τ r a b keys h =
    let c = compute_of o a r.constant in
    plain_lawful cells (send_computed c keys) (computed_plain c keys)
operation_lawful Operations.Unknown g table cells τ r a b keys h = (tt, tt)

-- ---- of a graph that passed

in_use_lem : (n : ℕ) (d e : Destination) → 1 ≤ n → 0 < length (in_use n d e)
in_use_lem zero d e h = h
in_use_lem (suc zero) d e h = omega arith
in_use_lem (suc (suc n)) d e h = omega arith

module _ (graph : List ℕ) (passed : check_graph graph ≡ Ok tt) where
  -- an instruction of the graph passed, and past the graph there is none
  record_passed : (i : ℕ) → i < length (graph_of graph) → check_record (graph_of graph) i (instruction_at (graph_of graph) i) ≡ Ok tt
  unfolding check_graph instruction_at
  record_passed i h =
      let g = graph_of graph in
      let turns = (and_then_passed (demand (is_graph_length (length graph)) Refusals.GraphLength 0) (in_turn (check_record g) 0 g) passed).1 in
      subst (λ (m : ℕ). check_record g m (get_or g i (Graph.decode_instruction [])) ≡ Ok tt) (zero-add i) (turn_passed (check_record g) (Graph.decode_instruction []) 0 g turns i h)

  -- the fan-out of an instruction is at least what the table says
  fan_out_enough : (i : ℕ) → i < length (graph_of graph) → (row_of (instruction_at (graph_of graph) i).code).least_fan_out ≤ (instruction_at (graph_of graph) i).fanout
  unfolding check_record fan_out_allowed
  fan_out_enough i h =
      let r = instruction_at (graph_of graph) i in
      let row = row_of r.code in
      let after2 = (and_then_passed (demand (leb 1 row.operands) Refusals.UnknownOperation i) _ (record_passed i h)).1 in
      let of3 = (and_then_passed (demand (fan_out_allowed r && unused_are_zero r) Refusals.FanOut i) _ after2).0 in
      let allowed = (both (fan_out_allowed r) (unused_are_zero r) (demand_passed (fan_out_allowed r && unused_are_zero r) Refusals.FanOut i of3)).0 in
      leb-true row.least_fan_out r.fanout (both (leb row.least_fan_out r.fanout) (leb r.fanout row.most_fan_out) allowed).0

  module _ (kind : Operation → Bool) (one : ForOne kind) where
    kind_sends : (n : ℕ) → SendForOne kind (row_of n) ≡ true
    unfolding row_of
    kind_sends n = looked_up (SendForOne kind) Graph.table n one.rows (rw one.unknown)

    kind_inside : (i : ℕ) (τ : Tag) → i < length (graph_of graph) → kind (operation_of (instruction_at (graph_of graph) i).code) ≡ true → 0 < length (all_under τ (instruction_at (graph_of graph) i))
    kind_inside i τ h e =
        let r = instruction_at (graph_of graph) i in
        let least : leb 1 (row_of r.code).least_fan_out ≡ true = rw e at (kind_sends r.code) in
        rw (length-map (destinations r) (key_under τ)) (in_use_lem r.fanout r.first r.second (omega (arith, leb-true 1 (row_of r.code).least_fan_out least, fan_out_enough i h)))

    -- past the graph stands an unknown operation
    kind_past : (i : ℕ) → length (graph_of graph) ≤ i → kind (operation_of (instruction_at (graph_of graph) i).code) ≡ false
    unfolding instruction_at Graph.decode_instruction row_of
    kind_past i h = ap (λ (r : Instruction). kind (operation_of r.code)) (get_d_past (graph_of graph) i (Graph.decode_instruction []) h) ∙ one.unknown

    -- an instruction of the kind has a destination
    pub kind_has_key : (i : ℕ) (τ : Tag) → kind (operation_of (instruction_at (graph_of graph) i).code) ≡ true → 0 < length (all_under τ (instruction_at (graph_of graph) i))
    kind_has_key i τ e = go (dec_le (suc i) (length (graph_of graph)))
      where
        go : Dec (suc i ≤ length (graph_of graph)) → 0 < length (all_under τ (instruction_at (graph_of graph) i))
        go (yes h) = kind_inside i τ h e
        go (no n) = let z : true ≡ false = sym e ∙ kind_past i (omega arith) in let y : ◌≡◌ {A = ℕ} 0 1 = cc in absurd (omega arith)

  pub reader_has_key : (i : ℕ) (τ : Tag) → reads (operation_of (instruction_at (graph_of graph) i).code) ≡ true → 0 < length (all_under τ (instruction_at (graph_of graph) i))
  reader_has_key = kind_has_key reads readers_for_one

  effect_lawful : (table : List NamedArray) (cells : ℕ) (τ : Tag) (a b : ℤ) → LawfulEffect cells (effect_in (graph_of graph) table cells τ a b)
  unfolding effect_in
  effect_lawful table cells τ a b =
      let r = instruction_at (graph_of graph) τ.instruction in
      operation_lawful (operation_of r.code) (graph_of graph) table cells τ r a b (all_under τ r) (reader_has_key τ.instruction τ)

  pub lawful : (table : List NamedArray) (capacity cells : ℕ) → Lawful (machine_of (graph_of graph) table capacity cells)
  lawful table capacity cells = record { cells_below = λ τ a b. (effect_lawful table cells τ a b).0; reads_for_some = λ τ a b. (effect_lawful table cells τ a b).1 }
