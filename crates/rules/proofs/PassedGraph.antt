-- What holds of a graph that passed its check, record by record; and what the table of operations says of the operations that need it. Assumes nothing.
use Rattle.std.proofs.Common.{Ok}
use Prim.Native.Nat.{ℕ, ◌/◌, ◌%◌, ◌≤◌, ◌<◌}
use mathlib.Core.Path.{◌≡◌, refl}
use mathlib.Core.Bool.{Bool, true, false, cond, ◌&&◌}
use mathlib.Core.List.{List, [], ◌∷◌}
use native.Mathlib.Omega.{arith}
use native.Mathlib.Nat.{zero-add}
use borrow.Author.Tests.{leb-true, le-leb, eqb-true, not-true}
use lib.ListN.{length, take}
use lib.Dec.{eqb, leb}
use lib.IntN.{ℤ, pos, negsuc}
use Rattle.record.specs.declared.instruction.Instruction.{Instruction}
use Rattle.record.specs.declared.operation.Operation.{Operation}
use Rattle.record.specs.declared.operation.Operation.TheVariants.{Copy, Sink, Out, Const, Switch, Gate, Next, Enter, Leave, Fetch, Store, OnTwo, OnConstant, Unknown}
use Rattle.record.specs.GraphRecords.{Row, no_row, table, row_with, row_of, operation_of, operands_of, graph_of, is_graph_length, destinations}
use Rattle.record.specs.GraphRecords as Graph
use Rattle.record.specs.Widths.{graph_width}
use Rattle.rules.specs.declared.answer.Refusal.TheVariants.{GraphLength, UnknownOperation, FanOut, BadArc, BadSite}
use Rattle.rules.specs.Check.{demand, all, any, other_return, in_turn, instruction_at, operands_at, fan_out_allowed, unused_are_zero, good_arc, within, good_site, check_record, check_graph}
use Rattle.rules.proofs.Passed.{both, demand_passed, and_then_passed, turn_passed, get_d_past}

-- ---- the records

-- what record i of a graph has
pub record Good (g : List Instruction) (i : ℕ) (r : Instruction) : Type 0 where
  pub known : leb 1 (operands_of r.code) ≡ true
  pub fan_out : fan_out_allowed r ≡ true
  pub arcs : all (good_arc g) (destinations r) ≡ true
  pub site : good_site (take i g) r ≡ true

of_record : (g : List Instruction) (i : ℕ) (r : Instruction) → check_record g i r ≡ Ok tt → Good g i r
unfolding check_record
of_record g i r e =
    let p = and_then_passed (demand (leb 1 (operands_of r.code)) UnknownOperation i) _ e in
    let q = and_then_passed (demand (fan_out_allowed r && unused_are_zero r) FanOut i) _ p.1 in
    let s = and_then_passed (demand (all (good_arc g) (destinations r)) BadArc i) _ q.1 in
    record {
      known = demand_passed _ UnknownOperation i p.0;
      fan_out = (both _ (unused_are_zero r) (demand_passed _ FanOut i q.0)).0;
      arcs = demand_passed _ BadArc i s.0;
      site = demand_passed _ BadSite i s.1;
    }

-- past the graph stands an unknown operation, which has no operands
pub past_operation : (g : List Instruction) (i : ℕ) → length g ≤ i → operation_of (instruction_at g i).code ≡ Unknown
unfolding instruction_at Graph.decode_instruction row_of
past_operation g i h = rw (get_d_past g i (Graph.decode_instruction []) h)

pub past_operands : (g : List Instruction) (i : ℕ) → length g ≤ i → operands_at g i ≡ 0
unfolding operands_at instruction_at Graph.decode_instruction row_of
past_operands g i h = rw (get_d_past g i (Graph.decode_instruction []) h)

module _ (graph : List ℕ) (passed : check_graph graph ≡ Ok tt) where
  parts : (is_graph_length (length graph) ≡ true) × (in_turn (check_record (graph_of graph)) 0 (graph_of graph) ≡ Ok tt)
  unfolding check_graph
  parts =
      let p = and_then_passed (demand (is_graph_length (length graph)) GraphLength 0) _ passed in
      (demand_passed _ GraphLength 0 p.0, p.1)

  pub of_graph : (i : ℕ) → i < length (graph_of graph) → Good (graph_of graph) i (instruction_at (graph_of graph) i)
  unfolding instruction_at
  of_graph i h =
      of_record (graph_of graph) i _ (rw (zero-add i) at (turn_passed (check_record (graph_of graph)) (Graph.decode_instruction []) 0 (graph_of graph) parts.1 i h))

  pub at_most : length graph / graph_width ≤ 256
  at_most = leb-true _ _ (both (eqb (length graph % graph_width) 0) _ (both (leb 1 (length graph)) _ parts.0).1).1

-- ---- the table: the code and the least fan-out of the operations that ask for more than the others, and two operands at most

abbrev Said : Operation → (code least_fan_out : ℕ) → Bool
Said Copy n k = true
Said Sink n k = true
Said Out n k = true
Said Const n k = true
Said Switch n k = leb 2 k
Said Gate n k = true
Said Next n k = true
Said Enter n k = eqb n 8 && leb 2 k
Said Leave n k = eqb n 9
Said Fetch n k = true
Said Store n k = true
Said (OnTwo o) n k = true
Said (OnConstant o) n k = true
Said Unknown n k = true

abbrev says : ℕ → Row → Bool
says n r = Said r.operation n r.least_fan_out && leb r.operands 2

-- what each row has, and what stands for no row, every code has
by_rows : (test : ℕ → Row → Bool) (n : ℕ) → test n (no_row n) ≡ true → (rs : List Row) → all (λ r. test r.code r) rs ≡ true → test n (row_with rs n) ≡ true
by_rows test n other [] e = other
by_rows test n other (r ∷ rs) e = let p = both (test r.code r) _ e in go (eqb n r.code) refl p.0 (by_rows test n other rs p.1)
  where
    go : (t : Bool) → eqb n r.code ≡ t → test r.code r ≡ true → test n (row_with rs n) ≡ true → test n (cond t r (row_with rs n)) ≡ true
    go true q here later = rw (eqb-true n r.code q) here
    go false q here later = later

said : (n : ℕ) → Said (operation_of n) n (row_of n).least_fan_out && leb (operands_of n) 2 ≡ true
unfolding row_of
said n = by_rows says n refl table refl

pub two_operands : (n : ℕ) → operands_of n ≤ 2
two_operands n = leb-true _ _ (both (Said (operation_of n) n (row_of n).least_fan_out) _ (said n)).1

-- the code of an operation that is known by its code elsewhere, and the most fan-out of those that send nothing
abbrev Coded : Operation → (code most_fan_out : ℕ) → Bool
Coded Copy n k = true
Coded Sink n k = eqb k 0
Coded Out n k = eqb k 0
Coded Const n k = true
Coded Switch n k = eqb n 5
Coded Gate n k = true
Coded Next n k = eqb n 7
Coded Enter n k = eqb n 8
Coded Leave n k = eqb n 9
Coded Fetch n k = eqb n 10
Coded Store n k = true
Coded (OnTwo o) n k = true
Coded (OnConstant o) n k = true
Coded Unknown n k = eqb k 0

pub coded : {o : Operation} (n : ℕ) → operation_of n ≡ o → Coded o n (row_of n).most_fan_out ≡ true
unfolding row_of
coded n e = rw e at (by_rows (λ c r. Coded r.operation c r.most_fan_out) n refl table refl)

-- ---- what the operations need

wider : (k : ℤ) → within 1 255 k ≡ true → within 0 255 k ≡ true
unfolding within
wider (pos n) e = rw (le-leb 0 n (omega arith)) (both (leb 1 n) _ e).1
wider (negsuc n) e = e

module _ {g : List Instruction} {i : ℕ} {r : Instruction} (good : Good g i r) where
  pub said_of : {o : Operation} → operation_of r.code ≡ o → Said o r.code (row_of r.code).least_fan_out ≡ true
  said_of e = rw e at (both (Said (operation_of r.code) r.code (row_of r.code).least_fan_out) _ (said r.code)).0

  pub least_fan_out_lem : (row_of r.code).least_fan_out ≤ r.fanout
  unfolding fan_out_allowed
  least_fan_out_lem = leb-true _ _ (both _ (leb r.fanout _) good.fan_out).0

  pub most_fan_out_lem : r.fanout ≤ (row_of r.code).most_fan_out
  unfolding fan_out_allowed
  most_fan_out_lem = leb-true _ _ (both (leb (row_of r.code).least_fan_out r.fanout) _ good.fan_out).1

  pub enter_code : operation_of r.code ≡ Enter → eqb r.code 8 ≡ true
  enter_code e = (both (eqb r.code 8) (leb 2 (row_of r.code).least_fan_out) (said_of e)).0

  -- of an ENTER, by its code: its site, and that no earlier ENTER of the site has another return
  pub enter_named : eqb r.code 8 ≡ true → (within 1 255 r.constant ≡ true) × (any (other_return r) (take i g) ≡ false)
  unfolding good_site
  enter_named c =
      let p = both (within 1 255 r.constant) _ (rw c at good.site) in
      (p.0, not-true _ (both (eqb r.second.port 0) _ p.1).1)

  pub enter_site : operation_of r.code ≡ Enter → within 0 255 r.constant ≡ true
  enter_site e = wider r.constant (enter_named (enter_code e)).0

  pub leave_site : operation_of r.code ≡ Leave → within 0 255 r.constant ≡ true
  unfolding good_site
  leave_site e = rw (eqb-true r.code 9 (said_of e)) at good.site
