-- Which refusals the checks and the firings give: none is 18 or 20 (`check_early`, `profile_early`, `firing_early`), so that 18 is given by a profile alone, and 20 by a replay
-- alone. Assumes nothing.
use Rattle.std.proofs.Common.{Ok, Err}
use Prim.Native.Nat.{ℕ, suc, ◌+◌, ◌/◌, ◌%◌, ◌<◌}
use mathlib.Core.Path.{◌≡◌}
use mathlib.Core.Bool.{Bool, true, false, not, ◌&&◌, cond}
use mathlib.Core.List.{List, [], ◌∷◌}
use native.Mathlib.Omega.{arith}
use lib.Dec.{eqb, leb, ltb}
use lib.ListN.{length, take}
use lib.IntN.{ℤ, pos, negsuc, nat_abs}
use Rattle.std.specs.Prelude.{Option, None, Some}
use Rattle.record.specs.declared.tag.Tag.{Tag}
use Rattle.record.specs.declared.array.NamedArray.{NamedArray}
use Rattle.record.specs.declared.tag.Caller.{Caller}
use Rattle.record.specs.declared.instruction.Instruction.{Instruction}
use Rattle.record.specs.declared.operation.Operation.{Operation}
use Rattle.record.specs.declared.operation.Operation.TheVariants as Operations
use Rattle.arithmetic.specs.Arithmetic.{compute_of}
use Rattle.buffer.specs.Rows.{whole, all_rows}
use Rattle.record.specs.GraphRecords.{is_graph_length, graph_of, destinations, operands_of, operation_of}
use Rattle.record.specs.Arrays.{most_arrays, arrays_of}
use Rattle.record.specs.TokensAndTags.{most_tokens, capacity_of}
use Rattle.record.specs.TokensAndTags as Tokens
use Rattle.record.specs.Calls.{next_of, enter_of, leave_of}
use Rattle.record.specs.Widths.{token_width, cell_width, pick_width, array_width, step_width}
use Rattle.machine.specs.Machine.{Key, refuse, send, read, write, State, not_fired, fire}
use Rattle.machine.proofs.Refusals.{RefusesOnly, refused_only}
use Rattle.rules.specs.declared.answer.Refusal.{Refusal}
use Rattle.rules.specs.declared.answer.Refusal.TheVariants as Refusals
use Rattle.rules.specs.Answer.{number_of}
use Rattle.rules.specs.Check.{demand, ◌and_then◌, all, in_turn, instruction_at, fan_out_allowed, unused_are_zero, good_arc, good_site, check_record, check_graph, check_stores, inside_store, names_good, check_arrays, good_input, second_input, check_inputs, check, most_cells, Checked}
use Rattle.rules.specs.InstructionSet.{EffectHere, all_under, send_computed, send_next, send_entered, send_returned, send_left, return_of, on_cell, cell_number, effect_of, effect_in, machine_of}
use Rattle.rules.specs.Profile.{check_profile_stores, check_profile}

abbrev pub Below18 : Refusal → Type 0
Below18 r = number_of r < 18

-- 18 is a profile's own, and 20 a replay's
pub record Common (r : Refusal) : Type 0 where
  pub not_full_lem : ¬ (number_of r ≡ 18)
  pub not_named_lem : ¬ (number_of r ≡ 20)

below_common : (r : Refusal) → Below18 r → Common r
below_common r h = record { not_full_lem = λ z. omega (arith, z, h); not_named_lem = λ z. omega (arith, z, h) }

-- ---- before any firing

abbrev pub Early : Checked → Type 0
Early (Ok _) = Unit {0}
Early (Err fault) = Common fault.refusal

demand_early : (b : Bool) (r : Refusal) (p : ℕ) → Common r → Early (demand b r p)
demand_early true r p h = tt
demand_early false r p h = h

then_early : (a b : Checked) → Early a → Early b → Early (a and_then b)
then_early (Ok _) b h k = k
then_early (Err fault) b h k = h

-- a demand, and what comes after it
first_early : (b : Bool) (r : Refusal) (p : ℕ) (c : Checked) → Common r → Early c → Early (demand b r p and_then c)
first_early true r p c h k = k
first_early false r p c h k = h

turn_early : {A : Type 0} (f : ℕ → A → Checked) → ((i : ℕ) (x : A) → Early (f i x)) → (i : ℕ) (xs : List A) → Early (in_turn f i xs)
turn_early f h i [] = tt
turn_early f h i (x ∷ xs) = then_early (f i x) (in_turn f (suc i) xs) (h i x) (turn_early f h (suc i) xs)

record_early : (g : List Instruction) (i : ℕ) (r : Instruction) → Early (check_record g i r)
unfolding check_record
record_early g i r =
    first_early (leb 1 (operands_of r.code)) Refusals.UnknownOperation i _ (below_common Refusals.UnknownOperation (omega arith))
    (first_early (fan_out_allowed r && unused_are_zero r) Refusals.FanOut i _ (below_common Refusals.FanOut (omega arith))
    (first_early (all (good_arc g) (destinations r)) Refusals.BadArc i _ (below_common Refusals.BadArc (omega arith))
    (demand_early (good_site (take i g) r) Refusals.BadSite i (below_common Refusals.BadSite (omega arith)))))

graph_early : (graph : List ℕ) → Early (check_graph graph)
unfolding check_graph
graph_early graph =
    first_early (is_graph_length (length graph)) Refusals.GraphLength 0 _ (below_common Refusals.GraphLength (omega arith)) (turn_early (check_record (graph_of graph)) (record_early (graph_of graph)) 0 (graph_of graph))

stores_early : (inputs picks ledger cells : ℕ) → Early (check_stores inputs picks ledger cells)
unfolding check_stores
stores_early inputs picks ledger cells =
    demand_early (whole token_width most_tokens inputs && (whole pick_width most_tokens picks && (whole token_width most_tokens ledger && whole cell_width most_cells cells))) Refusals.BadStore 0 (below_common Refusals.BadStore (omega arith))

inputs_early : (g : List Instruction) (capacity : ℕ) (inputs : List ℕ) → Early (check_inputs g capacity inputs)
unfolding check_inputs
inputs_early g capacity inputs =
    let ts = all_rows token_width Tokens.decode_token inputs in
    let goods = all_rows token_width (good_input g) inputs in
    then_early (in_turn (λ i good. demand good Refusals.BadInput i) 0 goods) _
    (turn_early (λ i good. demand good Refusals.BadInput i) (λ i good. demand_early good Refusals.BadInput i (below_common Refusals.BadInput (omega arith))) 0 goods)
    (first_early (leb (length ts) capacity) Refusals.LedgerFull capacity _ (below_common Refusals.LedgerFull (omega arith))
    (turn_early (λ i t. demand (not (second_input (take i ts) t)) Refusals.SecondToken i) (λ i t. demand_early (not (second_input (take i ts) t)) Refusals.SecondToken i (below_common Refusals.SecondToken (omega arith))) 0 ts))

arrays_early : (g : List Instruction) (cells : ℕ) (arrays : List ℕ) → Early (check_arrays g cells arrays)
unfolding check_arrays
arrays_early g cells arrays =
    let bad : Common Refusals.BadArray = record { not_full_lem = λ z. omega (arith, z); not_named_lem = λ z. omega (arith, z) } in
    first_early (whole array_width most_arrays (length arrays) && all (inside_store cells) (arrays_of arrays)) Refusals.BadArray 0 _ bad
    (turn_early (λ i r. demand (names_good (length (arrays_of arrays)) r) Refusals.BadArray i) (λ i r. demand_early (names_good (length (arrays_of arrays)) r) Refusals.BadArray i bad) 0 g)

-- of the table and the inputs
later_early : (graph arrays inputs : List ℕ) (capacity cells : ℕ) → Early (check_arrays (graph_of graph) cells arrays and_then check_inputs (graph_of graph) capacity inputs)
later_early graph arrays inputs capacity cells =
    then_early (check_arrays (graph_of graph) cells arrays) _ (arrays_early (graph_of graph) cells arrays) (inputs_early (graph_of graph) capacity inputs)

pub check_early : (graph arrays inputs picks : List ℕ) (ledger cells : ℕ) → Early (check graph arrays inputs picks ledger cells)
unfolding check
check_early graph arrays inputs picks ledger cells =
    then_early (check_graph graph) _ (graph_early graph)
    (then_early (check_stores (length inputs) (length picks) ledger cells) _ (stores_early (length inputs) (length picks) ledger cells) (later_early graph arrays inputs (capacity_of ledger) (cells / cell_width)))

pub profile_early : (graph arrays inputs : List ℕ) (ledger cells lent : ℕ) → Early (check_profile graph arrays inputs ledger cells lent)
unfolding check_profile check_profile_stores
profile_early graph arrays inputs ledger cells lent =
    let stores = check_stores (length inputs) 0 ledger cells in
    let records = demand (eqb (lent % step_width) 0) Refusals.BadStore 0 in
    then_early (check_graph graph) _ (graph_early graph)
    (then_early (stores and_then records) _
    (then_early stores records (stores_early (length inputs) 0 ledger cells) (demand_early (eqb (lent % step_width) 0) Refusals.BadStore 0 (below_common Refusals.BadStore (omega arith))))
    (later_early graph arrays inputs (capacity_of ledger) (cells / cell_width)))

-- ---- in a firing

abbrev EarlyEffect : EffectHere → Type 0
EarlyEffect e = RefusesOnly Below18 e

of_cond : (b : Bool) (x y : EffectHere) → EarlyEffect x → EarlyEffect y → EarlyEffect (cond b x y)
of_cond true x y h k = h
of_cond false x y h k = k

of_computed : (c : Option ℤ) (keys : List (Key Tag)) → EarlyEffect (send_computed c keys)
unfolding send_computed
of_computed (Some v) keys = tt
of_computed None keys = omega arith

of_next : (n : Option Tag) (r : Instruction) (v : ℤ) → EarlyEffect (send_next n r v)
unfolding send_next
of_next (Some τ) r v = tt
of_next None r v = omega arith

of_entered : (e : Option Tag) (r : Instruction) (v : ℤ) → EarlyEffect (send_entered e r v)
unfolding send_entered
of_entered (Some τ) r v = tt
of_entered None r v = omega arith

of_left : (g : List Instruction) (l : Option Caller) (r : Instruction) (v : ℤ) → EarlyEffect (send_left g l r v)
unfolding send_left send_returned
of_left g (Some c) r v = of_cond (ltb (return_of c.site g + nat_abs r.constant) (length g)) (send v _) (refuse Refusals.NoReturn) tt (omega arith)
of_left g None r v = tt

of_cell : (cells : ℕ) (a : ℤ) (f : ℕ → EffectHere) → ((c : ℕ) → EarlyEffect (f c)) → EarlyEffect (on_cell cells a f)
unfolding on_cell
of_cell cells (pos c) f h = of_cond (ltb c cells) (f c) (refuse Refusals.NoSuchCell) (h c) (omega arith)
of_cell cells (negsuc c) f h = omega arith

of_operation : (o : Operation) (g : List Instruction) (table : List NamedArray) (cells : ℕ) (τ : Tag) (r : Instruction) (a b : ℤ) (keys : List (Key Tag)) → EarlyEffect (effect_of o g table cells τ r a b keys)
unfolding effect_of
of_operation Operations.Copy g table cells τ r a b keys = tt
of_operation Operations.Sink g table cells τ r a b keys = tt
of_operation Operations.Out g table cells τ r a b keys = tt
of_operation Operations.Const g table cells τ r a b keys = tt
of_operation Operations.Switch g table cells τ r a b keys = tt
of_operation Operations.Gate g table cells τ r a b keys = tt
of_operation Operations.Next g table cells τ r a b keys = of_next (next_of τ) r a
of_operation Operations.Enter g table cells τ r a b keys = of_entered (enter_of τ (nat_abs r.constant)) r a
of_operation Operations.Leave g table cells τ r a b keys = of_left g (leave_of τ) r a
of_operation Operations.Fetch g table cells τ r a b keys = of_cell cells (cell_number table r.constant a) (λ c. read c keys) (λ c. tt)
of_operation Operations.Store g table cells τ r a b keys = of_cell cells (cell_number table r.constant a) (λ c. write c b keys) (λ c. tt)
of_operation (Operations.OnTwo o) g table cells τ r a b keys = of_computed (compute_of o a b) keys
of_operation (Operations.OnConstant o) g table cells τ r a b keys = of_computed (compute_of o a r.constant) keys
of_operation Operations.Unknown g table cells τ r a b keys = tt

pub firing_early : (g : List Instruction) (table : List NamedArray) (capacity cells : ℕ) (s : State Tag ℤ) (τ : Tag) (r : Refusal) → fire (machine_of g table capacity cells) s τ ≡ not_fired r → Below18 r
unfolding effect_in
firing_early g table capacity cells =
    refused_only (machine_of g table capacity cells) Below18 (omega arith) (omega arith) (omega arith)
    (λ τ v w. of_operation (operation_of (instruction_at g τ.instruction).code) g table cells τ (instruction_at g τ.instruction) v w (all_under τ (instruction_at g τ.instruction)))
