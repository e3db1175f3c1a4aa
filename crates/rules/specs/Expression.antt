-- 02, R-14, "From an expression to a graph", in its order: the records, the refusals, the value, the graph, what feeds it, and the claims, which are proved in
-- proofs/Expression. Assumes nothing.
use Rattle.std.specs.Prelude.{ℕ, zero, suc, ◌+◌, ◌-◌, ◌*◌, ◌/◌, ◌≤◌, ◌≡◌, Bool, not, ◌&&◌, ◌||◌, cond, List, [], ◌∷◌, ◌++◌, length, get_or, take, set, eqb, leb, ltb, ℤ, pos, Option, None, Some, Result, Ok, Err, ok_or}
use Rattle.std.proofs.Math.Option.{some}
use Rattle.std.specs.Int.{w32}
use Rattle.std.proofs.Common.{SFits}
use Rattle.record.specs.declared.tag.Tag.{Tag}
use Rattle.record.specs.declared.token.Token.{Token}
use Rattle.record.specs.declared.token.Content.TheVariants.{Live}
use Rattle.record.specs.declared.instruction.Destination.{Destination}
use Rattle.record.specs.declared.instruction.Instruction.{Instruction}
use Rattle.record.specs.declared.term.Term.{Term}
use Rattle.record.specs.declared.operation.Arithmetic.{Arithmetic}
use Rattle.record.specs.declared.operation.Arithmetic.TheVariants.{Add, Sub, Mul, Div, Rem, Lt, Le, Eq}
use Rattle.number.specs.Number.{number32, signed_of}
use Rattle.buffer.specs.Rows.{whole, all_rows, joined, written_over, All}
use Rattle.record.specs.ExpressionRecords.{decode_term, expression_of}
use Rattle.record.specs.GraphRecords as Graph
use Rattle.record.specs.TokensAndTags.{root_of, capacity_of}
use Rattle.record.specs.TokensAndTags as Tokens
use Rattle.record.specs.Widths.{term_width, value_width, graph_width, cell_width}
use Rattle.arithmetic.specs.Arithmetic.{compute_of}
use Rattle.machine.specs.Machine.{live, End, completed, refused, Machine, Choice, at, look, run_by}
use Rattle.machine.specs.Orders.{LawfulChoice}
use Rattle.rules.specs.declared.answer.Fault.{Fault}
use Rattle.rules.specs.declared.answer.Refusal.{Refusal}
use Rattle.rules.specs.declared.answer.Refusal.TheVariants as Refusals
use Rattle.rules.specs.Check.{demand, ◌and_then◌, any, in_turn, Checked, fault_at}
use Rattle.rules.specs.InstructionSet.{machine_of}
use Rattle.rules.specs.Run.{first_state, ran_to, result}
use Rattle.rules.specs.Orders.{Allowed}

-- ---- "An expression is 1 to 100 records of 8 bytes: kind (byte 0: 0 a variable, else an arithmetic code 16 to 23), left and right record numbers (bytes 1 and
-- 2), zeros; both are zero for a variable."

abbrev pub most_terms : ℕ
most_terms = 100

abbrev pub is_expression_length : (length : ℕ) → Bool
is_expression_length n = leb 1 n && whole term_width most_terms n

-- past the expression stands a variable
unfoldable pub term_at : List Term → ℕ → Term
term_at ts i = get_or ts i (decode_term [])

abbrev pub is_variable : Term → Bool
is_variable t = eqb t.kind 0

abbrev pub is_operation : Term → Bool
is_operation t = not (is_variable t)

-- ---- "Each record may name only records before it, and every record but the last is named exactly once."

-- an operation names its left and its right; a variable names none
abbrev pub names : (number : ℕ) → Term → Bool
names j t = is_operation t && (eqb t.left j || eqb t.right j)

-- the operation of record i, and the records before it
unfoldable pub good_operation : (earlier : List Term) → (i : ℕ) → Term → Bool
good_operation earlier i t =
    leb 16 t.kind
    && (leb t.kind 23
    && (ltb t.left i
    && (ltb t.right i
    && (not (eqb t.left t.right)
    && (not (any (names t.left) earlier)
    && not (any (names t.right) earlier))))))

unfoldable pub good_term : (earlier : List Term) → (i : ℕ) → Term → Bool
good_term earlier i t = eqb t.zeros 0 && cond (is_variable t) (eqb t.left 0 && eqb t.right 0) (good_operation earlier i t)

-- ---- "Refused: 25, bad expression, with place 0 for a wrong length, else at the first record with a bad field or naming one already named, else at the first
-- never named; then 26, graph too long for the lent output."

-- "at the first record with a bad field or naming one already named"
abbrev pub check_good_terms : List Term → Checked
check_good_terms ts = in_turn (λ i t. demand (good_term (take i ts) i t) Refusals.BadExpression i) 0 ts

-- "at the first never named"; the last is named by none
abbrev pub check_named : List Term → Checked
check_named ts = in_turn (λ j t. demand (eqb (suc j) (length ts) || any (names j) ts) Refusals.BadExpression j) 0 ts

unfoldable pub check_terms : List Term → Checked
check_terms ts = check_good_terms ts and_then check_named ts

unfoldable pub check_expression : (expression : List ℕ) → Checked
check_expression expression = demand (is_expression_length (length expression)) Refusals.BadExpression 0 and_then check_terms (expression_of expression)

-- ---- the value of an expression, its variables in record order

-- "an arithmetic code 16 to 23", in the order of 01's table
abbrev pub arithmetic_of : (code : ℕ) → Arithmetic
arithmetic_of code = get_or (Add ∷ Sub ∷ Mul ∷ Div ∷ Rem ∷ Lt ∷ Le ∷ Eq ∷ []) (code - 16) Add

-- what is out of range stays so
abbrev pub combined : Arithmetic → Option ℤ → Option ℤ → Option ℤ
combined o (Some a) (Some b) = compute_of o a b
combined o (Some a) None = None
combined o None b = None

abbrev pub count : (Term → Bool) → List Term → ℕ
count f [] = 0
count f (t ∷ ts) = cond (f t) (suc (count f ts)) (count f ts)

-- the number of the variable that record i is
abbrev pub variable_number : List Term → (i : ℕ) → ℕ
variable_number ts i = count is_variable (take i ts)

-- the value of record i, which is below the bound: it falls with each name
unfoldable pub value_below : (bound : ℕ) → List Term → List ℤ → (i : ℕ) → Option ℤ
value_below zero ts values i = None
value_below (suc bound) ts values i =
    let t = term_at ts i in
    cond (is_variable t) (Some (get_or values (variable_number ts i) (pos 0)))
    (combined (arithmetic_of t.kind) (value_below bound ts values t.left) (value_below bound ts values t.right))

abbrev pub value_at : List Term → List ℤ → (i : ℕ) → Option ℤ
value_at ts values i = value_below (suc i) ts values i

-- that of the last record
abbrev pub expression_value : List Term → List ℤ → Option ℤ
expression_value ts values = value_at ts values (length ts - 1)

-- ---- "The graph is a COPY for each variable, then the operations, both in record order, then one OUT; left goes to port 0"

-- the instruction of record i
unfoldable pub instruction_for : List Term → (i : ℕ) → ℕ
instruction_for ts i = cond (is_variable (term_at ts i)) (variable_number ts i) (count is_variable ts + count is_operation (take i ts))

abbrev pub out_for : List Term → ℕ
out_for ts = length ts

-- where the value of record j goes: to the operation that names it, or to OUT if none does. Looked for from record i on
unfoldable pub feeds : List Term → (j : ℕ) → (i : ℕ) → List Term → Destination
feeds ts j i [] = record { instruction = out_for ts; port = 0 }
feeds ts j i (t ∷ rest) =
    cond (names j t) (record { instruction = instruction_for ts i; port = cond (eqb t.left j) 0 1 })
    (feeds ts j (suc i) rest)

abbrev pub goes_to : List Term → (j : ℕ) → Destination
goes_to ts j = feeds ts j 0 ts

abbrev pub nowhere : Destination
nowhere = record { instruction = 0; port = 0 }

-- COPY (code 1) for a variable
abbrev pub code_for : Term → ℕ
code_for t = cond (is_variable t) 1 t.kind

abbrev pub sending : (code : ℕ) → Destination → Instruction
sending code d = record { code = code; fanout = 1; first = d; second = nowhere; constant = pos 0; zeros = 0 }

-- OUT (code 3)
abbrev pub out : Instruction
out = record { code = 3; fanout = 0; first = nowhere; second = nowhere; constant = pos 0; zeros = 0 }

-- the instructions for the terms of one sort, from record i on
unfoldable pub made : List Term → (Term → Bool) → (i : ℕ) → List Term → List Instruction
made ts f i [] = []
made ts f i (t ∷ rest) = cond (f t) (sending (code_for t) (goes_to ts i) ∷ made ts f (suc i) rest) (made ts f (suc i) rest)

unfoldable pub graph_for : List Term → List Instruction
graph_for ts = made ts is_variable 0 ts ++ (made ts is_operation 0 ts ++ out ∷ [])

-- 01, "The shape of some places": the graph "by recursion on a falling record number". Record i, which is below the bound, sends to d: its instruction and those
-- of the records that it names, and so on, are put into g at their numbers
unfoldable pub put_below : (bound : ℕ) → List Term → (i : ℕ) → Destination → List Instruction → List Instruction
put_below zero ts i d g = g
put_below (suc bound) ts i d g =
    let t = term_at ts i in
    let m = instruction_for ts i in
    let own = set g m (sending (code_for t) d) in
    cond (is_variable t) own
    (put_below bound ts t.right (record { instruction = m; port = 1 }) (put_below bound ts t.left (record { instruction = m; port = 0 }) own))

abbrev pub put_at : List Term → (i : ℕ) → Destination → List Instruction → List Instruction
put_at ts i d g = put_below (suc i) ts i d g

-- the last record sends to OUT
unfoldable pub put_graph : List Term → List Instruction → List Instruction
put_graph ts g = put_at ts (length ts - 1) (record { instruction = out_for ts; port = 0 }) (set g (out_for ts) out)

unfoldable pub graph_bytes : List Term → List ℕ
graph_bytes ts = joined Graph.encode_instruction (graph_for ts)

-- ---- "each COPY is fed its variable"

-- the values of the variables from number i on
abbrev pub inputs_for : (i : ℕ) → List ℤ → List Token
inputs_for i [] = []
inputs_for i (v ∷ values) = record { tag = root_of i; port = 0; content = Live v } ∷ inputs_for (suc i) values

unfoldable pub input_bytes : List ℤ → List ℕ
input_bytes values = joined Tokens.encode_token (inputs_for 0 values)

-- ---- the answer, and what is left: 25 and 26 "leave the output unwritten"

unfoldable pub check_made : (expression : List ℕ) → (output : ℕ) → Checked
check_made expression output =
    check_expression expression
    and_then demand (leb (graph_width * suc (length (expression_of expression))) output) Refusals.GraphTooLong 0

-- the number of the graph's records
abbrev pub made_of : Checked → (records : ℕ) → Result ℕ Fault
made_of c n = c and_then Ok n

abbrev pub output_of : Checked → (graph : List Instruction) → (lent : List ℕ) → List ℕ
output_of (Ok _) g lent = written_over Graph.encode_instruction g lent
output_of (Err fault) g lent = lent

-- what a function promises that makes the graph of an expression
pub record MadeFrom (expression : List ℕ) (r : Result ℕ Fault) (output output' : List ℕ) : Type 0 where
  pub answered : r ≡ made_of (check_made expression (length output)) (suc (length (expression_of expression)))
  pub output_left : output' ≡ output_of (check_made expression (length output)) (graph_for (expression_of expression)) output

-- ---- the value over bytes, with which a user compares what OUT received: 4 bytes for each variable, in record order; 7 if there are more or fewer

abbrev pub variables_of : List ℕ → List ℤ
variables_of l = all_rows value_width (λ b. signed_of (number32 b 0)) l

unfoldable pub check_values : (expression : List ℕ) → (values : ℕ) → Checked
check_values expression values =
    check_expression expression
    and_then demand (eqb values (count is_variable (expression_of expression) * value_width)) Refusals.BadStore 0

-- "if each operation in it is in range and no divisor is 0, and otherwise [..] refused by 12"
abbrev pub evaluated_of : Checked → Option ℤ → Result ℤ Fault
evaluated_of c x = c and_then ok_or x (fault_at Refusals.OutOfRange 0)

-- what a function promises that gives the value of an expression
unfoldable pub evaluated : (expression values : List ℕ) → Result ℤ Fault
evaluated expression values = evaluated_of (check_values expression (length values)) (expression_value (expression_of expression) (variables_of values))

-- ---- the claims

-- of every expression that passed
abbrev pub OfEvery : (List Term → Type 0) → Type 0
OfEvery P = (expression : List ℕ) → check_expression expression ≡ Ok tt → P (expression_of expression)

-- as many values as the expression has variables, each of 32 signed bits
pub record ValuesFor (ts : List Term) (values : List ℤ) : Type 0 where
  pub number : length values ≡ count is_variable ts
  pub each : All (SFits w32) values

module _ (ts : List Term) (capacity cells : ℕ) where
  abbrev pub expression_machine : Machine
  expression_machine = machine_of (graph_for ts) [] capacity cells

  -- "OUT receives the expression's value": each record has fired, and no token came but one for each variable and one from each record
  pub record Received (v : ℤ) (e : End Refusal Tag ℤ) : Type 0 where
    pub outcome : e.outcome ≡ completed
    pub received : look expression_machine e.state (at expression_machine (root_of (out_for ts)) 0) ≡ some (live v)
    pub firings : e.firings ≡ length ts
    pub tokens : length e.state.tokens ≡ count is_variable ts + length ts

  -- "if each operation in it is in range and no divisor is 0, and otherwise the run is refused by 12"
  abbrev pub EvaluatesExpression : Option ℤ → End Refusal Tag ℤ → Type 0
  EvaluatesExpression (Some v) e = Received v e
  EvaluatesExpression None e = (place : ℕ) × (e.outcome ≡ refused Refusals.OutOfRange place)

-- "For all variable values and every firing order": with any choice that takes one of the enabled, and room for the tokens and the firings that it takes
abbrev pub ExpressionsEvaluateBy : Type 0
ExpressionsEvaluateBy = OfEvery (λ ts. (values : List ℤ) → ValuesFor ts values
    → (capacity cells : ℕ) → count is_variable ts + length ts ≤ capacity
    → (c : Choice (expression_machine ts capacity cells)) → LawfulChoice (expression_machine ts capacity cells) c
    → (budget : ℕ) → length ts ≤ budget → (picks : List ℕ)
    → EvaluatesExpression ts capacity cells (expression_value ts values) (run_by (expression_machine ts capacity cells) c budget picks 0 (first_state (input_bytes values) cells)))

-- of whole runs, by picks and without named arrays: "budget 2,048", and "A ledger of 300 records is enough."
abbrev pub ExpressionsEvaluate : Type 0
ExpressionsEvaluate = OfEvery (λ ts. (values : List ℤ) → ValuesFor ts values
    → (picks : List ℕ) (ledger cells : ℕ) → Allowed picks ledger cells → 300 ≤ capacity_of ledger
    → (e : End Refusal Tag ℤ) × (result (graph_bytes ts) [] (input_bytes values) picks 2048 ledger cells ≡ ran_to e)
    × EvaluatesExpression ts (capacity_of ledger) (cells / cell_width) (expression_value ts values) e)

-- a computed proof with the line `unfolding expressions` computes with all of this
unfoldable pub expressions : Unit {0}
unfolding decode_term term_at good_operation good_term check_terms check_expression value_below instruction_for feeds made graph_for put_below put_graph graph_bytes input_bytes check_made check_values evaluated
expressions = tt
