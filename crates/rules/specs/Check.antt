-- 01, "The answer and the refusals": what is refused before any firing is tried. "Order: 1; records in turn, each 2 to 5; 7; inputs in turn for 6;
-- then 8 if they exceed the capacity; then 9 by input in turn, against the inputs before it."; R-10: 22 "before inputs". Assumes nothing.
use Rattle.std.specs.Prelude.{ℕ, suc, ◌+◌, ◌/◌, Bool, true, false, not, ◌&&◌, ◌||◌, cond, List, [], ◌∷◌, length, take, get_or, ℤ, pos, eqb, leb, ltb, Result, Ok, Err}
use Rattle.std.specs.Result.{result_and}
use Rattle.std.specs.Int.Signed.{le_z}
use Rattle.record.specs.declared.array.NamedArray.{NamedArray}
use Rattle.record.specs.declared.token.Token.{Token}
use Rattle.record.specs.declared.instruction.Destination.{Destination}
use Rattle.record.specs.declared.instruction.Instruction.{Instruction}
use Rattle.buffer.specs.Rows.{whole, all_rows}
use Rattle.record.specs.GraphRecords.{is_graph_length, graph_of, destinations, row_of, operands_of, names_array, uses_constant}
use Rattle.record.specs.GraphRecords as Graph
use Rattle.record.specs.Arrays.{most_arrays, arrays_of}
use Rattle.record.specs.TokensAndTags.{tag_in, port_in, is_input, stands_at, most_tokens, capacity_of}
use Rattle.record.specs.TokensAndTags as Tokens
use Rattle.record.specs.Widths.{token_width, cell_width, pick_width, array_width}
use Rattle.arithmetic.specs.Arithmetic.{eq_z}
use Rattle.rules.specs.declared.answer.Fault.{Fault}
use Rattle.rules.specs.declared.answer.Refusal.{Refusal}
use Rattle.rules.specs.declared.answer.Refusal.TheVariants.{GraphLength, UnknownOperation, FanOut, BadArc, BadSite, BadInput, BadStore, LedgerFull, SecondToken, BadArray}

-- ---- the first that fails counts

-- a refusal with its place
abbrev pub fault_at : Refusal → (place : ℕ) → Fault
fault_at r p = record { refusal = r; place = p }

-- what a check before the first firing says. A word of its own here, since a run has a `Result` of its own
abbrev pub Checked : Type 0
Checked = Result (Unit {0}) Fault

abbrev pub demand : Bool → Refusal → (place : ℕ) → Checked
demand true r p = Ok tt
demand false r p = Err (fault_at r p)

infixr 20 ◌and_then◌
abbrev pub ◌and_then◌ : {A : Type 0} → Checked → Result A Fault → Result A Fault
c and_then r = result_and c r

module _ {A : Type 0} where
  abbrev pub all : (A → Bool) → List A → Bool
  all f [] = true
  all f (x ∷ xs) = f x && all f xs

  abbrev pub any : (A → Bool) → List A → Bool
  any f [] = false
  any f (x ∷ xs) = f x || any f xs

  -- the elements in turn, each with its position, counted from i
  abbrev pub in_turn : (ℕ → A → Checked) → (i : ℕ) → List A → Checked
  in_turn f i [] = Ok tt
  in_turn f i (x ∷ xs) = f i x and_then in_turn f (suc i) xs

-- ---- the graph

-- a record's position is its instruction number; past the graph stands an unknown operation, which has no operands
unfoldable pub instruction_at : List Instruction → ℕ → Instruction
instruction_at g i = get_or g i (Graph.decode_instruction [])

unfoldable pub operands_at : List Instruction → ℕ → ℕ
operands_at g i = operands_of (instruction_at g i).code

-- 3: "count not allowed"
unfoldable pub fan_out_allowed : Instruction → Bool
fan_out_allowed r = leb (row_of r.code).least_fan_out r.fanout && leb r.fanout (row_of r.code).most_fan_out

-- 3: "or an unused field or bytes 12-15 not zero"
unfoldable pub is_zero : Destination → Bool
is_zero d = eqb d.instruction 0 && eqb d.port 0

unfoldable pub unused_are_zero : Instruction → Bool
unused_are_zero r =
    (leb 1 r.fanout || is_zero r.first)
    && ((leb 2 r.fanout || is_zero r.second)
    && ((uses_constant r.code || eq_z r.constant (pos 0))
    && eqb r.zeros 0))

-- 4: "instruction absent, or port not below its operand count", which is 0 for an absent one
unfoldable pub good_arc : List Instruction → Destination → Bool
good_arc g d = ltb d.port (operands_at g d.instruction)

-- 5: "site or LEAVE constant outside its range"
unfoldable pub within : ℕ → ℕ → ℤ → Bool
within a b k = le_z (pos a) k && le_z k (pos b)

unfoldable pub enters_site : ℤ → Instruction → Bool
enters_site site r = eqb r.code 8 && eq_z r.constant site

-- 5: "or an earlier ENTER of that site with another return"
unfoldable pub other_return : Instruction → (earlier : Instruction) → Bool
other_return r e = enters_site r.constant e && not (eqb e.second.instruction r.second.instruction)

-- 5: of an ENTER (code 8), "return port not 0" too; of a LEAVE (code 9)
unfoldable pub good_site : (earlier : List Instruction) → Instruction → Bool
good_site earlier r =
    cond (eqb r.code 8) (within 1 255 r.constant && (eqb r.second.port 0 && not (any (other_return r) earlier)))
    (cond (eqb r.code 9) (within 0 255 r.constant) true)

-- "records in turn, each 2 to 5"
unfoldable pub check_record : List Instruction → ℕ → Instruction → Checked
check_record g i r =
    demand (leb 1 (operands_of r.code)) UnknownOperation i
    and_then demand (fan_out_allowed r && unused_are_zero r) FanOut i
    and_then demand (all (good_arc g) (destinations r)) BadArc i
    and_then demand (good_site (take i g) r) BadSite i

unfoldable pub check_graph : (graph : List ℕ) → Checked
check_graph graph =
    demand (is_graph_length (length graph)) GraphLength 0
    and_then in_turn (check_record (graph_of graph)) 0 (graph_of graph)

-- ---- the stores, by their lengths in bytes: "inputs, picks, ledger or cells not whole records, or more than 2,048 of them (cells: 1,024)"

abbrev pub most_cells : ℕ
most_cells = 1024

unfoldable pub check_stores : (inputs picks ledger cells : ℕ) → Checked
check_stores inputs picks ledger cells =
    demand (whole token_width most_tokens inputs && (whole pick_width most_tokens picks && (whole token_width most_tokens ledger && whole cell_width most_cells cells))) BadStore 0

-- ---- R-10, the table of named arrays. 22: "for a table not in whole records, too long or with a first cell plus length above the cell count (place 0), else for
-- a constant outside it (the first such instruction)"

unfoldable pub inside_store : (cells : ℕ) → NamedArray → Bool
inside_store cells a = leb (a.first + a.length) cells

-- of a FETCH or a STORE: its constant is 0 or the number of an array, counted from 1
unfoldable pub names_good : (arrays : ℕ) → Instruction → Bool
names_good arrays r = not (names_array r.code) || within 0 arrays r.constant

-- by the number of cells
unfoldable pub check_arrays : List Instruction → (cells : ℕ) → (arrays : List ℕ) → Checked
check_arrays g cells arrays =
    demand (whole array_width most_arrays (length arrays) && all (inside_store cells) (arrays_of arrays)) BadArray 0
    and_then in_turn (λ i r. demand (names_good (length (arrays_of arrays)) r) BadArray i) 0 g

-- ---- the inputs

-- 6: "an input field not as above, instruction or port absent", of the record that l starts with
unfoldable pub good_input : List Instruction → List ℕ → Bool
good_input g l = is_input l && ltb (port_in l) (operands_at g (tag_in l).instruction)

-- 9: a token stands there already
unfoldable pub second_input : (earlier : List Token) → Token → Bool
second_input earlier t = any (stands_at t.tag t.port) earlier

unfoldable pub check_inputs : List Instruction → (capacity : ℕ) → (inputs : List ℕ) → Checked
check_inputs g capacity inputs =
    let ts = all_rows token_width Tokens.decode_token inputs in
    in_turn (λ i good. demand good BadInput i) 0 (all_rows token_width (good_input g) inputs)
    and_then demand (leb (length ts) capacity) LedgerFull capacity
    and_then in_turn (λ i t. demand (not (second_input (take i ts) t)) SecondToken i) 0 ts

-- ---- all of it; ledger and cells by their lengths in bytes

-- the order of the checks: the graph, what is lent, the named arrays for this number of cells, and last the inputs or a saved state. A run, one with a log or a bound, a
-- replay, a profile, a range run and a run from a saved state differ in what is lent and in what is last
abbrev pub check_with : (graph arrays : List ℕ) → (cells : ℕ) → (lent last : Checked) → Checked
check_with graph arrays cells lent last = check_graph graph and_then lent and_then check_arrays (graph_of graph) cells arrays and_then last

unfoldable pub check : (graph arrays inputs picks : List ℕ) → (ledger cells : ℕ) → Checked
check graph arrays inputs picks ledger cells =
    check_with graph arrays (cells / cell_width)
    (check_stores (length inputs) (length picks) ledger cells)
    (check_inputs (graph_of graph) (capacity_of ledger) inputs)
