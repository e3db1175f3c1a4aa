-- 01, "Graph records", in its order. Assumes nothing.
use Rattle.std.specs.Prelude.{◌≡◌, ℕ, zero, suc, ◌*◌, ◌^◌, ◌<◌, Bool, cond, ◌&&◌, ◌||◌, List, [], ◌∷◌, ◌++◌, drop, FitsSigned, ◌==◌, nat_le, slice_index}
use Rattle.std.specs.Int.{w32}
use Rattle.number.specs.Number.{byte_at, number16, number32, signed_of, bits_of, bytes16, bytes32}
use Rattle.buffer.specs.Rows.{whole, all_rows}
use Rattle.record.specs.declared.instruction.Destination.{Destination}
use Rattle.record.specs.declared.instruction.Instruction.{Instruction}
use Rattle.record.specs.declared.operation.Arithmetic.TheVariants.{Add, Sub, Mul, Div, Rem, Lt, Le, Eq}
use Rattle.record.specs.declared.operation.Operation.{Operation}
use Rattle.record.specs.declared.operation.Operation.TheVariants.{Copy, Sink, Out, Const, Switch, Gate, Next, Enter, Leave, Fetch, Store, OnTwo, OnConstant, Unknown}
use Rattle.record.specs.Widths.{graph_width}

-- ---- "A graph is 1 to 256 records of 16 bytes without a header; a record's position is its instruction number."

abbrev pub is_graph_length : (length : ℕ) → Bool
is_graph_length n = nat_le 1 n && whole graph_width 256 n

-- ---- "Byte 0: operation. Byte 1: fan-out, the number of destinations in use. Bytes 2 and 3: ports of destinations 1 and 2.
-- Bytes 4-5 and 6-7: their instructions. Bytes 8-11: a constant, signed, 32 bits. Bytes 12-15: zero."

-- the record that l starts with
unfoldable pub decode_instruction : List ℕ → Instruction
decode_instruction l = record {
  code = byte_at l 0;
  fanout = byte_at l 1;
  first = record { port = byte_at l 2; instruction = number16 l 4 };
  second = record { port = byte_at l 3; instruction = number16 l 6 };
  constant = signed_of (number32 l 8);
  zeros = number32 l 12;
}

abbrev pub instruction_bytes : (code fan_out : ℕ) → (first second : Destination) → (constant zeros : ℕ) → List ℕ
instruction_bytes code fan_out first second constant zeros =
    code ∷ fan_out ∷ first.port ∷ second.port ∷ bytes16 first.instruction ++ bytes16 second.instruction ++ bytes32 constant ++ bytes32 zeros

unfoldable pub encode_instruction : Instruction → List ℕ
encode_instruction r = instruction_bytes r.code r.fanout r.first r.second (bits_of r.constant) r.zeros

-- what the fields of a record can hold
pub record InstructionFits (r : Instruction) : Type 0 where
  pub code : r.code < 2 ^ 8
  pub fanout : r.fanout < 2 ^ 8
  pub port1 : r.first.port < 2 ^ 8
  pub port2 : r.second.port < 2 ^ 8
  pub instruction1 : r.first.instruction < 2 ^ 16
  pub instruction2 : r.second.instruction < 2 ^ 16
  pub constant : FitsSigned w32 r.constant
  pub zeros : r.zeros < 2 ^ 32

-- instruction number i of a graph's bytes
abbrev pub instruction_in : List ℕ → ℕ → Instruction
instruction_in l i = decode_instruction (drop (i * graph_width) l)

abbrev pub graph_of : List ℕ → List Instruction
graph_of l = all_rows graph_width decode_instruction l

-- the destinations in use
abbrev pub in_use : (fan_out : ℕ) → (first second : Destination) → List Destination
in_use zero d e = []
in_use (suc zero) d e = d ∷ []
in_use (suc (suc n)) d e = d ∷ e ∷ []

abbrev pub destinations : Instruction → List Destination
destinations r = in_use r.fanout r.first r.second

-- ---- the table: code, operation, operands, and the least and the most fan-out

pub record Row : Type 0 where
  pub code : ℕ
  pub operation : Operation
  pub operands : ℕ
  pub least_fan_out : ℕ
  pub most_fan_out : ℕ

abbrev pub row : (code : ℕ) → Operation → (operands least most : ℕ) → Row
row n o k a b = record { code = n; operation = o; operands = k; least_fan_out = a; most_fan_out = b }

-- any code that no row has
abbrev pub no_row : ℕ → Row
no_row n = row n Unknown 0 0 0

abbrev pub table : List Row
table =
    row 1 Copy 1 1 2
    ∷ row 2 Sink 1 0 0
    ∷ row 3 Out 1 0 0
    ∷ row 4 Const 1 1 2
    ∷ row 5 Switch 2 2 2
    ∷ row 6 Gate 2 1 2
    ∷ row 7 Next 1 1 2
    ∷ row 8 Enter 1 2 2
    ∷ row 9 Leave 1 0 0
    ∷ row 10 Fetch 1 1 2
    ∷ row 11 Store 2 0 2
    ∷ row 16 (OnTwo Add) 2 1 2
    ∷ row 17 (OnTwo Sub) 2 1 2
    ∷ row 18 (OnTwo Mul) 2 1 2
    ∷ row 19 (OnTwo Div) 2 1 2
    ∷ row 20 (OnTwo Rem) 2 1 2
    ∷ row 21 (OnTwo Lt) 2 1 2
    ∷ row 22 (OnTwo Le) 2 1 2
    ∷ row 23 (OnTwo Eq) 2 1 2
    ∷ row 32 (OnConstant Add) 1 1 2
    ∷ row 33 (OnConstant Sub) 1 1 2
    ∷ row 34 (OnConstant Mul) 1 1 2
    ∷ row 35 (OnConstant Div) 1 1 2
    ∷ row 36 (OnConstant Rem) 1 1 2
    ∷ row 37 (OnConstant Lt) 1 1 2
    ∷ row 38 (OnConstant Le) 1 1 2
    ∷ row 39 (OnConstant Eq) 1 1 2
    ∷ []

abbrev pub row_with : List Row → (code : ℕ) → Row
row_with [] n = no_row n
row_with (r ∷ rs) n = cond (n == r.code) r (row_with rs n)

unfoldable pub row_of : (code : ℕ) → Row
row_of n = row_with table n

abbrev pub operation_of : (code : ℕ) → Operation
operation_of n = (row_of n).operation

-- ---- "The constant is used by 4, 8, 9 and 32-39."; R-10: "The constant of FETCH and STORE, until now zero, names an array" (codes 10 and 11)

unfoldable pub names_array : (code : ℕ) → Bool
names_array n = n == 10 || n == 11

unfoldable pub uses_constant : (code : ℕ) → Bool
uses_constant n = n == 4 || (n == 8 || (n == 9 || (names_array n || (nat_le 32 n && nat_le n 39))))

-- ---- "The operand count of all 256 codes stands in one constant table, 0 for an unknown code."

abbrev pub operands_of : (code : ℕ) → ℕ
operands_of n = (row_of n).operands

-- l is that table
abbrev pub OperandCounts : List ℕ → Type 0
OperandCounts l = (code : ℕ) → code < 256 → slice_index l code ≡ operands_of code
