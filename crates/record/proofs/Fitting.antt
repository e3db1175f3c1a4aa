-- What is read from bytes fits its record: tokens, cells, instructions, and lists of them; and what fits is written as bytes. Assumes nothing.
use Rattle.std.proofs.Common.{ℕ, zero, suc, ◌+◌, ◌/◌, ◌^◌, ◌<◌, Bool, true, false, cond, eqb, List, [], ◌∷◌, ◌++◌, drop, arith, get_or-drop, w32, SFits}
use mir.Facts.{sfits_to_z}
use Rattle.number.specs.Number.{Bytes, byte_at, number32, number64, signed_of, bits_of, bytes16, bytes32, bytes64}
use Rattle.buffer.specs.Rows.{rows, joined, All}
use Rattle.record.specs.GraphRecords as Graph
use Rattle.record.specs.TokensAndTags as Tokens
use Rattle.record.specs.TokensAndTags.{path_in, content_of, tag_bytes, state_of, value_field, ContentFits, TokenFits}
use Rattle.record.specs.Paths.{PathFits}
use Rattle.record.specs.Cells as Cells
use Rattle.record.specs.Cells.{cell_of, CellFits}
use Rattle.record.specs.declared.instruction.Instruction.{Instruction}
use Rattle.record.specs.declared.token.Token.{Token}
use Rattle.record.specs.declared.token.Content.{Content}
use Rattle.record.specs.declared.token.Content.TheVariants.{Live, Spent, Deferred}
use Rattle.record.specs.declared.cell.Cell.TheVariants.{Absent, Waiting, Present}
use Rattle.number.proofs.Numbers.{number16_small, number32_small}

pub bytes_drop : (n : ℕ) (l : List ℕ) → Bytes l → Bytes (drop n l)
bytes_drop n l b k = rw (get_or-drop n l k 0) (b (n + k))

pub signed_fits : (b : ℕ) → b < 2 ^ 32 → SFits w32 (signed_of b)
unfolding signed_of
signed_fits b h = sfits_to_z (record { fits = h })

content_fits : (bits state : ℕ) → bits < 2 ^ 32 → ContentFits (content_of bits state)
unfolding content_of
content_fits bits state h = go (eqb state 0) (eqb state 1)
  where
    go : (p q : Bool) → ContentFits (cond p (Live (signed_of bits)) (cond q (Spent (signed_of bits)) (Deferred bits)))
    go true q = signed_fits bits h
    go false true = signed_fits bits h
    go false false = h

number64_small : (l : List ℕ) → Bytes l → (k : ℕ) → number64 l k < 2 ^ 64
number64_small l b k = omega (arith, number32_small l b k, number32_small l b (k + 4))

pub path_fits : (l : List ℕ) → Bytes l → PathFits (path_in l)
path_fits l b = record { low = number64_small l b 0; high = number64_small l b 8 }

pub token_fits : (l : List ℕ) → Bytes l → TokenFits (Tokens.decode_token l)
unfolding Tokens.decode_token
token_fits l b = record {
  path = path_fits l b;
  iteration = b 16;
  instruction = number16_small l b 18;
  port = b 17;
  content = content_fits (number32 l 20) (byte_at l 24) (number32_small l b 20);
}

pub cell_fits : (l : List ℕ) → Bytes l → CellFits (Cells.decode_cell l)
unfolding Cells.decode_cell cell_of
cell_fits l b = go (eqb (byte_at l 4) 1) (eqb (byte_at l 4) 2)
  where
    go : (p q : Bool) → CellFits (cond p Waiting (cond q (Present (signed_of (number32 l 0))) Absent))
    go true q = tt
    go false true = signed_fits (number32 l 0) (number32_small l b 0)
    go false false = tt

pub instruction_fits : (l : List ℕ) → Bytes l → Graph.InstructionFits (Graph.decode_instruction l)
unfolding Graph.decode_instruction
instruction_fits l b = record {
  code = b 0;
  fanout = b 1;
  port1 = b 2;
  port2 = b 3;
  instruction1 = number16_small l b 4;
  instruction2 = number16_small l b 6;
  constant = signed_fits (number32 l 8) (number32_small l b 8);
  zeros = number32_small l b 12;
}

pub rows_fit : {A : Type 0} (P : A → Type 0) (read : List ℕ → A) → ((l : List ℕ) → Bytes l → P (read l)) → (width n : ℕ) (l : List ℕ) → Bytes l → All P (rows width read n l)
rows_fit P read f width zero l b = tt
rows_fit P read f width (suc n) l b = (f l b, rows_fit P read f width n (drop width l) (bytes_drop width l b))

-- ---- what fits is written as bytes

abbrev IsByte : ℕ → Type 0
IsByte b = b < 256

all_bytes : (l : List ℕ) → All IsByte l → Bytes l
all_bytes [] h k = omega arith
all_bytes (x ∷ l) h zero = h.0
all_bytes (x ∷ l) h (suc k) = all_bytes l h.1 k

all_append : (l m : List ℕ) → All IsByte l → All IsByte m → All IsByte (l ++ m)
all_append [] m h g = g
all_append (x ∷ l) m h g = (h.0, all_append l m h.1 g)

all_16 : (n : ℕ) → All IsByte (bytes16 n)
all_16 n = (omega arith, (omega arith, tt))

all_32 : (n : ℕ) → All IsByte (bytes32 n)
all_32 n = all_append (bytes16 n) (bytes16 (n / 65536)) (all_16 n) (all_16 (n / 65536))

all_64 : (n : ℕ) → All IsByte (bytes64 n)
all_64 n = all_append (bytes32 n) (bytes32 (n / 4294967296)) (all_32 n) (all_32 (n / 4294967296))

all_instruction : (r : Instruction) → Graph.InstructionFits r → All IsByte (Graph.encode_instruction r)
unfolding Graph.encode_instruction
all_instruction r f =
    let i = r.first.instruction in
    let j = r.second.instruction in
    let c = bits_of r.constant in
    let numbers = all_append (bytes32 c) (bytes32 r.zeros) (all_32 c) (all_32 r.zeros) in
    let second = all_append (bytes16 j) (bytes32 c ++ bytes32 r.zeros) (all_16 j) numbers in
    (f.code, (f.fanout, (f.port1, (f.port2, all_append (bytes16 i) (bytes16 j ++ (bytes32 c ++ bytes32 r.zeros)) (all_16 i) second))))

all_token : (t : Token) → TokenFits t → All IsByte (Tokens.encode_token t)
unfolding Tokens.encode_token
all_token t f =
    let τ = t.tag in
    let v = value_field t.content in
    let s = state_of t.content in
    let low = τ.path.low in
    let high = τ.path.high in
    let place = τ.iteration ∷ t.port ∷ bytes16 τ.instruction in
    let tag = all_append (bytes64 low) (bytes64 high ++ place) (all_64 low) (all_append (bytes64 high) place (all_64 high) (f.iteration, (f.port, all_16 τ.instruction))) in
    let content = all_append (bytes32 v) (s ∷ 0 ∷ 0 ∷ 0 ∷ []) (all_32 v) (state t.content, (omega arith, (omega arith, (omega arith, tt)))) in
    all_append (tag_bytes τ.path τ.iteration t.port τ.instruction) (bytes32 v ++ s ∷ 0 ∷ 0 ∷ 0 ∷ []) tag content
  where
    state : (x : Content) → state_of x < 256
    state (Live v) = omega arith
    state (Spent v) = omega arith
    state (Deferred c) = omega arith

all_joined : {A : Type 0} (P : A → Type 0) (write : A → List ℕ) → ((x : A) → P x → All IsByte (write x)) → (xs : List A) → All P xs → All IsByte (joined write xs)
all_joined P write h [] f = tt
all_joined P write h (x ∷ xs) f = all_append (write x) (joined write xs) (h x f.0) (all_joined P write h xs f.1)

pub instructions_written : (rs : List Instruction) → All Graph.InstructionFits rs → Bytes (joined Graph.encode_instruction rs)
instructions_written rs f = all_bytes (joined Graph.encode_instruction rs) (all_joined Graph.InstructionFits Graph.encode_instruction all_instruction rs f)

pub tokens_written : (ts : List Token) → All TokenFits ts → Bytes (joined Tokens.encode_token ts)
tokens_written ts f = all_bytes (joined Tokens.encode_token ts) (all_joined TokenFits Tokens.encode_token all_token ts f)
