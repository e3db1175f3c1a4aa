-- 01, "Tokens and tags", in its order. Assumes nothing.
use Rattle.std.specs.Prelude.{ℕ, ◌*◌, ◌/◌, ◌^◌, ◌<◌, Bool, true, false, cond, ◌&&◌, List, [], ◌∷◌, ◌++◌, drop, ℤ, FitsSigned, ◌==◌, nat_le}
use Rattle.std.specs.Int.{w32}
use Rattle.number.specs.Number.{byte_at, number16, number32, number64, signed_of, bits_of, bytes16, bytes32, bytes64}
use Rattle.buffer.specs.Rows.{rows, written_over}
use Rattle.record.specs.declared.tag.Path.{Path}
use Rattle.record.specs.declared.tag.Tag.{Tag}
use Rattle.record.specs.declared.token.Token.{Token}
use Rattle.record.specs.declared.token.Content.{Content}
use Rattle.record.specs.declared.token.Content.TheVariants.{Live, Spent, Deferred}
use Rattle.record.specs.Paths.{root_path, is_root, same_path, PathFits}
use Rattle.record.specs.Widths.{token_width, value_offset, state_offset}

-- ---- "A token record has [..]: path [..], iteration [..], port [..], instruction [..], signed value [..], state [..], zeros [..]. States: 0 live, 1 spent,
-- 2 deferred." With R-8 of 02, "later fields moved by 8": path 0-15, iteration 16, port 17, instruction 18-19, value 20-23, state 24, zeros 25-27.

-- the content of a value and a state; a state past 2, which no rule writes, reads as deferred
unfoldable pub content_of : (bits state : ℕ) → Content
content_of bits state = cond (state == 0) (Live (signed_of bits)) (cond (state == 1) (Spent (signed_of bits)) (Deferred bits))

-- the path of the record that l starts with: the newest four levels first
abbrev pub path_in : List ℕ → Path
path_in l = record { low = number64 l 0; high = number64 l 8 }

-- the tag and the port of the record that l starts with, and their bytes: a log's records have them too, 0 for the port
abbrev pub tag_in : List ℕ → Tag
tag_in l = record { path = path_in l; iteration = byte_at l 16; instruction = number16 l 18 }

abbrev pub port_in : List ℕ → ℕ
port_in l = byte_at l 17

abbrev pub tag_bytes : (path : Path) → (iteration port instruction : ℕ) → List ℕ
tag_bytes path iteration port instruction = bytes64 path.low ++ bytes64 path.high ++ iteration ∷ port ∷ bytes16 instruction

-- the token of the record that l starts with
unfoldable pub decode_token : List ℕ → Token
decode_token l = record {
  tag = tag_in l;
  port = port_in l;
  content = content_of (number32 l value_offset) (byte_at l state_offset);
}

abbrev pub state_of : Content → ℕ
state_of (Live v) = 0
state_of (Spent v) = 1
state_of (Deferred cell) = 2

abbrev pub value_field : Content → ℕ
value_field (Live v) = bits_of v
value_field (Spent v) = bits_of v
value_field (Deferred cell) = cell

-- the value field, signed: that of a deferred token holds the cell number
abbrev pub value_in : Content → ℤ
value_in (Live v) = v
value_in (Spent v) = v
value_in (Deferred cell) = signed_of cell

abbrev pub is_spent_record : Content → Bool
is_spent_record (Live v) = false
is_spent_record (Spent v) = true
is_spent_record (Deferred cell) = false

abbrev pub token_bytes : (path : Path) → (iteration port instruction value state : ℕ) → List ℕ
token_bytes path iteration port instruction value state =
    tag_bytes path iteration port instruction ++ bytes32 value ++ state ∷ 0 ∷ 0 ∷ 0 ∷ []

unfoldable pub encode_token : Token → List ℕ
encode_token t = token_bytes t.tag.path t.tag.iteration t.port t.tag.instruction (value_field t.content) (state_of t.content)

-- what the fields of a record can hold
abbrev pub ContentFits : Content → Type 0
ContentFits (Live v) = FitsSigned w32 v
ContentFits (Spent v) = FitsSigned w32 v
ContentFits (Deferred cell) = cell < 2 ^ 32

pub record TokenFits (t : Token) : Type 0 where
  pub path : PathFits t.tag.path
  pub iteration : t.tag.iteration < 2 ^ 8
  pub instruction : t.tag.instruction < 2 ^ 16
  pub port : t.port < 2 ^ 8
  pub content : ContentFits t.content

-- ---- "A tag is path, iteration and instruction; the root tag has path 0 and iteration 0."

abbrev pub root_of : (instruction : ℕ) → Tag
root_of i = record { path = root_path; iteration = 0; instruction = i }

-- the same path and iteration at another instruction
abbrev pub to_of : Tag → (instruction : ℕ) → Tag
to_of k i = record { path = k.path; iteration = k.iteration; instruction = i }

unfoldable pub same_tag : Tag → Tag → Bool
same_tag a b = same_path a.path b.path && (a.iteration == b.iteration && a.instruction == b.instruction)

-- ---- "Input tokens carry the root path and iteration, and state 0."

-- of the record that l starts with; its zeros are zero
unfoldable pub is_input : List ℕ → Bool
is_input l = is_root (path_in l) && (byte_at l 16 == 0 && number32 l state_offset == 0)

-- ---- 02, R-13: "fields and states allowed"

-- of the record that l starts with: a state of the three, and zeros behind it
unfoldable pub token_state_allowed : List ℕ → Bool
token_state_allowed l = nat_le (number32 l state_offset) 2

-- ---- "In a whole run a tag receives at most one token on each port."

-- a token stands at a port of a tag
unfoldable pub stands_at : Tag → (port : ℕ) → Token → Bool
stands_at tag port t = t.port == port && same_tag t.tag tag

-- ---- "The ledger takes every token in order of arrival, up to 2,048 records, and never drops one. Its capacity is the lent length divided by" 28.
-- "Here and in every other buffer, bytes past what is written stay as lent."

abbrev pub most_tokens : ℕ
most_tokens = 2048

abbrev pub capacity_of : (length : ℕ) → ℕ
capacity_of n = n / token_width

-- the token of record i
abbrev pub token_at : List ℕ → ℕ → Token
token_at l i = decode_token (drop (i * token_width) l)

-- the tokens of the first n records
abbrev pub tokens : ℕ → List ℕ → List Token
tokens n l = rows token_width decode_token n l

-- a ledger that took these tokens
abbrev pub ledger_of : List Token → (lent : List ℕ) → List ℕ
ledger_of ts lent = written_over encode_token ts lent
