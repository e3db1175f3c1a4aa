-- Working definition: no public promise cites it.
-- What is kept while the reached instructions of 02, R-3 are worked out: a table of ports and one of instructions. Assumes nothing.
use Rattle.std.specs.Prelude.{ℕ, ◌+◌, ◌*◌, ◌<◌, ◌≡◌, Bool, true, false, cond, List, [], ◌∷◌, length, get_or, set}
use Rattle.record.specs.declared.token.Token.{Token}
use Rattle.record.specs.declared.instruction.Destination.{Destination}
use Rattle.record.specs.declared.instruction.Instruction.{Instruction}
use Rattle.record.specs.TokensAndTags.{root_of, stands_at}
use Rattle.rules.specs.Check.{any, instruction_at}
use Rattle.rules.specs.Needs.{sum_below, port_reached, all_reached}
use Rattle.rules.specs.Needs as Needs

-- ---- ports

-- a graph has 256 instructions at most, and an instruction two ports at most
pub record OnPort (instruction port : ℕ) : Type 0 where
  pub low : instruction < 256
  pub one : port < 2

-- an input at a port of a graph, at the root
pub record GoodToken (t : Token) : Type 0 where
  pub root : t.tag ≡ root_of t.tag.instruction
  pub inside : OnPort t.tag.instruction t.port

abbrev pub port_entry : (instruction port : ℕ) → ℕ
port_entry i p = i * 2 + p

-- the table says of each port what f does
pub record Ports (f : (instruction port : ℕ) → Bool) (table : List Bool) : Type 0 where
  pub size : length table ≡ 512
  pub says : (i p : ℕ) → OnPort i p → get_or table (port_entry i p) false ≡ f i p

-- the table with some ports marked
abbrev pub marked : List Bool → List Destination → List Bool
marked table [] = table
marked table (d ∷ ds) = marked (set table (port_entry d.instruction d.port) true) ds

-- an input sends to the port
abbrev pub sent_by_inputs : List Token → (instruction port : ℕ) → Bool
sent_by_inputs ts i p = any (stands_at (root_of i) p) ts

-- ---- instructions

abbrev pub flag : List Bool → (instruction : ℕ) → Bool
flag table i = get_or table i false

-- the sum of f over those of the first n instructions that a table has
abbrev pub sum_over : (n : ℕ) → List Instruction → List Bool → (Instruction → ℕ) → ℕ
sum_over n g table f = sum_below n (λ i. cond (flag table i) (f (instruction_at g i)) 0)

-- the ports that inputs and the instructions of a table send to, all of which are reached
pub record ReachedSoFar (ts : List Token) (g : List Instruction) (sent reached : List Bool) : Type 0 where
  pub ports : Ports (port_reached ts g (flag reached)) sent
  pub size : length reached ≡ 256
  pub sound : (i : ℕ) → flag reached i ≡ true → Needs.reached ts g i ≡ true

-- a round that came to instruction n: those before it whose ports the table reached have been added
pub record Round (ts : List Token) (g : List Instruction) (n : ℕ) (before sent after : List Bool) (added : Bool) : Type 0 where
  pub kept : ReachedSoFar ts g sent after
  pub more : (i : ℕ) → flag before i ≡ true → flag after i ≡ true
  pub adds : (i : ℕ) → i < n → all_reached ts g (flag before) i ≡ true → flag after i ≡ true
  pub none : added ≡ false → after ≡ before
