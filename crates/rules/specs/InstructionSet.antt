-- 01, "Firing": the operations as an instance of the machine. An effect goes by the tag and the operands alone: it does not look at ledger or cells.
-- Refusals 10, 12 to 14 and 17 are here. Assumes nothing.
use Rattle.std.specs.Prelude.{ℕ, zero, suc, ◌+◌, ◌-◌, ◌≡◌, Bool, ◌&&◌, ◌||◌, cond, List, [], ◌∷◌, map, length, get_or, ℤ, pos, negsuc, nat_abs, eqb, ltb, Option, None, Some}
use Rattle.std.proofs.Math.Decide.{ℕ_discrete}
use Rattle.std.proofs.Common.{ap}
use Rattle.record.specs.declared.tag.Tag.{Tag}
use Rattle.record.specs.declared.array.NamedArray.{NamedArray}
use Rattle.record.specs.declared.tag.Caller.{Caller}
use Rattle.record.specs.declared.instruction.Destination.{Destination}
use Rattle.record.specs.declared.instruction.Instruction.{Instruction}
use Rattle.record.specs.declared.operation.Operation.{Operation}
use Rattle.record.specs.declared.operation.Operation.TheVariants as Operations
use Rattle.record.specs.Paths.{is_root, decide_path}
use Rattle.record.specs.TokensAndTags.{to_of}
use Rattle.record.specs.Calls.{next_of, enter_of, leave_of}
use Rattle.record.specs.GraphRecords.{destinations, operation_of, operands_of}
use Rattle.arithmetic.specs.Arithmetic.{compute_of, eq_z}
use Rattle.machine.specs.Machine.{Key, Effect, refuse, send, read, write, Machine, decide_both}
use Rattle.rules.specs.declared.answer.Refusal.{Refusal}
use Rattle.rules.specs.declared.answer.Refusal.TheVariants as Refusals
use Rattle.rules.specs.Check.{instruction_at, within, enters_site}

-- over whatever stands for a value: tags, keys and refusals 10, 13, 14 and 17 do not look at it
abbrev pub EffectOver : Type 0 → Type 0
EffectOver W = Effect Refusal Tag W

abbrev pub EffectHere : Type 0
EffectHere = EffectOver ℤ

-- a port of an instruction under a tag's path and iteration
abbrev pub key_under : Tag → Destination → Key Tag
key_under τ d = record { tag = to_of τ d.instruction; port = d.port }

-- each destination in use, destination 1 first
abbrev pub all_under : Tag → Instruction → List (Key Tag)
all_under τ r = map (key_under τ) (destinations r)

-- ---- operations

-- 12: "result past 32 signed bits, or divisor 0"
unfoldable pub send_computed : Option ℤ → List (Key Tag) → EffectHere
send_computed (Some v) keys = send v keys
send_computed None keys = refuse Refusals.OutOfRange

-- "SWITCH, port 0 to destination 1 if port 1 is not 0, else to destination 2"
unfoldable pub side_of : ℤ → Instruction → Destination
side_of control r = cond (eq_z control (pos 0)) r.second r.first

-- "NEXT adds 1 to the iteration, 255 at most." 13: "NEXT at 255"
unfoldable pub send_next : {W : Type 0} → Option Tag → Instruction → W → EffectOver W
send_next (Some τ) r v = send v (all_under τ r)
send_next None r v = refuse Refusals.Iteration

-- ENTER "sends its value, one token, to destination 1". 14: "ENTER at four levels", with R-8 of 02 at eight
unfoldable pub send_entered : {W : Type 0} → Option Tag → Instruction → W → EffectOver W
send_entered (Some τ) r v = send v (key_under τ r.first ∷ [])
send_entered None r v = refuse Refusals.TooDeep

-- ENTER: "Destination 2, port 0, is the site's return instruction": that of the first ENTER of the site, and so of all. Instruction 0 stands for a site that
-- no ENTER has: no path of a run names one (Callers)
unfoldable pub return_of : (site : ℕ) → List Instruction → ℕ
return_of site [] = 0
return_of site (r ∷ rs) = cond (enters_site (pos site) r) r.second.instruction (return_of site rs)

-- LEAVE "sends its value, under that parent and iteration, to port 0 of return instruction plus its constant".
-- 17: "return instruction plus constant past the graph"
unfoldable pub send_returned : {W : Type 0} → List Instruction → (instruction constant : ℕ) → Tag → W → EffectOver W
send_returned g i k τ v = cond (ltb (i + k) (length g)) (send v (record { tag = to_of τ (i + k); port = 0 } ∷ [])) (refuse Refusals.NoReturn)

-- at path 0 LEAVE never fires
unfoldable pub send_left : {W : Type 0} → List Instruction → Option Caller → Instruction → W → EffectOver W
send_left g (Some c) r v = send_returned g (return_of c.site g) (nat_abs r.constant) c.tag v
send_left g None r v = send v []

-- 10: "cell number outside 0 to count minus 1"
unfoldable pub on_cell : {W : Type 0} → (cells : ℕ) → ℤ → (ℕ → EffectOver W) → EffectOver W
on_cell cells (pos c) f = cond (ltb c cells) (f c) (refuse Refusals.NoSuchCell)
on_cell cells (negsuc c) f = refuse Refusals.NoSuchCell

-- the number of the cell that an index names in an array. R-10: "index 1 is its first cell, and an index below 1 or past the length is refused by 10": -1 is no
-- cell's number
unfoldable pub number_in : NamedArray → (index : ℤ) → ℤ
number_in a index = cond (within 1 a.length index) (pos (a.first + nat_abs index - 1)) (negsuc 0)

-- array n of the table, counted from 0; past the table stands one of no cells
unfoldable pub array_at : List NamedArray → ℕ → NamedArray
array_at table n = get_or table n (record { first = 0; length = 0 })

-- what FETCH and STORE make of their operand, by their constant: it "names an array, counted from 1", and "Constant 0 keeps the whole store and cell numbers from 0"
-- 22 refuses a negative constant before any firing: it names no cell
unfoldable pub cell_number : List NamedArray → (constant : ℤ) → ℤ → ℤ
cell_number table (pos zero) operand = operand
cell_number table (pos (suc n)) operand = number_in (array_at table n) operand
cell_number table (negsuc n) operand = negsuc 0

-- the table's operations: a and b are the operands on ports 0 and 1, keys the destinations in use under the same path and iteration
unfoldable pub effect_of : Operation → List Instruction → List NamedArray → (cells : ℕ) → Tag → Instruction → (a b : ℤ) → (keys : List (Key Tag)) → EffectHere
effect_of Operations.Copy g table cells τ r a b keys = send a keys
effect_of Operations.Sink g table cells τ r a b keys = send a []
effect_of Operations.Out g table cells τ r a b keys = send a []
effect_of Operations.Const g table cells τ r a b keys = send r.constant keys
effect_of Operations.Switch g table cells τ r a b keys = send a (key_under τ (side_of b r) ∷ [])
effect_of Operations.Gate g table cells τ r a b keys = send a keys
effect_of Operations.Next g table cells τ r a b keys = send_next (next_of τ) r a
effect_of Operations.Enter g table cells τ r a b keys = send_entered (enter_of τ (nat_abs r.constant)) r a
effect_of Operations.Leave g table cells τ r a b keys = send_left g (leave_of τ) r a
effect_of Operations.Fetch g table cells τ r a b keys = on_cell cells (cell_number table r.constant a) (λ c. read c keys)
effect_of Operations.Store g table cells τ r a b keys = on_cell cells (cell_number table r.constant a) (λ c. write c b keys)
effect_of (Operations.OnTwo o) g table cells τ r a b keys = send_computed (compute_of o a b) keys
effect_of (Operations.OnConstant o) g table cells τ r a b keys = send_computed (compute_of o a r.constant) keys
effect_of Operations.Unknown g table cells τ r a b keys = send a []

unfoldable pub effect_in : List Instruction → List NamedArray → (cells : ℕ) → Tag → (a b : ℤ) → EffectHere
effect_in g table cells τ a b =
    let r = instruction_at g τ.instruction in
    effect_of (operation_of r.code) g table cells τ r a b (all_under τ r)

-- ---- the machine of a graph and of a table of named arrays

-- "OUT, a result; never fires" (code 3). R-5: "A token at a LEAVE under path 0 now counts as a result like one at an OUT" (code 9)
unfoldable pub is_result : Instruction → Tag → Bool
is_result r τ = eqb r.code 3 || eqb r.code 9 && is_root τ.path

-- a result waits for no operand
unfoldable pub arity_in : List Instruction → Tag → ℕ
arity_in g τ = let r = instruction_at g τ.instruction in cond (is_result r τ) 0 (operands_of r.code)

-- tags are equal if instruction, iteration and path are; the instruction, which differs most often, is compared first
unfoldable pub decide_tag : Discrete Tag
decide_tag a b =
    decide_both {Q = (a.iteration ≡ b.iteration) × (a.path ≡ b.path)}
    (λ p q. λ i. record { path = q.1 i; iteration = q.0 i; instruction = p i })
    (λ e. ap (λ k. k.instruction) e)
    (λ e. (ap (λ k. k.iteration) e, ap (λ k. k.path) e))
    (ℕ_discrete a.instruction b.instruction)
    (decide_both (λ p q. (p, q)) (λ e. e.0) (λ e. e.1) (ℕ_discrete a.iteration b.iteration) (decide_path a.path b.path))

-- "signals of value 0"
abbrev pub machine_of : List Instruction → List NamedArray → (capacity cells : ℕ) → Machine
machine_of g table capacity cells = record {
  Tag = Tag;
  Value = ℤ;
  Refusal = Refusal;
  same = decide_tag;
  arity = arity_in g;
  effect = effect_in g table cells;
  signal = pos 0;
  ledger_full = Refusals.LedgerFull;
  second_token = Refusals.SecondToken;
  second_write = Refusals.SecondWrite;
  capacity = capacity;
  cell_count = cells;
}
