-- Working definition: no public promise cites it.
-- What the values of this crate say in the terms of the machine: keys, outputs and actions; an effect of the rules in the order of Memo 205-1, the
-- operation and then the new tags; and what the functions are lent. Assumes nothing.
use Rattle.std.specs.Prelude.{ℕ, zero, suc, ◌/◌, ◌<◌, ◌≤◌, ◌≡◌, true, cond, List, [], ◌∷◌, length, ℤ, pos, negsuc, nat_abs, ltb, Option, None, Some, Result, Ok, Err}
use Rattle.record.specs.declared.array.NamedArray.{NamedArray}
use Rattle.record.specs.declared.tag.Tag.{Tag}
use Rattle.record.specs.declared.instruction.Instruction.{Instruction}
use Rattle.record.specs.declared.operation.Operation.{Operation}
use Rattle.record.specs.declared.operation.Operation.TheVariants as Operations
use Rattle.arithmetic.specs.Arithmetic.{compute_of}
use Rattle.buffer.specs.Rows.{All}
use Rattle.record.specs.GraphRecords.{graph_of}
use Rattle.record.specs.Calls.{next_of, enter_of, leave_of}
use Rattle.record.specs.Widths.{graph_width}
use Rattle.machine.specs.Machine as Machine
use Rattle.machine.specs.Machine.{refuse, send, read, write}
use Rattle.machine.specs.Orders.{CellsBelow}
use Rattle.rules.specs.declared.answer.Refusal.TheVariants as Refusals
use Rattle.rules.specs.Check.{within, operands_at}
use Rattle.rules.specs.InstructionSet.{EffectHere, key_under, all_under, side_of, send_next, send_entered, send_left, cell_number, effect_in}
use Rattle.abstraction.specs.Tables.{Returns}
use Rattle.rules.specs.declared.answer.Refusal.{Refusal}
use Rattle.fire_effect.specs.declared.output.Key.{Key}
use Rattle.fire_effect.specs.declared.output.Outputs.{Outputs}
use Rattle.fire_effect.specs.declared.operate.Action.{Action}
use Rattle.fire_effect.specs.declared.operate.Action.TheVariants.{Send, Read, Write}

-- ---- keys, outputs, actions

abbrev pub key_held : Key → Machine.Key Tag
key_held k = record { tag = k.tag; port = k.port }

abbrev pub keys_held : (count : ℕ) → (first second : Key) → List (Machine.Key Tag)
keys_held zero j k = []
keys_held (suc zero) j k = key_held j ∷ []
keys_held (suc (suc n)) j k = key_held j ∷ key_held k ∷ []

-- the keys that are meant, destination 1 first
abbrev pub output_keys : Outputs → List (Machine.Key Tag)
output_keys o = keys_held o.count o.first o.second

abbrev pub action_held : Action → List (Machine.Key Tag) → EffectHere
action_held (Send v) keys = send v keys
action_held (Read c) keys = read c keys
action_held (Write c v) keys = write c v keys

-- the count of the outputs is at most 2, and so is the number of the keys (length-keys of proofs/Does)
pub record Sends (o : Outputs) (keys : List (Machine.Key Tag)) : Type 0 where
  pub held : output_keys o ≡ keys
  pub counted : o.count ≤ 2

-- ---- operation

-- the cell that an operand names, if there is one
abbrev pub named_of : (cells : ℕ) → ℤ → Option ℕ
named_of cells (pos c) = cond (ltb c cells) (Some c) None
named_of cells (negsuc c) = None

-- 10: "cell number outside 0 to count minus 1"
abbrev pub on_named : Option ℕ → (ℕ → Action) → Result Action Refusal
on_named (Some c) request = Ok (request c)
on_named None request = Err Refusals.NoSuchCell

-- 12: "result past 32 signed bits, or divisor 0"
abbrev pub on_computed : Option ℤ → Result Action Refusal
on_computed (Some v) = Ok (Send v)
on_computed None = Err Refusals.OutOfRange

-- a value, a request to a cell, or a refusal: k is the constant, a and b are the operands on ports 0 and 1
unfoldable pub operated_of : Operation → List NamedArray → (k : ℤ) → (cells : ℕ) → (a b : ℤ) → Result Action Refusal
operated_of Operations.Copy table k cells a b = Ok (Send a)
operated_of Operations.Sink table k cells a b = Ok (Send a)
operated_of Operations.Out table k cells a b = Ok (Send a)
operated_of Operations.Const table k cells a b = Ok (Send k)
operated_of Operations.Switch table k cells a b = Ok (Send a)
operated_of Operations.Gate table k cells a b = Ok (Send a)
operated_of Operations.Next table k cells a b = Ok (Send a)
operated_of Operations.Enter table k cells a b = Ok (Send a)
operated_of Operations.Leave table k cells a b = Ok (Send a)
operated_of Operations.Fetch table k cells a b = on_named (named_of cells (cell_number table k a)) (λ c. Read c)
operated_of Operations.Store table k cells a b = on_named (named_of cells (cell_number table k a)) (λ c. Write c b)
operated_of (Operations.OnTwo o) table k cells a b = on_computed (compute_of o a b)
operated_of (Operations.OnConstant o) table k cells a b = on_computed (compute_of o a k)
operated_of Operations.Unknown table k cells a b = Ok (Send a)

-- ---- new tags

-- a value sent under the new tags, or their refusal
abbrev pub sent_under : Result Outputs Refusal → ℤ → EffectHere
sent_under (Err r) v = refuse r
sent_under (Ok o) v = send v (output_keys o)

abbrev pub FewTags : Result Outputs Refusal → Type 0
FewTags (Err r) = Unit {0}
FewTags (Ok o) = o.count ≤ 2

-- whatever value is sent under them, it is sent as by f
pub record Makes (m : Result Outputs Refusal) (f : ℤ → EffectHere) : Type 0 where
  pub held : (v : ℤ) → sent_under m v ≡ f v
  pub counted : FewTags m

-- how each operation sends a value v: b is the operand on port 1. 13, 14 and 17 are here
unfoldable pub new_tags_of : Operation → List Instruction → Tag → Instruction → (b v : ℤ) → EffectHere
new_tags_of Operations.Copy g τ r b v = send v (all_under τ r)
new_tags_of Operations.Sink g τ r b v = send v []
new_tags_of Operations.Out g τ r b v = send v []
new_tags_of Operations.Const g τ r b v = send v (all_under τ r)
new_tags_of Operations.Switch g τ r b v = send v (key_under τ (side_of b r) ∷ [])
new_tags_of Operations.Gate g τ r b v = send v (all_under τ r)
new_tags_of Operations.Next g τ r b v = send_next (next_of τ) r v
new_tags_of Operations.Enter g τ r b v = send_entered (enter_of τ (nat_abs r.constant)) r v
new_tags_of Operations.Leave g τ r b v = send_left g (leave_of τ) r v
new_tags_of Operations.Fetch g τ r b v = send v (all_under τ r)
new_tags_of Operations.Store g τ r b v = send v (all_under τ r)
new_tags_of (Operations.OnTwo o) g τ r b v = send v (all_under τ r)
new_tags_of (Operations.OnConstant o) g τ r b v = send v (all_under τ r)
new_tags_of Operations.Unknown g τ r b v = send v []

-- ---- the two in turn: proofs/Parted shows that they give the effect of the rules

-- a request goes where a value would be sent
abbrev pub in_place : (List (Machine.Key Tag) → EffectHere) → EffectHere → EffectHere
in_place request (refuse r) = refuse r
in_place request (send v keys) = request keys
in_place request (read c keys) = read c keys
in_place request (write c v keys) = write c v keys

abbrev pub then_tags : Result Action Refusal → (ℤ → EffectHere) → EffectHere
then_tags (Err r) f = refuse r
then_tags (Ok (Send v)) f = f v
then_tags (Ok (Read c)) f = in_place (read c) (f (pos 0))
then_tags (Ok (Write c v)) f = in_place (write c v) (f (pos 0))

-- ---- what holds of an action and its outputs

-- a port that a token can come to: below the operand count of its instruction, which is 0 past the graph
abbrev pub Arrives : List Instruction → Machine.Key Tag → Type 0
Arrives g k = k.port < operands_at g k.tag.instruction

-- of each key that an effect sends to
abbrev pub AllSent : (Machine.Key Tag → Type 0) → EffectHere → Type 0
AllSent P (refuse r) = Unit {0}
AllSent P (send v keys) = All P keys
AllSent P (read c keys) = All P keys
AllSent P (write c v keys) = All P keys

-- they are the effect of the rules, and what a caller needs of it besides
pub record Effected (g : List Instruction) (table : List NamedArray) (cells : ℕ) (τ : Tag) (a b : ℤ) (x : Action) (o : Outputs) : Type 0 where
  pub held : action_held x (output_keys o) ≡ effect_in g table cells τ a b
  pub counted : o.count ≤ 2
  pub cells_below : CellsBelow cells (action_held x (output_keys o))
  pub arrives : AllSent (Arrives g) (action_held x (output_keys o))

-- ---- what is lent

-- what the new tags ask of the graph, of its tables and of an instruction: a graph that passed its check has it
pub record ReadyForTags (graph tables : List ℕ) (o : Operation) (r : Instruction) : Type 0 where
  pub records : length graph / graph_width ≤ 256
  pub returns : Returns (graph_of graph) tables
  pub of_enter : o ≡ Operations.Enter → within 0 255 r.constant ≡ true
  pub of_leave : o ≡ Operations.Leave → within 0 255 r.constant ≡ true
