-- Working definition: no public promise cites it.
-- What the check of the inputs keeps of those before, so that it looks through them only where a second token is likely. Assumes nothing.
use Rattle.std.specs.Prelude.{ℕ, ◌+◌, ◌*◌, ◌%◌, ◌≡◌, Bool, false, not, List, get_or, take}
use Rattle.record.specs.declared.tag.Tag.{Tag}
use Rattle.record.specs.declared.token.Token.{Token}
use Rattle.record.specs.declared.instruction.Instruction.{Instruction}
use Rattle.buffer.specs.Rows.{all_rows}
use Rattle.record.specs.TokensAndTags.{decode_token, stands_at}
use Rattle.record.specs.Widths.{token_width}
use Rattle.rules.specs.declared.answer.Refusal.TheVariants.{BadInput, SecondToken}
use Rattle.rules.specs.Check.{demand, any, in_turn, good_input, second_input, Checked}

-- the tokens of the inputs' bytes
abbrev pub input_tokens : List ℕ → List Token
input_tokens l = all_rows token_width decode_token l

-- 6, the inputs in turn
abbrev pub check_fields : List Instruction → (inputs : List ℕ) → Checked
check_fields g inputs = in_turn (λ i good. demand good BadInput i) 0 (all_rows token_width (good_input g) inputs)

-- 9, by input in turn, against the inputs before it
abbrev pub check_second : (inputs : List ℕ) → Checked
check_second inputs = in_turn (λ i t. demand (not (second_input (take i (input_tokens inputs)) t)) SecondToken i) 0 (input_tokens inputs)

-- the entry of a port of a tag, below 512: another for each port below 2 of each instruction below 256
abbrev pub entry_of : Tag → (port : ℕ) → ℕ
entry_of tag port = tag.instruction % 256 * 2 + port % 2

-- where the table has no mark, none of these tokens stands
abbrev pub SeenEntries : List Token → List Bool → Type 0
SeenEntries ts table = (tag : Tag) (port : ℕ) → get_or table (entry_of tag port) false ≡ false → any (stands_at tag port) ts ≡ false
