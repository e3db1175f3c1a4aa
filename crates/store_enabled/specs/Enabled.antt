-- Working definition: no public promise cites it.
-- 01, "Firing": "An activity is enabled when all operands of its tag are live; OUT never is. Its place is the ledger position of its earliest
-- operand. Enabled activities stand in order of place, each counted once." Assumes nothing.
use Rattle.std.specs.Prelude.{ℕ, ◌+◌, Bool, true, false, ◌&&◌, cond, List, [], ◌∷◌, map, get_or, eqb}
use Rattle.record.specs.Paths.{is_root}
use Rattle.record.specs.TokensAndTags.{same_tag, stands_at}
use Rattle.record.specs.declared.tag.Tag.{Tag}
use Rattle.record.specs.declared.token.Token.{Token}
use Rattle.record.specs.declared.token.Content.{Content}
use Rattle.record.specs.declared.token.Content.TheVariants.{Live, Spent, Deferred}
use Rattle.store_flags.specs.Marks.{first_of, places_where}

-- ---- "all operands of its tag are live"

abbrev pub is_live_record : Content → Bool
is_live_record (Live v) = true
is_live_record (Spent v) = false
is_live_record (Deferred cell) = false

-- the token at a port of a tag is live; of several there the first counts
abbrev pub live_on : List Token → Tag → (port : ℕ) → Bool
live_on [] tag port = false
live_on (t ∷ ts) tag port = cond (stands_at tag port t) (is_live_record t.content) (live_on ts tag port)

-- n operands of a tag are live: one, on port 0, or two, on ports 0 and 1. A result waits for none and is never enabled
unfoldable pub operands_live : (n : ℕ) → List Token → Tag → Bool
operands_live n ts tag = cond (eqb n 1) (live_on ts tag 0) (cond (eqb n 2) (live_on ts tag 0 && live_on ts tag 1) false)

-- how many operands the activity of a tag waits for, by the entry of its instruction: the entry itself, but for that of LEAVE, which waits for one
-- operand. R-5: "A token at a LEAVE under path 0 now counts as a result": there it waits for none
abbrev pub leave_entry : ℕ
leave_entry = 3

unfoldable pub waited_for : (entry : ℕ) → Tag → ℕ
waited_for entry tag = cond (eqb entry leave_entry) (cond (is_root tag.path) 0 1) entry

-- the entries stand last in the tables of a run, one for each instruction
abbrev pub arity_of : (tables : List ℕ) → Tag → ℕ
arity_of tables tag = waited_for (get_or tables (tag.instruction + 385) 0) tag

abbrev pub is_enabled : (tables : List ℕ) → List Token → Tag → Bool
is_enabled tables ts tag = operands_live (arity_of tables tag) ts tag

-- ---- "Its place is the ledger position of its earliest operand."

abbrev pub tag_of : Token → Tag
tag_of t = t.tag

abbrev pub tags_in : List Token → List Tag
tags_in ts = map tag_of ts

abbrev pub tag_same : Tag → Tag → Bool
tag_same a b = same_tag b a

-- the place of the earliest token of a tag, or the number of tokens where there is none. The tokens of a tag are its operands: no rule makes
-- one on a port that its instruction has not
abbrev pub earliest_of : List Token → Tag → ℕ
earliest_of ts tag = first_of tag_same tag (tags_in ts)

-- ---- "Enabled activities stand in order of place, each counted once."

-- the token at place i is the earliest of its tag, and its tag's operands are all live
abbrev pub leads_in : (tables : List ℕ) → List Token → (i : ℕ) → Token → Bool
leads_in tables ts i t = eqb (earliest_of ts t.tag) i && is_enabled tables ts t.tag

-- the places of the enabled activities, in order
unfoldable pub enabled_places : (tables : List ℕ) → List Token → List ℕ
enabled_places tables ts = places_where (leads_in tables ts) 0 ts

-- ---- "A firing spends its operands, whose values stay"

-- a deferred token has no value yet, and stays
abbrev pub content_spent : Content → Content
content_spent (Live v) = Spent v
content_spent (Spent v) = Spent v
content_spent (Deferred cell) = Deferred cell

abbrev pub spent_token : Token → Token
spent_token t = record { tag = t.tag; port = t.port; content = content_spent t.content }
