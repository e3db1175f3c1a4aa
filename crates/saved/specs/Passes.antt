-- Working definition: no public promise cites it.
-- 02, R-13: what is asked of a saved state, record by record, as a pass over its tokens and one over its cells ask it: all conditions give one answer. Assumes nothing.
use Rattle.std.specs.Prelude.{ℕ, zero, suc, ◌-◌, ◌*◌, ◌/◌, ◌<◌, ◌≡◌, Bool, true, false, not, ◌&&◌, ◌||◌, cond, List, length, get_or, take, drop, pos, eqb, ltb, Option, Some, None, is_some, is_none}
use Rattle.record.specs.declared.token.Token.{Token}
use Rattle.record.specs.declared.token.Content.{Content}
use Rattle.record.specs.declared.token.Content.TheVariants.{Live, Spent, Deferred}
use Rattle.record.specs.declared.cell.Cell.{Cell}
use Rattle.record.specs.declared.cell.Cell.TheVariants.{Absent, Waiting, Present}
use Rattle.record.specs.declared.instruction.Instruction.{Instruction}
use Rattle.record.specs.TokensAndTags.{tokens, token_at, stands_at, is_spent_record}
use Rattle.record.specs.Calls.{most_levels}
use Rattle.record.specs.Cells.{cell_of_record}
use Rattle.record.specs.Cells as Cells
use Rattle.record.specs.Widths.{token_width, cell_width}
use Rattle.machine.specs.Saved.{all_up_to}
use Rattle.rules.specs.Check.{any, enters_site}
use Rattle.rules.specs.Saved.{token_allowed, cell_allowed, path_made}
use Rattle.store_chains.specs.Search.{first_from}
use Rattle.store_chains.specs.Deferred.{any_on}
use Rattle.store_enabled.specs.Enabled.{arity_of}

-- a table by site has none where no ENTER has the site
abbrev pub EnteredSites : List Instruction → (sites : List (Option ℕ)) → Type 0
EnteredSites g sites = (site : ℕ) → site < 256 → any (enters_site (pos site)) g ≡ is_some (get_or sites site None)

-- ---- each token as it arrives

-- "results never spent": what is spent was an operand; "each deferred token naming a cell of the store"
abbrev pub content_on : (operand : Bool) → (count : ℕ) → Content → Bool
content_on operand count (Live v) = true
content_on operand count (Spent v) = operand
content_on operand count (Deferred c) = ltb c count

unfoldable pub content_allowed : (tables : List ℕ) → (count : ℕ) → Token → Bool
content_allowed tables count t = content_on (ltb t.port (arity_of tables t.tag)) count t.content

-- record i: "fields and states allowed", "each path made of sites that have an ENTER with its levels unbroken", the two above, and "tag and port never twice"
unfoldable pub arrives_at : List Instruction → (tables ledger : List ℕ) → (count i : ℕ) → Bool
arrives_at g tables ledger count i =
    token_allowed g (drop (i * token_width) ledger)
    && (path_made g most_levels (token_at ledger i).tag
    && (content_allowed tables count (token_at ledger i)
    && is_none (first_from (stands_at (token_at ledger i).tag (token_at ledger i).port) 0 (tokens i ledger))))

-- ---- operands spent together, and the firings

abbrev pub spent_found : (ℕ → Token) → Option ℕ → Bool
spent_found at (Some i) = is_spent_record (at i).content
spent_found at None = false

-- record i: "a tag's operands all present and spent or none spent", which is asked of the other port where there are two
unfoldable pub partnered_at : (tables ledger : List ℕ) → (used i : ℕ) → Bool
partnered_at tables ledger used i =
    not (is_spent_record (token_at ledger i).content)
    || (not (eqb (arity_of tables (token_at ledger i).tag) 2)
    || spent_found (token_at ledger) (first_from (stands_at (token_at ledger i).tag (1 - (token_at ledger i).port)) 0 (tokens used ledger)))

-- record i is a spent operand of a tag that waits for two
unfoldable pub spent_of_two : (tables ledger : List ℕ) → (i : ℕ) → Bool
spent_of_two tables ledger i = is_spent_record (token_at ledger i).content && eqb (arity_of tables (token_at ledger i).tag) 2

-- and the other one came before it, and is spent too. Operands are spent together exactly if half of those above are such
unfoldable pub closes_at : (tables ledger : List ℕ) → (i : ℕ) → Bool
closes_at tables ledger i =
    spent_of_two tables ledger i && spent_found (token_at ledger) (first_from (stands_at (token_at ledger i).tag (1 - (token_at ledger i).port)) 0 (tokens i ledger))

-- how many of the first n pass a test
abbrev pub count_up_to : (ℕ → Bool) → (n : ℕ) → ℕ
count_up_to test zero = 0
count_up_to test (suc n) = cond (test n) (suc (count_up_to test n)) (count_up_to test n)

-- a spent token on port 0 stands for its tag's firing
abbrev pub first_spent : (ledger : List ℕ) → (i : ℕ) → Bool
first_spent ledger i = eqb (token_at ledger i).port 0 && is_spent_record (token_at ledger i).content

-- all that one pass over the tokens asks
unfoldable pub enters_all : List Instruction → (tables ledger : List ℕ) → (count firings used : ℕ) → Bool
enters_all g tables ledger count firings used =
    all_up_to (arrives_at g tables ledger count) used
    && (eqb (count_up_to (closes_at tables ledger) used * 2) (count_up_to (spent_of_two tables ledger) used)
    && eqb (count_up_to (first_spent ledger) used) firings)

-- ---- the cells

abbrev pub is_waiting_record : Cell → Bool
is_waiting_record Absent = false
is_waiting_record Waiting = true
is_waiting_record (Present v) = false

-- cell c: "fields and states allowed", "cell values 0 until present", "cells waiting exactly where one is deferred on them"
unfoldable pub cell_right : (ts : List Token) → (cells : List ℕ) → (c : ℕ) → Bool
cell_right ts cells c = cell_allowed (drop (c * cell_width) cells) && cond (is_waiting_record (cell_of_record cells c)) (any_on c ts) (not (any_on c ts))

-- the bytes of cell record c are those of its cell
abbrev pub CellBytes : (cells : List ℕ) → (c : ℕ) → Type 0
CellBytes cells c = (Cells.encode_cell (Cells.cell_of_record cells c) ≡ take cell_width (drop (c * cell_width) cells)) × Cells.CellFits (Cells.cell_of_record cells c)

-- ---- all of it; more tokens than the ledger has records are none of it

pub record Passes (g : List Instruction) (tables ledger cells : List ℕ) (firings used : ℕ) : Type 0 where
  pub arrive : all_up_to (arrives_at g tables ledger (length cells / cell_width)) used ≡ true
  pub partnered : all_up_to (partnered_at tables ledger used) used ≡ true
  pub counted : count_up_to (first_spent ledger) used ≡ firings
  pub cells_right : all_up_to (cell_right (tokens used ledger) cells) (length cells / cell_width) ≡ true
