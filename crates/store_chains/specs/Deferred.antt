-- Working definition: no public promise cites it.
-- Tokens that are deferred on a cell, and what a write of the cell makes of them. Assumes nothing.
use Rattle.std.specs.Prelude.{ℕ, suc, ◌<◌, Bool, false, ◌||◌, cond, List, [], ◌∷◌, eqb, ℤ}
use Rattle.record.specs.declared.token.Token.{Token}
use Rattle.record.specs.declared.token.Content.{Content}
use Rattle.record.specs.declared.token.Content.TheVariants.{Live, Spent, Deferred}
use Rattle.store_chains.specs.Chains.{Chained}

-- a token that is deferred waits for a cell below 1,024
abbrev pub LowCell : Content → Type 0
LowCell (Live v) = Unit {0}
LowCell (Spent v) = Unit {0}
LowCell (Deferred cell) = cell < 1024

-- 01, "Firing": "puts the value in every record deferred on it, makes these live"
abbrev pub content_woken : (cell : ℕ) → ℤ → Content → Content
content_woken cell v (Live x) = Live x
content_woken cell v (Spent x) = Spent x
content_woken cell v (Deferred n) = cond (eqb n cell) (Live v) (Deferred n)

abbrev pub woken : (cell : ℕ) → ℤ → Token → Token
woken cell v t = record { tag = t.tag; port = t.port; content = content_woken cell v t.content }

-- ---- the chains: a deferred token is in that of its cell

abbrev pub chain_of : Content → ℕ
chain_of (Live v) = 0
chain_of (Spent v) = 0
chain_of (Deferred cell) = suc cell

abbrev pub cell_key : Token → ℕ
cell_key t = chain_of t.content

-- a token is deferred on the cell
abbrev pub any_on : (cell : ℕ) → List Token → Bool
any_on cell [] = false
any_on cell (t ∷ ts) = eqb (cell_key t) (suc cell) || any_on cell ts

abbrev pub Waiting : (links : List ℕ) → List Token → Type 0
Waiting links ts = Chained 6144 1024 cell_key links ts
