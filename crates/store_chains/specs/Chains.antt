-- Working definition: no public promise cites it.
-- Chains through the places of a ledger, and how they stand in one array. `heads` has the last place of each chain, `next` for each place the one before it in its chain,
-- as place + 1 and 0 for none. A place with key 0 is in no chain, one with key c + 1 in chain c. Assumes nothing.
use Rattle.std.specs.Prelude.{ℕ, zero, suc, ◌+◌, ◌*◌, ◌/◌, ◌%◌, ◌≤◌, ◌<◌, ◌≡◌, cond, List, map, length, get_or, take, drop, eqb}
use Rattle.record.specs.declared.tag.Tag.{Tag}
use Rattle.record.specs.Paths.{folded_path}
use Rattle.record.specs.declared.token.Token.{Token}

-- 1 + the last of the first n places that has key k, or 0
abbrev pub last_below : (k : ℕ) → List ℕ → ℕ → ℕ
last_below k ks zero = 0
last_below k ks (suc n) = cond (eqb (get_or ks n 0) k) (suc n) (last_below k ks n)

pub record Linked (size : ℕ) (heads next ks : List ℕ) : Type 0 where
  pub head_count : length heads ≡ size
  pub next_count : length next ≡ 2048
  pub few : length ks ≤ 2048
  pub first : (c : ℕ) → c < size → get_or heads c 0 ≡ last_below (suc c) ks (length ks)
  pub link : (i : ℕ) → i < length ks → (get_or ks i 0 ≡ 0 → ⊥) → get_or next i 0 ≡ last_below (get_or ks i 0) ks i

-- ---- in one array

-- `size` elements of an array, from one on
unfoldable pub part : (from size : ℕ) → List ℕ → List ℕ
part from size l = take size (drop from l)

-- the invariant: `size` chains through the tokens ts, by a key of a token. The heads stand in `links` from one on, and behind them `next`
unfoldable pub Chained : (from size : ℕ) → (Token → ℕ) → (links : List ℕ) → List Token → Type 0
Chained from size key links ts = Linked size (part from size links) (part (from + size) 2048 links) (map key ts)

-- ---- by tag: every token is in the chain of its bucket

-- a product spreads what stands in each half over the bits from 2 ^ 20 on
unfoldable pub mix : (calls : ℕ) → ℕ
mix n = n % 4294967296 * 668265261 + n / 4294967296 * 374761393

unfoldable pub bucket_of : Tag → ℕ
bucket_of k = (mix (folded_path k.path) / 1048576 + k.iteration * 1259 + k.instruction * 341) % 4096

abbrev pub bucket_key : Token → ℕ
bucket_key t = suc (bucket_of t.tag)

abbrev pub Indexed : (links : List ℕ) → List Token → Type 0
Indexed links ts = Chained 0 4096 bucket_key links ts
