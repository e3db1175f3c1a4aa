-- What the code of the passes needs: records that are allowed are in every byte those of their tokens and cells, a table of sites, a path level by level, and tests of
-- all numbers below one. Assumes nothing.
use Prim.Native.Nat.{ℕ, zero, suc, ◌+◌, ◌*◌, ◌/◌, ◌%◌, ◌≤◌, ◌<◌}
use mathlib.Core.Path.{◌≡◌, refl, sym, ap, ◌∙◌}
use mathlib.Core.Bool.{Bool, true, false, not, ◌||◌, cond}
use mathlib.Core.List.{List, [], ◌∷◌, ◌++◌}
use native.Mathlib.Omega.{arith}
use native.Mathlib.Numerals.{add-one}
use borrow.Author.Tests.{ne_eqb, ltb-true}
use lib.Dec.{eqb, ltb}
use lib.ListN.{length, get_or, take, drop, replicate, get_or-replicate}
use lib.Seq.{length-take-le}
use lib.IntN.{pos}
use Rattle.record.specs.declared.tag.Tag.{Tag}
use mir.Val.{bool_byte as from_bool}
use Rattle.record.specs.declared.token.Content.{Content}
use Rattle.record.specs.declared.token.Content.TheVariants.{Live, Spent, Deferred}
use Rattle.record.specs.declared.instruction.Instruction.{Instruction}
use Rattle.number.specs.Number.{Bytes}
use Rattle.record.specs.TokensAndTags as Tokens
use Rattle.record.specs.TokensAndTags.{stands_at}
use Rattle.record.specs.Paths.{path_number, path_words, is_root}
use Rattle.record.specs.Cells as Cells
use Rattle.record.specs.Calls.{most_levels, leave_of}
use Rattle.record.specs.Widths.{token_width, cell_width}
use Rattle.record.proofs.Records.{front, token_front, token_bytes_back, cell_bytes_back}
use Rattle.record.proofs.Fitting.{cell_fits}
use Rattle.record.proofs.Allowed.{token_proper, allowed_front, cell_proper}
use Rattle.machine.specs.Saved.{all_up_to}
use Rattle.machine.proofs.View.{false_true}
use Rattle.machine.proofs.Taken.{up_to}
use Rattle.record.specs.GraphRecords.{operands_of}
use Rattle.rules.specs.Check.{instruction_at, operands_at, enters_site}
use Rattle.rules.specs.InstructionSet.{is_result, arity_in}
use Rattle.abstraction.specs.Tables.{Arities}
use Rattle.rules.specs.Saved.{token_allowed, cell_allowed, on_left, path_made}
use Rattle.rules.proofs.Passed.{both}
use Rattle.check_fields.specs.Sites.{at_site}
use Rattle.check_fields.proofs.Sites.{at_site_lem}
use Rattle.check_fields.proofs.Turns.{any_append}
use Rattle.rules.proofs.PassedGraph.{two_operands}
use Rattle.std.specs.Prelude.{Option, Some, None, is_some, is_none}
use Rattle.store_chains.specs.Search.{first_from, Free}
use Rattle.store_chains.specs.Deferred.{LowCell}
use Rattle.store_enabled.specs.Enabled.{arity_of}
use Rattle.saved.specs.Passes.{EnteredSites, content_on, content_allowed, arrives_at, count_up_to}

-- ---- records

bytes_take : (n : ℕ) (l : List ℕ) → Bytes l → Bytes (take n l)
bytes_take zero l b k = omega arith
bytes_take (suc n) [] b k = omega arith
bytes_take (suc n) (x ∷ l) b zero = b 0
bytes_take (suc n) (x ∷ l) b (suc k) = bytes_take n l (λ j. b (suc j)) k

pub token_own : (g : List Instruction) (l : List ℕ) → token_width ≤ length l → Bytes l → token_allowed g l ≡ true → Tokens.encode_token (Tokens.decode_token l) ≡ take token_width l
unfolding token_allowed
token_own g l h b e =
    ap Tokens.encode_token (sym (token_front l))
    ∙ token_bytes_back (take token_width l) (token_proper (take token_width l) (length-take-le token_width l h) (bytes_take token_width l b) (allowed_front l ∙ (both (ltb (Tokens.decode_token l).port (operands_at g (Tokens.decode_token l).tag.instruction)) (Tokens.token_state_allowed l) e).1))

module _ (l : List ℕ) where
  cell_front : Cells.decode_cell (take cell_width l) ≡ Cells.decode_cell l
  unfolding Cells.decode_cell
  cell_front = rw (front cell_width l 0 tt, front cell_width l 1 tt, front cell_width l 2 tt, front cell_width l 3 tt, front cell_width l 4 tt)

  state_front : Cells.cell_state_allowed (take cell_width l) ≡ Cells.cell_state_allowed l
  unfolding Cells.cell_state_allowed
  state_front = rw (front cell_width l 4 tt, front cell_width l 5 tt, front cell_width l 6 tt, front cell_width l 7 tt)

  zero_front : Cells.zero_until_present (take cell_width l) ≡ Cells.zero_until_present l
  unfolding Cells.zero_until_present
  zero_front = rw (front cell_width l 0 tt, front cell_width l 1 tt, front cell_width l 2 tt, front cell_width l 3 tt, front cell_width l 4 tt)

pub cell_own : (l : List ℕ) → cell_width ≤ length l → Bytes l → cell_allowed l ≡ true → (Cells.encode_cell (Cells.decode_cell l) ≡ take cell_width l) × Cells.CellFits (Cells.decode_cell l)
unfolding cell_allowed
cell_own l h b e =
    let (s, z) = both (Cells.cell_state_allowed l) (Cells.zero_until_present l) e in (
      ap Cells.encode_cell (sym (cell_front l))
          ∙ cell_bytes_back (take cell_width l) (cell_proper (take cell_width l) (length-take-le cell_width l h) (bytes_take cell_width l b) (state_front l ∙ s) (zero_front l ∙ z)),
      cell_fits l b,
    )

-- ---- tests of all numbers below one

pub all_fails : (test : ℕ → Bool) (n i : ℕ) → i < n → test i ≡ false → false ≡ all_up_to test n
all_fails test n i h e = go (all_up_to test n) refl
  where
    go : (b : Bool) → all_up_to test n ≡ b → false ≡ b
    go true f = false_true (sym e ∙ up_to test n i f h)
    go false f = refl

pub all_more : (test : ℕ → Bool) (i : ℕ) → test i ≡ true → all_up_to test i ≡ true → all_up_to test (i + 1) ≡ true
all_more test i e f = rw (add-one i, e) f

-- what is said of a test is said of its answer
pub told : {x : Bool} {Q : Type 0} (y : Bool) → (y ≡ true → Q) → x ≡ y → (x ≡ y) × (x ≡ true → Q)
told y f e = (e, λ h. f (sym e ∙ h))

-- ---- a table of sites

pub no_sites : EnteredSites [] (replicate 256 None)
no_sites site h = rw (get_or-replicate {A = Option ℕ} 256 site None None h)

pub one_site : (rs : List Instruction) (sites : List (Option ℕ)) (r : Instruction) (v : ℕ) → 256 ≤ length sites → EnteredSites rs sites → EnteredSites (rs ++ r ∷ []) (at_site sites r (Some v))
one_site rs sites r v n h site l =
    any_append (enters_site (pos site)) rs (r ∷ [])
    ∙ rw (h site l, at_site_lem sites r (Some v) site None n l) (go (enters_site (pos site) r) (get_or sites site None))
  where
    go : (b : Bool) (e : Option ℕ) → (is_some e || (b || false)) ≡ is_some (cond b (Some v) e)
    go true None = refl
    go true (Some i) = refl
    go false None = refl
    go false (Some i) = refl

-- ---- a path, level by level

module _ (g : List Instruction) (sites : List (Option ℕ)) (entered : EnteredSites g sites) where
  pub no_level : (n : ℕ) (τ : Tag) → leave_of τ ≡ None → path_made g n τ ≡ true
  no_level zero τ e = rw e
  no_level (suc n) τ e = rw e

  pub bad_level : (n : ℕ) (τ : Tag) (site : ℕ) (caller : Tag) → leave_of τ ≡ Some (record { site = site; tag = caller }) → site < 256 → is_some (get_or sites site None) ≡ false → path_made g n τ ≡ false
  bad_level zero τ site caller e l z = rw e
  bad_level (suc n) τ site caller e l z = rw (e, entered site l, z)

  pub good_level : (n : ℕ) (τ : Tag) (site : ℕ) (caller : Tag) → leave_of τ ≡ Some (record { site = site; tag = caller }) → site < 256 → is_some (get_or sites site None) ≡ true → path_made g (suc n) τ ≡ path_made g n caller
  good_level n τ site caller e l z = rw (e, entered site l, z)

pub last_level : (g : List Instruction) (τ : Tag) → is_root τ.path ≡ path_made g 0 τ
unfolding leave_of
last_level g τ = go (is_root τ.path) (path_number τ.path)
  where
    go : (b : Bool) (path : ℕ) → b ≡ on_left (cond b None (Some (record { site = path / 256 % 256; tag = record { path = path_words (path / 65536); iteration = path % 256; instruction = τ.instruction } }))) true (λ site caller. false)
    go true path = refl
    go false path = refl

-- ---- a token that can arrive

low_content_lem : (operand : Bool) (count : ℕ) (x : Content) → count ≤ 1024 → content_on operand count x ≡ true → LowCell x
low_content_lem operand count (Live v) h e = tt
low_content_lem operand count (Spent v) h e = tt
low_content_lem operand count (Deferred c) h e = let z = ltb-true c count e in omega arith

nothing_free : (f : Option ℕ) → is_none f ≡ true → f ≡ None
nothing_free (Some i) e = false_true e
nothing_free None e = refl

pub arrives_parts : (g : List Instruction) (tables ledger : List ℕ) (count i : ℕ) → count ≤ 1024 → arrives_at g tables ledger count i ≡ true
    → ((Tokens.token_at ledger i).port < 2) × LowCell (Tokens.token_at ledger i).content × Free (Tokens.tokens i ledger) (Tokens.token_at ledger i).tag (Tokens.token_at ledger i).port
unfolding arrives_at token_allowed content_allowed operands_at
arrives_parts g tables ledger count i h e =
    let t = Tokens.token_at ledger i in
    let (fields, e1) = both (token_allowed g (drop (i * token_width) ledger)) _ e in
    let (path, e2) = both (path_made g most_levels t.tag) _ e1 in
    let (content, free) = both (content_allowed tables count t) (is_none (first_from (stands_at t.tag t.port) 0 (Tokens.tokens i ledger))) e2 in
    let port = ltb-true t.port (operands_at g t.tag.instruction) (both (ltb t.port (operands_at g t.tag.instruction)) (Tokens.token_state_allowed (drop (i * token_width) ledger)) fields).0 in
    (omega (arith, two_operands (instruction_at g t.tag.instruction).code), low_content_lem (ltb t.port (arity_of tables t.tag)) count t.content h content, nothing_free _ free)

-- ---- the port of a token

-- an activity that waits for operands waits for all of its instruction's
pub operands_of_lem : (g : List Instruction) (tables : List ℕ) → Arities g tables → (τ : Tag) → ¬ (arity_of tables τ ≡ 0) → operands_at g τ.instruction ≡ arity_of tables τ
unfolding operands_at arity_in
operands_of_lem g tables right τ some = rw (right τ) (go (is_result (instruction_at g τ.instruction) τ) (rw (right τ) at some))
  where
    go : (b : Bool) → ¬ (cond b 0 (operands_of (instruction_at g τ.instruction).code) ≡ 0)
        → operands_of (instruction_at g τ.instruction).code ≡ cond b 0 (operands_of (instruction_at g τ.instruction).code)
    go true h = absurd (h refl)
    go false h = refl

-- so where one operand is waited for, a token that can arrive is on port 0
pub arrives_alone : (g : List Instruction) (tables ledger : List ℕ) (count i : ℕ) → Arities g tables → arrives_at g tables ledger count i ≡ true
    → arity_of tables (Tokens.token_at ledger i).tag ≡ 1 → (Tokens.token_at ledger i).port ≡ 0
unfolding arrives_at token_allowed
arrives_alone g tables ledger count i right e one =
    let t = Tokens.token_at ledger i in
    let fields = (both (token_allowed g (drop (i * token_width) ledger)) _ e).0 in
    let port = ltb-true t.port (operands_at g t.tag.instruction) (both (ltb t.port (operands_at g t.tag.instruction)) (Tokens.token_state_allowed (drop (i * token_width) ledger)) fields).0 in
    omega (arith, operands_of_lem g tables right t.tag (λ z. omega (arith, one)))

-- ---- counts

-- n of the first i pass a test
pub record Counts (test : ℕ → Bool) (i n : ℕ) : Type 0 where
  pub few : n ≤ i
  pub number : n ≡ count_up_to test i

pub counts_more : (test : ℕ → Bool) (i n r : ℕ) → Counts test i n → r ≡ cond (test i) 1 0 → Counts test (i + 1) (n + r)
counts_more test i n r c f = rw (add-one i) (go (test i) refl f)
  where
    go : (b : Bool) → test i ≡ b → r ≡ cond b 1 0 → Counts test (suc i) (n + r)
    go true e h = record { few = omega (arith, c.few); number = rw e (omega (arith, c.number)) }
    go false e h = record { few = omega (arith, c.few); number = rw e (omega (arith, c.number)) }

-- a test as a number

pub byte_cond : (b : Bool) → from_bool b ≡ cond b 1 0
byte_cond true = refl
byte_cond false = refl
