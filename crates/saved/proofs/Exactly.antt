-- The three passes ask what 02 lists: a saved state passes them exactly if it is taken (`passes_taken`, `taken_passes`). Assumes nothing.
use Prim.Native.Nat.{ℕ, zero, suc, ◌-◌, ◌*◌, ◌/◌, ◌≤◌, ◌<◌}
use mathlib.Core.Path.{◌≡◌, refl, sym, ap, ◌∙◌, subst}
use mathlib.Core.Bool.{Bool, true, false, not, ◌&&◌, ◌||◌, cond}
use mathlib.Core.Option.{none, some}
use mathlib.Core.List.{List, [], ◌∷◌, ◌++◌, map, map-append}
use mathlib.Core.Logic.{◌↔◌}
use native.Mathlib.Omega.{arith}
use native.Mathlib.Nat.{le_of_suc-le-suc, suc-mul, add_comm}
use native.Mathlib.Decide.{ℕ_discrete}
use borrow.Author.Tests.{eq-eqb, ne_eqb, ltb-true}
use lib.Dec.{eqb, ltb}
use lib.ListN.{length, get_or, take, drop, length-map}
use lib.Seq.{drop-drop}
use lib.IntN.{ℤ}
use Rattle.record.specs.declared.tag.Tag.{Tag}
use Rattle.record.specs.declared.token.Token as Record
use Rattle.record.specs.declared.token.Content as RecordContent
use Rattle.record.specs.declared.token.Content.TheVariants.{Live, Spent, Deferred}
use Rattle.record.specs.declared.cell.Cell as RecordCell
use Rattle.record.specs.declared.cell.Cell.TheVariants.{Absent, Waiting, Present}
use Rattle.record.specs.declared.instruction.Instruction.{Instruction}
use Rattle.buffer.specs.Rows.{rows, all_rows}
use Rattle.buffer.proofs.Tables.{length_rows, get_d_rows}
use Rattle.record.specs.GraphRecords.{graph_of}
use Rattle.record.specs.TokensAndTags as Tokens
use Rattle.record.specs.TokensAndTags.{tokens, token_at, stands_at, capacity_of, is_spent_record}
use Rattle.record.specs.Calls.{most_levels}
use Rattle.record.specs.Cells as Cells
use Rattle.record.specs.Widths.{token_width, cell_width}
use Rattle.machine.specs.Machine.{Key, Content, Token, Machine, when, cell_at, at, find, same_key, is_operand_of}
use Rattle.machine.specs.Orders.{Distinct}
use Rattle.machine.specs.Sequences.{is_spent_there, is_spent_first, spent_tags}
use Rattle.machine.specs.Sequences as Sequences
use Rattle.machine.specs.Saved.{all_up_to, is_deferred_on, all_tokens, all_spent, together, operand_if_spent, names_cell, any_deferred, waits_right}
use Rattle.machine.specs.Saved as Saved
use Rattle.machine.proofs.View.{when_yes, when_no, none_some, false_true}
use Rattle.machine.proofs.Taken.{up_to, all_of, distinct_of, of_distinct}
use Rattle.machine.proofs.Taken as Taken
use Rattle.rules.specs.Check.{all, any}
use Rattle.rules.specs.InstructionSet.{arity_in}
use Rattle.rules.specs.Run.{content_held, token_held, cell_held}
use Rattle.rules.specs.Saved.{state_saved, machine_saved, token_allowed, cell_allowed, path_made, state_taken}
use Rattle.rules.proofs.Passed.{both}
use Rattle.rules.proofs.Inputs.{all_different}
use Rattle.rules.proofs.Saved.{tests}
use Rattle.std.specs.Prelude.{Option, Some, None, is_none}
use Rattle.store_chains.specs.Search.{first_from}
use Rattle.store_chains.specs.Deferred.{chain_of, any_on}
use Rattle.store_enabled.specs.Enabled.{arity_of}
use Rattle.abstraction.specs.Tables.{Arities}
use Rattle.abstraction.specs.States.{no_token}
use Rattle.abstraction.proofs.Arities.{arity_small}
use Rattle.abstraction.proofs.Keys.{stands, any_nothing, found_content, held_find, search_at, search_nothing}
use Rattle.fire_outputs.proofs.AsMachine.{cell_held_lem}
use Rattle.saved.specs.Passes.{content_on, content_allowed, arrives_at, spent_found, partnered_at, count_up_to, first_spent, is_waiting_record, cell_right, Passes}

-- ---- tests of all

module _ {A : Type 0} (test : A → Bool) (d : A) where
  all_at : (xs : List A) → all test xs ≡ true → (i : ℕ) → i < length xs → test (get_or xs i d) ≡ true
  all_at [] e i h = absurd (omega arith)
  all_at (x ∷ xs) e zero h = (both (test x) (all test xs) e).0
  all_at (x ∷ xs) e (suc i) h = all_at xs (both (test x) (all test xs) e).1 i (le_of_suc-le-suc h)

  at_all : (xs : List A) → ((i : ℕ) → i < length xs → test (get_or xs i d) ≡ true) → all test xs ≡ true
  at_all [] h = refl
  at_all (x ∷ xs) h = rw (h 0 (omega arith)) (at_all xs (λ i k. h (suc i) (omega arith)))

  -- of records
  module _ (w : ℕ) (read : List ℕ → A) where
    rows_at : (n : ℕ) (l : List ℕ) → all test (rows w read n l) ≡ true → (i : ℕ) → i < n → test (read (drop (i * w) l)) ≡ true
    rows_at n l e i h = rw (get_d_rows w read n i l d h) at (all_at (rows w read n l) e i (rw (length_rows w read n l) h))

    at_rows : (n : ℕ) (l : List ℕ) → ((i : ℕ) → i < n → test (read (drop (i * w) l)) ≡ true) → all test (rows w read n l) ≡ true
    at_rows n l h = at_all (rows w read n l) (λ i k. let j : i < n = rw (← length_rows w read n l) k in rw (get_d_rows w read n i l d j) (h i j))

-- ---- contents

held_spent_lem : (x : RecordContent.Content) → Sequences.is_spent (content_held x) ≡ is_spent_record x
held_spent_lem (Live v) = refl
held_spent_lem (Spent v) = refl
held_spent_lem (Deferred c) = refl

held_on : (c : ℕ) (x : RecordContent.Content) → is_deferred_on c (content_held x) ≡ eqb (chain_of x) (suc c)
held_on c (Live v) = sym (ne_eqb 0 (suc c) (λ e. omega arith))
held_on c (Spent v) = sym (ne_eqb 0 (suc c) (λ e. omega arith))
held_on c (Deferred d) = go (ℕ_discrete d c)
  where
    go : Dec (d ≡ c) → eqb d c ≡ eqb (suc d) (suc c)
    go (yes e) = eq-eqb d c e ∙ sym (eq-eqb (suc d) (suc c) (ap suc e))
    go (no n) = ne_eqb d c n ∙ sym (ne_eqb (suc d) (suc c) (λ e. n (omega arith)))

held_waiting : (x : RecordCell.Cell) → Saved.is_waiting (cell_held x) ≡ is_waiting_record x
held_waiting Absent = refl
held_waiting Waiting = refl
held_waiting (Present v) = refl

module _ (graph ledger cells tables : List ℕ) (used : ℕ) (right : Arities (graph_of graph) tables) where
  abbrev g : List Instruction
  g = graph_of graph

  abbrev count : ℕ
  count = length cells / cell_width

  abbrev M : Machine
  M = machine_saved graph [] ledger cells

  abbrev ts : List Record.Token
  ts = tokens used ledger

  abbrev hs : List (Token Tag ℤ)
  hs = map token_held ts

  abbrev tok : ℕ → Record.Token
  tok i = token_at ledger i

  size : length ts ≡ used
  size = length_rows token_width Tokens.decode_token used ledger

  here : (i : ℕ) (d : Record.Token) → i < used → get_or ts i d ≡ tok i
  here i d h = get_d_rows token_width Tokens.decode_token used i ledger d h

  -- a test of all tokens of the machine
  all_held : (test : Key Tag → Content ℤ → Bool) (us : List Record.Token) → all_tokens M test (map token_held us) ≡ all (λ (t : Record.Token). test (token_held t).key (content_held t.content)) us
  all_held test [] = refl
  all_held test (t ∷ us) = rw (all_held test us)

  held_at : (test : Key Tag → Content ℤ → Bool) → all_tokens M test hs ≡ true → (i : ℕ) → i < used → test (token_held (tok i)).key (content_held (tok i).content) ≡ true
  held_at test e i h = rows_at (λ (t : Record.Token). test (token_held t).key (content_held t.content)) no_token token_width Tokens.decode_token used ledger (sym (all_held test ts) ∙ e) i h

  at_held : (test : Key Tag → Content ℤ → Bool) → ((i : ℕ) → i < used → test (token_held (tok i)).key (content_held (tok i).content) ≡ true) → all_tokens M test hs ≡ true
  at_held test h = all_held test ts ∙ at_rows (λ (t : Record.Token). test (token_held t).key (content_held t.content)) no_token token_width Tokens.decode_token used ledger h

  -- ---- keys are different

  -- none is found, so none has the key
  unlike : (k : Key Tag) (us : List Record.Token) → find M k (map token_held us) ≡ none → (i : ℕ) (d : Record.Token) → i < length us → ¬ (k ≡ (token_held (get_or us i d)).key)
  unlike k [] e i d h q = omega arith
  unlike k (u ∷ us) e i d h q = go (same_key M k (token_held u).key) e i h q (λ f j l r. unlike k us f j d l r)
    where
      go : (b : Dec (k ≡ (token_held u).key)) → when b (some (content_held u.content)) (find M k (map token_held us)) ≡ none → (i : ℕ) → i < suc (length us) → k ≡ (token_held (get_or (u ∷ us) i d)).key
          → (find M k (map token_held us) ≡ none → (j : ℕ) → j < length us → ¬ (k ≡ (token_held (get_or us j d)).key)) → ⊥
      go (yes p) f j l r rec = none_some (sym f)
      go (no n) f zero l r rec = n r
      go (no n) f (suc j) l r rec = rec f j (le_of_suc-le-suc l) r

  apart : (us : List Record.Token) → Distinct M (map token_held us) → (i j : ℕ) (d : Record.Token) → j < i → i < length us → ¬ ((token_held (get_or us j d)).key ≡ (token_held (get_or us i d)).key)
  apart [] ds i j d h l q = omega arith
  apart (u ∷ us) ds zero j d h l q = omega arith
  apart (u ∷ us) ds (suc i) zero d h l q = unlike (token_held u).key us ds.0 i d (le_of_suc-le-suc l) q
  apart (u ∷ us) ds (suc i) (suc j) d h l q = apart us ds.1 i j d (le_of_suc-le-suc h) (le_of_suc-le-suc l) q

  tokens_take : (i n : ℕ) (l : List ℕ) → i ≤ n → take i (tokens n l) ≡ tokens i l
  tokens_take zero n l h = refl
  tokens_take (suc i) zero l h = absurd (omega arith)
  tokens_take (suc i) (suc n) l h = ap (λ (us : List Record.Token). Tokens.decode_token l ∷ us) (tokens_take i n (drop token_width l) (le_of_suc-le-suc h))

  free_nothing : (f : Option ℕ) → is_none f ≡ true → f ≡ None
  free_nothing (Some i) e = false_true e
  free_nothing None e = refl

  any_none : (p : Record.Token → Bool) (us : List Record.Token) → ((j : ℕ) → j < length us → p (get_or us j no_token) ≡ false) → any p us ≡ false
  any_none p [] h = refl
  any_none p (u ∷ us) h = rw (h 0 (omega arith)) (any_none p us (λ j l. h (suc j) (omega arith)))

  free_before : Distinct M hs → (i : ℕ) → i < used → first_from (stands_at (tok i).tag (tok i).port) 0 (tokens i ledger) ≡ None
  free_before ds i h =
      any_nothing (stands_at (tok i).tag (tok i).port) 0 (tokens i ledger) (any_none (stands_at (tok i).tag (tok i).port) (tokens i ledger) (λ j l.
      let k : j < i = rw (← length_rows token_width Tokens.decode_token i ledger) l in
      let e : get_or (tokens i ledger) j no_token ≡ tok j = get_d_rows token_width Tokens.decode_token i j ledger no_token k in
      no_stand (stands_at (tok i).tag (tok i).port (get_or (tokens i ledger) j no_token)) refl (λ z.
      apart ts ds i j no_token k (rw size h) (rw (here j no_token (omega arith), here i no_token h) (stands (tok i).tag (tok i).port (tok j) (rw e at z))))))
    where
      no_stand : (b : Bool) {c : Bool} → c ≡ b → (c ≡ true → ⊥) → c ≡ false
      no_stand true q n = absurd (n q)
      no_stand false q n = q

  before_free : ((i : ℕ) → i < used → first_from (stands_at (tok i).tag (tok i).port) 0 (tokens i ledger) ≡ None) → Distinct M hs
  before_free h =
      all_different g [] (capacity_of (length ledger)) count no_token ts (λ k l.
      let j : k < used = rw (← size) l in
      rw (here k no_token j, tokens_take k used ledger (omega arith)) (any_none (stands_at (tok k).tag (tok k).port) (tokens k ledger) (search_nothing (stands_at (tok k).tag (tok k).port) no_token (tokens k ledger) (h k j))))

  -- ---- contents

  operand_held_lem : (i : ℕ) → is_operand_of M (tok i).tag (token_held (tok i)).key ≡ ltb (tok i).port (arity_of tables (tok i).tag)
  operand_held_lem i = when_yes (M.same (tok i).tag (tok i).tag) _ _ refl ∙ ap (ltb (tok i).port) (sym (right (tok i).tag))

  content_at : (i : ℕ) → (operand_if_spent M (token_held (tok i)).key (content_held (tok i).content) ≡ true) × (names_cell M (token_held (tok i)).key (content_held (tok i).content) ≡ true)
      ↔ (content_allowed tables count (tok i) ≡ true)
  unfolding content_allowed
  content_at i = go (tok i).content
    where
      go : (x : RecordContent.Content) → (operand_if_spent M (token_held (tok i)).key (content_held x) ≡ true) × (names_cell M (token_held (tok i)).key (content_held x) ≡ true)
          ↔ (content_on (ltb (tok i).port (arity_of tables (tok i).tag)) count x ≡ true)
      go (Live v) = (λ e. refl, λ e. (refl, refl))
      go (Spent v) = (λ (a, b). sym (operand_held_lem i) ∙ a, λ e. (operand_held_lem i ∙ e, refl))
      go (Deferred c) = (λ (a, b). b, λ e. (refl, e))

  -- ---- operands spent together

  -- what is found on a port is spent
  spent_port : (tag : Tag) (p : ℕ) → is_spent_there (find M (at M tag p) hs) ≡ spent_found tok (first_from (stands_at tag p) 0 ts)
  spent_port tag p = ap is_spent_there (held_find g [] (capacity_of (length ledger)) count tag p no_token ts) ∙ go (first_from (stands_at tag p) 0 ts) refl
    where
      go : (f : Option ℕ) → first_from (stands_at tag p) 0 ts ≡ f → is_spent_there (found_content no_token ts f) ≡ spent_found tok f
      go None e = refl
      go (Some j) e =
          let l : j < used = rw (← size) (search_at (stands_at tag p) no_token j ts e).within in
          ap (λ (t : Record.Token). Sequences.is_spent (content_held t.content)) (here j no_token l) ∙ held_spent_lem (tok j).content

  -- each is found by its own key
  own_port : Distinct M hs → (i : ℕ) → i < used → find M (at M (tok i).tag (tok i).port) hs ≡ some (content_held (tok i).content)
  own_port ds i h = go ts ds i (rw size h) ∙ ap (λ (t : Record.Token). some (content_held t.content)) (here i no_token h)
    where
      found : (us : List Record.Token) → Distinct M (map token_held us) → (j : ℕ) → j < length us → find M (token_held (get_or us j no_token)).key (map token_held us) ≡ some (content_held (get_or us j no_token).content)
      found [] d j l = absurd (omega arith)
      found (u ∷ us) d zero l = when_yes (same_key M (token_held u).key (token_held u).key) _ _ refl
      found (u ∷ us) d (suc j) l =
          when_no (same_key M (token_held (get_or us j no_token)).key (token_held u).key) _ _ (λ q. unlike (token_held u).key us d.0 j no_token (le_of_suc-le-suc l) (sym q))
          ∙ found us d.1 j (le_of_suc-le-suc l)

      go : (us : List Record.Token) → Distinct M (map token_held us) → (j : ℕ) → j < length us → find M (at M (tok i).tag (tok i).port) hs ≡ some (content_held (get_or ts i no_token).content)
      go us d j l = subst (λ (t : Record.Token). find M (token_held t).key hs ≡ some (content_held (get_or ts i no_token).content)) (here i no_token h) (found ts ds i (rw size h))

  spent_own_lem : Distinct M hs → (i : ℕ) → i < used → is_spent_record (tok i).content ≡ true → is_spent_there (find M (at M (tok i).tag (tok i).port) hs) ≡ true
  spent_own_lem ds i h e = ap is_spent_there (own_port ds i h) ∙ held_spent_lem (tok i).content ∙ e

  -- of a token on a port below 2, of n operands with 2 at most
  two_ports : (tag : Tag) (p n : ℕ) → p < n → n ≤ 2 → is_spent_there (find M (at M tag p) hs) ≡ true
      → (all_up_to (λ q. is_spent_there (find M (at M tag q) hs)) n ≡ true) ↔ ((not (eqb n 2) || is_spent_there (find M (at M tag (1 - p)) hs)) ≡ true)
  two_ports tag p zero h l e = absurd (omega arith)
  two_ports tag zero (suc zero) h l e = (λ z. refl, λ z. rw e)
  two_ports tag (suc p) (suc zero) h l e = absurd (omega arith)
  two_ports tag zero (suc (suc zero)) h l e =
      let f : ℕ → Bool = λ q. is_spent_there (find M (at M tag q) hs) in
      (λ z. (both (f 1) (f 0 && true) z).0, λ z. rw (z, e))
  two_ports tag (suc zero) (suc (suc zero)) h l e =
      let f : ℕ → Bool = λ q. is_spent_there (find M (at M tag q) hs) in
      (λ z. (both (f 0) true (both (f 1) (f 0 && true) z).1).0, λ z. rw (e, z))
  two_ports tag (suc (suc p)) (suc (suc zero)) h l e = absurd (omega arith)
  two_ports tag p (suc (suc (suc n))) h l e = absurd (omega arith)

  partner_at_lem : Distinct M hs → (i : ℕ) → i < used → content_allowed tables count (tok i) ≡ true
      → (together M hs (token_held (tok i)).key (content_held (tok i).content) ≡ true) ↔ (partnered_at tables ledger used i ≡ true)
  unfolding content_allowed partnered_at
  partner_at_lem ds i h allowed = rw (held_spent_lem (tok i).content) (go (is_spent_record (tok i).content) refl)
    where
      ports : is_spent_record (tok i).content ≡ true → (tok i).port < arity_in g (tok i).tag
      ports e = is (tok i).content e allowed
        where
          is : (x : RecordContent.Content) → is_spent_record x ≡ true → content_on (ltb (tok i).port (arity_of tables (tok i).tag)) count x ≡ true → (tok i).port < arity_in g (tok i).tag
          is (Live v) q z = false_true q
          is (Spent v) q z = ltb-true (tok i).port (arity_in g (tok i).tag) (rw (right (tok i).tag) at z)
          is (Deferred c) q z = false_true q

      go : (b : Bool) → is_spent_record (tok i).content ≡ b
          → ((not b || all_spent M hs (tok i).tag) ≡ true)
          ↔ ((not b || (not (eqb (arity_of tables (tok i).tag) 2) || spent_found tok (first_from (stands_at (tok i).tag (1 - (tok i).port)) 0 ts))) ≡ true)
      go false e = (λ z. refl, λ z. refl)
      go true e =
          rw (right (tok i).tag, ← spent_port (tok i).tag (1 - (tok i).port))
          (two_ports (tok i).tag (tok i).port (arity_in g (tok i).tag) (ports e) (arity_small g (tok i).tag) (spent_own_lem ds i h e))

  -- ---- the firings

  tokens_more : (n : ℕ) (l : List ℕ) → tokens (suc n) l ≡ tokens n l ++ token_at l n ∷ []
  tokens_more zero l = refl
  tokens_more (suc n) l =
      ap (λ (us : List Record.Token). Tokens.decode_token l ∷ us) (tokens_more n (drop token_width l))
      ∙ rw (drop-drop (n * token_width) token_width l, suc-mul n token_width, add_comm (n * token_width) token_width)

  tags_more_lem : (us : List (Token Tag ℤ)) (t : Token Tag ℤ) → length (spent_tags M (us ++ t ∷ [])) ≡ cond (is_spent_first t) (suc (length (spent_tags M us))) (length (spent_tags M us))
  tags_more_lem [] t = go (is_spent_first t)
    where
      go : (b : Bool) → length (cond b (t.key.tag ∷ []) []) ≡ cond b 1 0
      go true = refl
      go false = refl
  tags_more_lem (u ∷ us) t = go (is_spent_first u) (is_spent_first t) (tags_more_lem us t)
    where
      go : (b c : Bool) → length (spent_tags M (us ++ t ∷ [])) ≡ cond c (suc (length (spent_tags M us))) (length (spent_tags M us))
          → length (cond b (u.key.tag ∷ spent_tags M (us ++ t ∷ [])) (spent_tags M (us ++ t ∷ [])))
          ≡ cond c (suc (length (cond b (u.key.tag ∷ spent_tags M us) (spent_tags M us)))) (length (cond b (u.key.tag ∷ spent_tags M us) (spent_tags M us)))
      go true true e = ap suc e
      go true false e = ap suc e
      go false true e = e
      go false false e = e

  counts : (n : ℕ) → length (spent_tags M (map token_held (tokens n ledger))) ≡ count_up_to (first_spent ledger) n
  counts zero = refl
  counts (suc n) =
      ap (λ (us : List Record.Token). length (spent_tags M (map token_held us))) (tokens_more n ledger)
      ∙ ap (λ (us : List (Token Tag ℤ)). length (spent_tags M us)) (map-append token_held (tokens n ledger) (tok n ∷ []))
      ∙ tags_more_lem (map token_held (tokens n ledger)) (token_held (tok n))
      ∙ rw (held_spent_lem (tok n).content, counts n)

  -- ---- the cells

  any_held : (c : ℕ) (us : List Record.Token) → any_deferred M c (map token_held us) ≡ any_on c us
  any_held c [] = refl
  any_held c (u ∷ us) = rw (held_on c u.content, any_held c us)

  cell_at_lem : (c : ℕ) → c < count → cell_at (map cell_held (all_rows cell_width Cells.decode_cell cells)) c ≡ cell_held (Cells.cell_of_record cells c)
  cell_at_lem c h = cell_held_lem (all_rows cell_width Cells.decode_cell cells) c ∙ ap cell_held (get_d_rows cell_width Cells.decode_cell count c cells Absent h)

  waits_at : (c : ℕ) → c < count → waits_right M (state_saved ledger cells used) c ≡ cond (is_waiting_record (Cells.cell_of_record cells c)) (any_on c ts) (not (any_on c ts))
  unfolding state_saved
  waits_at c h = rw (cell_at_lem c h, held_waiting (Cells.cell_of_record cells c), any_held c ts)

  -- ---- all of it

  module _ (firings : ℕ) where
    pub taken_passes : state_taken graph ledger cells firings used ≡ true → Passes g tables ledger cells firings used
    unfolding state_saved arrives_at cell_right
    taken_passes e =
        let t = tests graph ledger cells firings used e in
        let m = Taken.tested M firings (state_saved ledger cells used) t.machine in
        let ds = distinct_of M hs m.twice in
        let content : (i : ℕ) → i < used → content_allowed tables count (tok i) ≡ true = λ i h. (content_at i).0 (held_at (operand_if_spent M) m.operands i h, held_at (names_cell M) m.named i h) in
        record {
          arrive = all_of (arrives_at g tables ledger count) used (λ i h.
              rw (
                rows_at (token_allowed g) [] token_width (λ l. l) used ledger t.fields i h,
                rows_at (λ (u : Record.Token). path_made g most_levels u.tag) no_token token_width Tokens.decode_token used ledger t.paths i h,
                content i h,
                free_before ds i h,
              ));
          partnered = all_of (partnered_at tables ledger used) used (λ i h. (partner_at_lem ds i h (content i h)).0 (held_at (together M hs) m.spent i h));
          counted = sym (m.firings ∙ counts used);
          cells_right = all_of (cell_right ts cells) count (λ c h.
              rw (rows_at cell_allowed [] cell_width (λ l. l) count cells t.cell_fields c h) (sym (waits_at c h) ∙ up_to (waits_right M (state_saved ledger cells used)) count c m.waits h));
        }

    pub passes_taken : used ≤ capacity_of (length ledger) → Passes g tables ledger cells firings used → state_taken graph ledger cells firings used ≡ true
    unfolding state_taken state_saved arrives_at cell_right
    passes_taken room p =
        let arrive : (i : ℕ) → i < used → arrives_at g tables ledger count i ≡ true = λ i h. up_to (arrives_at g tables ledger count) used i p.arrive h in
        let fields : (i : ℕ) → i < used → token_allowed g (drop (i * token_width) ledger) ≡ true = λ i h. (both (token_allowed g (drop (i * token_width) ledger)) _ (arrive i h)).0 in
        let rest : (i : ℕ) → i < used → (path_made g most_levels (tok i).tag && (content_allowed tables count (tok i) && is_none (first_from (stands_at (tok i).tag (tok i).port) 0 (tokens i ledger)))) ≡ true =
        λ i h. (both (token_allowed g (drop (i * token_width) ledger)) _ (arrive i h)).1 in
        let paths : (i : ℕ) → i < used → path_made g most_levels (tok i).tag ≡ true = λ i h. (both (path_made g most_levels (tok i).tag) _ (rest i h)).0 in
        let content : (i : ℕ) → i < used → content_allowed tables count (tok i) ≡ true = λ i h. (both (content_allowed tables count (tok i)) _ (both (path_made g most_levels (tok i).tag) _ (rest i h)).1).0 in
        let free : (i : ℕ) → i < used → first_from (stands_at (tok i).tag (tok i).port) 0 (tokens i ledger) ≡ None =
        λ i h. free_nothing _ (both (content_allowed tables count (tok i)) _ (both (path_made g most_levels (tok i).tag) _ (rest i h)).1).1 in
        let ds = before_free free in
        let rightCells : (c : ℕ) → c < count → cell_right ts cells c ≡ true = λ c h. up_to (cell_right ts cells) count c p.cells_right h in
        rw (
          at_rows (token_allowed g) [] token_width (λ l. l) used ledger fields,
          at_rows (λ (u : Record.Token). path_made g most_levels u.tag) no_token token_width Tokens.decode_token used ledger paths,
          at_rows cell_allowed [] cell_width (λ l. l) count cells (λ c h. (both (cell_allowed (drop (c * cell_width) cells)) _ (rightCells c h)).0),
        )
        (Taken.passed M firings (state_saved ledger cells used) (record {
          twice = of_distinct M hs ds;
          spent = at_held (together M hs) (λ i h. (partner_at_lem ds i h (content i h)).1 (up_to (partnered_at tables ledger used) used i p.partnered h));
          operands = at_held (operand_if_spent M) (λ i h. ((content_at i).1 (content i h)).0);
          named = at_held (names_cell M) (λ i h. ((content_at i).1 (content i h)).1);
          waits = all_of (waits_right M (state_saved ledger cells used)) count (λ c h. waits_at c h ∙ (both (cell_allowed (drop (c * cell_width) cells)) _ (rightCells c h)).1);
          room = omega (arith, length-map ts token_held, size, room);
          cells = length-map (all_rows cell_width Cells.decode_cell cells) cell_held ∙ length_rows cell_width Cells.decode_cell count cells;
          firings = sym p.counted ∙ sym (counts used);
        }))
