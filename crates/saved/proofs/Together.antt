-- Operands are spent together exactly if half of the spent ones, of tags with two, close a pair: what the pass over the tokens counts is what is asked of each (`entered`,
-- `enters`). Assumes nothing.
use Prim.Native.Nat.{ℕ, suc, ◌-◌, ◌*◌, ◌≤◌, ◌<◌}
use mathlib.Core.Path.{◌≡◌, refl, sym, ap, ◌∙◌}
use mathlib.Core.Bool.{Bool, true, false, not, ◌&&◌, ◌||◌}
use mathlib.Core.List.{List}
use native.Mathlib.Omega.{arith}
use native.Mathlib.Decide.{dec_le}
use borrow.Author.Tests.{eq-eqb, ne_eqb, eqb-true}
use lib.Dec.{eqb}
use lib.ListN.{length, get_or}
use Rattle.record.specs.declared.token.Token.{Token}
use Rattle.record.specs.declared.instruction.Instruction.{Instruction}
use Rattle.buffer.proofs.Tables.{length_rows, get_d_rows}
use Rattle.record.specs.TokensAndTags.{tokens, token_at, decode_token, stands_at, is_spent_record}
use Rattle.record.specs.Widths.{token_width}
use Rattle.machine.specs.Saved.{all_up_to}
use Rattle.machine.proofs.View.{false_true}
use Rattle.machine.proofs.Taken.{up_to, all_of}
use Rattle.rules.proofs.Passed.{both}
use Rattle.std.specs.Prelude.{Option, Some, None}
use Rattle.store_chains.specs.Search.{first_from, Free}
use Rattle.store_enabled.specs.Enabled.{arity_of}
use Rattle.store_chains.proofs.Index.{tag_own}
use Rattle.abstraction.specs.States.{no_token}
use Rattle.abstraction.proofs.Keys.{stands_tag, stands_port, search_at, search_nothing}
use Rattle.saved.specs.Passes.{arrives_at, spent_found, partnered_at, spent_of_two, closes_at, count_up_to, first_spent, enters_all}
use Rattle.saved.proofs.Laws.{arrives_parts}
use Rattle.saved.proofs.Pairs.{count_same, met, closes, lone, met_not, met_yes, pairs_all, all_pairs}

module _ (tables ledger : List ℕ) (used : ℕ) (low : (i : ℕ) → i < used → (token_at ledger i).port < 2)
    (free : (i : ℕ) → i < used → Free (tokens i ledger) (token_at ledger i).tag (token_at ledger i).port) where
  abbrev tok : ℕ → Token
  tok i = token_at ledger i

  abbrev marked : ℕ → Bool
  marked i = spent_of_two tables ledger i

  -- record i stands on the other port of record k's tag
  abbrev partner : ℕ → ℕ → Bool
  partner k i = stands_at (tok k).tag (1 - (tok k).port) (tok i)

  -- ---- one partner at most

  other : (k : ℕ) → k < used → partner k k ≡ false
  unfolding stands_at
  other k h = rw (ne_eqb (tok k).port (1 - (tok k).port) (λ e. omega (arith, low k h, e)))

  back : (k i : ℕ) → k < used → i < used → partner k i ≡ true → partner i k ≡ true
  unfolding stands_at
  back k i h l e =
      let tag : (tok i).tag ≡ (tok k).tag = stands_tag (tok k).tag (1 - (tok k).port) (tok i) e in
      let port : (tok i).port ≡ 1 - (tok k).port = stands_port (tok k).tag (1 - (tok k).port) (tok i) e in
      let turned : (tok k).port ≡ 1 - (tok i).port = omega (arith, port, low k h) in
      rw (eq-eqb (tok k).port (1 - (tok i).port) turned, tag) (tag_own (tok k).tag)

  -- of two with one key the later could not arrive
  apart : (k i j : ℕ) → j < used → partner k i ≡ true → partner k j ≡ true → i < j → ⊥
  apart k i j h p q l =
      let n : i < length (tokens j ledger) = rw (length_rows token_width decode_token j ledger) l in
      let tag : (tok j).tag ≡ (tok k).tag = stands_tag (tok k).tag (1 - (tok k).port) (tok j) q in
      let port : (tok j).port ≡ 1 - (tok k).port = stands_port (tok k).tag (1 - (tok k).port) (tok j) q in
      let gone = search_nothing (stands_at (tok j).tag (tok j).port) no_token (tokens j ledger) (free j h) i n in
      false_true (sym (rw (get_d_rows token_width decode_token j i ledger no_token l, tag, port) at gone) ∙ p)

  one : (k i j : ℕ) → k < used → i < used → j < used → partner k i ≡ true → partner k j ≡ true → i ≡ j
  one k i j h a b p q = go (dec_le (suc i) j) (dec_le (suc j) i)
    where
      go : Dec (suc i ≤ j) → Dec (suc j ≤ i) → i ≡ j
      go (yes l) d = absurd (apart k i j b p q l)
      go (no z) (yes l) = absurd (apart k j i a q p l)
      go (no z) (no y) = omega arith

  -- ---- what a search of the other port finds

  two : (k : ℕ) → marked k ≡ true → eqb (arity_of tables (tok k).tag) 2 ≡ true
  unfolding spent_of_two
  two k m = (both (is_spent_record (tok k).content) _ m).1

  spent : (k : ℕ) → marked k ≡ true → is_spent_record (tok k).content ≡ true
  unfolding spent_of_two
  spent k m = (both (is_spent_record (tok k).content) _ m).0

  mark : (k j : ℕ) → marked k ≡ true → partner k j ≡ true → is_spent_record (tok j).content ≡ true → marked j ≡ true
  unfolding spent_of_two
  mark k j m p s = rw (s, stands_tag (tok k).tag (1 - (tok k).port) (tok j) p) (two k m)

  met_found : (k n : ℕ) → k < used → n ≤ used → marked k ≡ true → met marked partner k n ≡ spent_found tok (first_from (stands_at (tok k).tag (1 - (tok k).port)) 0 (tokens n ledger))
  met_found k n h r m = go (first_from (stands_at (tok k).tag (1 - (tok k).port)) 0 (tokens n ledger)) refl
    where
      size : length (tokens n ledger) ≡ n
      size = length_rows token_width decode_token n ledger

      here : (j : ℕ) → j < n → get_or (tokens n ledger) j no_token ≡ tok j
      here j l = get_d_rows token_width decode_token n j ledger no_token l

      at : (j : ℕ) → j < n → partner k j ≡ true → (b : Bool) → is_spent_record (tok j).content ≡ b → met marked partner k n ≡ b
      at j l p true s = met_yes marked partner k n j l p (mark k j m p s)
      at j l p false s = met_not marked partner k n (λ i a q z.
          let e : i ≡ j = one k i j h (omega arith) (omega arith) q p in
          false_true (sym s ∙ (rw e at (spent i z))))

      go : (f : Option ℕ) → first_from (stands_at (tok k).tag (1 - (tok k).port)) 0 (tokens n ledger) ≡ f → met marked partner k n ≡ spent_found tok f
      go None e = met_not marked partner k n (λ j l p z.
          false_true (sym (rw (here j l) at (search_nothing (stands_at (tok k).tag (1 - (tok k).port)) no_token (tokens n ledger) e j (rw size l))) ∙ p))
      go (Some j) e =
          let w = search_at (stands_at (tok k).tag (1 - (tok k).port)) no_token j (tokens n ledger) e in
          let l : j < n = rw (← size) w.within in
          at j l (rw (here j l) at w.passes) (is_spent_record (tok j).content) refl

  -- ---- record by record

  closes_at_lem : (k : ℕ) → k < used → closes marked partner k ≡ closes_at tables ledger k
  unfolding closes_at
  closes_at_lem k h = go (marked k) refl
    where
      go : (b : Bool) → marked k ≡ b → (b && met marked partner k k) ≡ (b && spent_found tok (first_from (stands_at (tok k).tag (1 - (tok k).port)) 0 (tokens k ledger)))
      go true m = met_found k k h (omega arith) m
      go false m = refl

  lone_at : (k : ℕ) → k < used → lone marked partner used k ≡ not (partnered_at tables ledger used k)
  unfolding partnered_at spent_of_two
  lone_at k h = go (marked k) refl
    where
      found : Bool
      found = spent_found tok (first_from (stands_at (tok k).tag (1 - (tok k).port)) 0 (tokens used ledger))

      off : (a b : Bool) → (a && b) ≡ false → false ≡ not (not a || (not b || found))
      off true true e = false_true (sym e)
      off true false e = refl
      off false b e = refl

      go : (b : Bool) → marked k ≡ b → (b && not (met marked partner k used)) ≡ not (not (is_spent_record (tok k).content) || (not (eqb (arity_of tables (tok k).tag) 2) || found))
      go true m = rw (spent k m, two k m, met_found k used h (omega arith) m)
      go false m = off (is_spent_record (tok k).content) (eqb (arity_of tables (tok k).tag) 2) m

  -- ---- together

  not_back : (a : Bool) → not a ≡ false → a ≡ true
  not_back true e = refl
  not_back false e = false_true (sym e)

  same_closes : count_up_to (closes marked partner) used ≡ count_up_to (closes_at tables ledger) used
  same_closes = count_same (closes marked partner) (closes_at tables ledger) used closes_at_lem

  pub halves : count_up_to (closes_at tables ledger) used * 2 ≡ count_up_to (spent_of_two tables ledger) used → all_up_to (partnered_at tables ledger used) used ≡ true
  halves e = all_of (partnered_at tables ledger used) used (λ k h.
      not_back (partnered_at tables ledger used k) (sym (lone_at k h) ∙ pairs_all marked partner used other back one (ap (λ (n : ℕ). n * 2) same_closes ∙ e) k h))

  pub all_halves : all_up_to (partnered_at tables ledger used) used ≡ true → count_up_to (closes_at tables ledger) used * 2 ≡ count_up_to (spent_of_two tables ledger) used
  all_halves e = ap (λ (n : ℕ). n * 2) (sym same_closes) ∙ all_pairs marked partner used other back one (λ k h. lone_at k h ∙ ap not (up_to (partnered_at tables ledger used) used k e h))

-- ---- the pass over the tokens

pub record Together (g : List Instruction) (tables ledger : List ℕ) (count firings used : ℕ) : Type 0 where
  pub arrive : all_up_to (arrives_at g tables ledger count) used ≡ true
  pub partnered : all_up_to (partnered_at tables ledger used) used ≡ true
  pub counted : count_up_to (first_spent ledger) used ≡ firings

module _ (g : List Instruction) (tables ledger : List ℕ) (count firings used : ℕ) (few : count ≤ 1024) where
  module _ (arrive : all_up_to (arrives_at g tables ledger count) used ≡ true) where
    low : (i : ℕ) → i < used → (token_at ledger i).port < 2
    low i h = (arrives_parts g tables ledger count i few (up_to (arrives_at g tables ledger count) used i arrive h)).0

    free : (i : ℕ) → i < used → Free (tokens i ledger) (token_at ledger i).tag (token_at ledger i).port
    free i h = (arrives_parts g tables ledger count i few (up_to (arrives_at g tables ledger count) used i arrive h)).2

  pub entered : enters_all g tables ledger count firings used ≡ true → Together g tables ledger count firings used
  unfolding enters_all
  entered e =
      let (arrive, rest) = both (all_up_to (arrives_at g tables ledger count) used) _ e in
      let (half, fired) = both (eqb (count_up_to (closes_at tables ledger) used * 2) (count_up_to (spent_of_two tables ledger) used)) _ rest in
      record {
        arrive = arrive;
        partnered = halves tables ledger used (low arrive) (free arrive) (eqb-true _ _ half);
        counted = eqb-true _ _ fired;
      }

  pub enters : Together g tables ledger count firings used → enters_all g tables ledger count firings used ≡ true
  unfolding enters_all
  enters t = rw (t.arrive, eq-eqb _ _ (all_halves tables ledger used (low t.arrive) (free t.arrive) t.partnered), eq-eqb _ _ t.counted)
