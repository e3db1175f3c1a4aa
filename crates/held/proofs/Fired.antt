-- What a firing does to the records, whatever it asked for: it keeps their tags, a proper token stays proper and a spent one spent (`went_later`); and the earliest token
-- of an enabled activity is not spent (`flags_unspent`). Assumes nothing.
use Prim.Native.Nat.{ℕ, zero, suc, ◌+◌, ◌/◌, ◌<◌}
use mathlib.Core.Path.{◌≡◌, refl, sym, ap, subst, ◌∙◌}
use mathlib.Core.Bool.{Bool, true, false, ◌&&◌, cond}
use mathlib.Core.Option.{Option, none, some}
use mathlib.Core.List.{List, [], ◌∷◌, ◌++◌, map}
use native.Mathlib.Omega.{arith}
use lib.Dec.{eqb}
use lib.ListN.{length, get_or, length-map}
use lib.IntN.{ℤ}
use borrow.Author.Tests.{eqb-true, eqb-false}
use Rattle.record.specs.declared.tag.Tag.{Tag}
use Rattle.record.specs.declared.token.Token as Record
use Rattle.record.specs.declared.token.Content as RecordContent
use Rattle.record.specs.declared.token.Content.TheVariants.{Live, Spent, Deferred}
use Rattle.record.specs.declared.instruction.Instruction.{Instruction}
use Rattle.record.specs.GraphRecords.{graph_of}
use Rattle.record.specs.TokensAndTags.{tokens, token_at, decode_token, stands_at, is_spent_record}
use Rattle.record.specs.Widths.{token_width, cell_width}
use Rattle.buffer.proofs.Tables.{length_rows, get_d_rows}
use Rattle.machine.specs.Machine.{Content, live, spent, deferred, Token, Machine, Effect, fired, is_proper, spend, changed, is_operand_of}
use Rattle.machine.specs.Orders.{CellsBelow}
use Rattle.machine.proofs.View.{settle, DeltaOf, delta_of, change}
use Rattle.machine.proofs.Store.{After, Answer, commit_result}
use Rattle.rules.specs.declared.answer.Refusal.{Refusal}
use Rattle.rules.specs.InstructionSet.{arity_in}
use Rattle.rules.specs.Run.{content_held, token_held}
use Rattle.store_flags.specs.Flags.{places}
use Rattle.store_flags.specs.Marks.{bit}
use Rattle.std.specs.Prelude.{Some}
use Rattle.std.specs.Prelude as Std
use Rattle.store_chains.proofs.Index.{and_left, and_right}
use Rattle.store_enabled.specs.Enabled.{is_live_record, live_on, operands_live, arity_of, is_enabled, earliest_of, leads_in, enabled_places}
use Rattle.store_enabled.specs.Store.{live_found}
use Rattle.store_chains.specs.Search.{first_from, Single}
use Rattle.store_enabled.proofs.Arriving.{none_live}
use Rattle.store_enabled.proofs.Places.{live_found_lem}
use Rattle.store_enabled.proofs.Stored.{all_at}
use Rattle.store.specs.Matching.{Matching}
use Rattle.store.proofs.Laws.{matching_stored, matching_places, matching_leads}
use Rattle.abstraction.specs.States.{no_token, OnPorts}
use Rattle.abstraction.specs.Tables.{Arities}
use Rattle.fire.specs.Running.{machine_over, state_in, Running, Went}
use Rattle.held.specs.Deciding.{FlagsUnspent, Later}
use Rattle.held.proofs.Deciding.{among}

-- ---- one token

proper_kept : (n : ℕ) (w : ℕ → Option ℤ) (b : Bool) (y : Content ℤ) → is_proper n y ≡ true → is_proper n (settle w (cond b (spend y) y)) ≡ true
proper_kept n w true (live v) e = refl
proper_kept n w false (live v) e = e
proper_kept n w true (spent v) e = refl
proper_kept n w false (spent v) e = refl
proper_kept n w b (deferred c) e = let z : ◌≡◌ {A = ℕ} 0 1 = ap bit e in absurd (omega arith)

abbrev held_spent : Content ℤ → Bool
held_spent (live v) = false
held_spent (spent v) = true
held_spent (deferred c) = false

spent_kept_lem : (w : ℕ → Option ℤ) (b : Bool) (y : Content ℤ) → held_spent y ≡ true → held_spent (settle w (cond b (spend y) y)) ≡ true
spent_kept_lem w b (live v) e = let z : ◌≡◌ {A = ℕ} 0 1 = ap bit e in absurd (omega arith)
spent_kept_lem w true (spent v) e = refl
spent_kept_lem w false (spent v) e = refl
spent_kept_lem w b (deferred c) e = let z : ◌≡◌ {A = ℕ} 0 1 = ap bit e in absurd (omega arith)

spent_as : (c : RecordContent.Content) → is_spent_record c ≡ held_spent (content_held c)
spent_as (Live v) = refl
spent_as (Spent v) = refl
spent_as (Deferred c) = refl

-- ---- token by token

front : {A : Type 0} (f : A → A) (l m : List A) (i : ℕ) (d : A) → i < length l → get_or (map f l ++ m) i d ≡ f (get_or l i d)
front f [] m i d h = absurd (omega arith)
front f (x ∷ l) m zero d h = refl
front f (x ∷ l) m (suc i) d h = front f l m i d (omega arith)

get_d_map : {A B : Type 0} (f : A → B) (l : List A) (i : ℕ) (d : A) → get_or (map f l) i (f d) ≡ f (get_or l i d)
get_d_map f [] i d = refl
get_d_map f (x ∷ l) zero d = refl
get_d_map f (x ∷ l) (suc i) d = get_d_map f l i d

held_there : (l : List ℕ) (k i : ℕ) → i < k → get_or (map token_held (tokens k l)) i (token_held no_token) ≡ token_held (token_at l i)
held_there l k i h = get_d_map token_held (tokens k l) i no_token ∙ ap token_held (get_d_rows token_width decode_token k i l no_token h)

-- a firing of whatever effect, if that names cells of the store
module _ (graph : List ℕ) {tables links flags links' flags' ledger' cells' : List ℕ} {n used : ℕ} {ledger cells : List ℕ} {τ : Tag} {e : Effect Refusal Tag ℤ}
    (now : Running (graph_of graph) tables links flags ledger cells used) (below : CellsBelow (length cells / cell_width) e) (w : Went (graph_of graph) τ e tables links' flags' ledger' cells' n used ledger cells) where
  abbrev M : Machine
  M = machine_over (graph_of graph) tables ledger cells

  record Became : Type 0 where
    delta : DeltaOf M
    after : After M (state_in ledger cells used) τ delta (state_in ledger' cells' n)

  after : Became
  after = go (delta_of M e) (rw w.step at (commit_result M (state_in ledger cells used) τ e now.good.distinct (rw now.good.cell_count below)))
    where
      go : (q : Option (DeltaOf M)) → Answer M (state_in ledger cells used) τ q (fired (state_in ledger' cells' n)) → Became
      go none a = absurd a
      go (some d) a = record { delta = d; after = a }

  same : (i : ℕ) → i < used → token_held (token_at ledger' i) ≡ changed (change M τ after.delta) (token_held (token_at ledger i))
  same i h =
      let size : length (map token_held (tokens used ledger)) ≡ used = length-map (tokens used ledger) token_held ∙ length_rows token_width decode_token used ledger in
      let inside : i < length (map token_held (tokens used ledger)) = omega arith in
      sym (held_there ledger' n i (omega (arith, w.grown)))
      ∙ ap (λ (l : List (Token Tag ℤ)). get_or l i (token_held no_token)) after.after.listed
      ∙ front (changed (change M τ after.delta)) (map token_held (tokens used ledger)) _ i (token_held no_token) inside
      ∙ ap (changed (change M τ after.delta)) (held_there ledger used i h)

  same_tag_lem : (i : ℕ) → i < used → (token_at ledger' i).tag ≡ (token_at ledger i).tag
  same_tag_lem i h = ap (λ (t : Token Tag ℤ). t.key.tag) (same i h)

  pub went_later : Later tables ledger ledger' used
  went_later = record {
    tags = same_tag_lem;
    proper = λ i h e.
        ap (λ (t : Token Tag ℤ). is_proper (arity_of tables t.key.tag) t.content) (same i h)
        ∙ proper_kept (arity_of tables (token_at ledger i).tag) after.delta.writes (is_operand_of M τ (record { tag = (token_at ledger i).tag; port = (token_at ledger i).port })) (content_held (token_at ledger i).content) e;
    spent = λ i h e.
        spent_as (token_at ledger' i).content ∙ ap (λ (t : Token Tag ℤ). held_spent t.content) (same i h)
        ∙ spent_kept_lem after.delta.writes (is_operand_of M τ (record { tag = (token_at ledger i).tag; port = (token_at ledger i).port })) (content_held (token_at ledger i).content) (sym (spent_as (token_at ledger i).content) ∙ e);
  }

-- ---- enabled activities

live_unspent : (c : RecordContent.Content) → is_live_record c ≡ true → is_spent_record c ≡ false
live_unspent (Live v) e = refl
live_unspent (Spent v) e = let z : ◌≡◌ {A = ℕ} 0 1 = ap bit e in absurd (omega arith)
live_unspent (Deferred c) e = let z : ◌≡◌ {A = ℕ} 0 1 = ap bit e in absurd (omega arith)

port_live : (n : ℕ) (ts : List Record.Token) (tag : Tag) (p : ℕ) → p < n → operands_live n ts tag ≡ true → live_on ts tag p ≡ true
unfolding operands_live
port_live n ts tag p low h = go (eqb n 1) (eqb n 2) refl refl h
  where
    which : (b : Bool) → eqb p 0 ≡ b → p < 2 → (live_on ts tag 0 && live_on ts tag 1) ≡ true → live_on ts tag p ≡ true
    which true e l k = rw (eqb-true p 0 e) (and_left (live_on ts tag 0) (live_on ts tag 1) k)
    which false e l k = let one : p ≡ 1 = omega (arith, eqb-false p 0 e) in rw one (and_right (live_on ts tag 0) (live_on ts tag 1) k)

    go : (a b : Bool) → eqb n 1 ≡ a → eqb n 2 ≡ b → cond a (live_on ts tag 0) (cond b (live_on ts tag 0 && live_on ts tag 1) false) ≡ true → live_on ts tag p ≡ true
    go true b e f k = let none : p ≡ 0 = omega (arith, eqb-true n 1 e) in rw none k
    go false true e f k = which (eqb p 0) refl (omega (arith, eqb-true n 2 f)) k
    go false false e f k = let z : ◌≡◌ {A = ℕ} 0 1 = ap bit k in absurd (omega arith)

found_live : (l : List ℕ) (f : Std.Option ℕ) (i : ℕ) → f ≡ Some i → live_found (token_at l) f ≡ is_live_record (token_at l i).content
found_live l f i e = ap (live_found (token_at l)) e

pub flags_unspent : (g : List Instruction) {tables links flags ledger : List ℕ} {used : ℕ} → Arities g tables → OnPorts g (tokens used ledger) → Matching tables links flags ledger used → FlagsUnspent flags ledger used
unfolding Single
flags_unspent g {tables} {links} {flags} {ledger} {used} right ports m i low on =
    let ts = tokens used ledger in
    let t = token_at ledger i in
    let (j, lt, e) = among 0 i flags (omega arith) in
    let all : places flags ≡ enabled_places tables ts = matching_places m in
    let at : get_or (enabled_places tables ts) j 0 ≡ i = ap (λ (l : List ℕ). get_or l j 0) (sym all) ∙ sym e ∙ zero_less i in
    let lead : leads_in tables ts i t ≡ true = subst (λ (p : ℕ). leads_in tables ts p (token_at ledger p) ≡ true) at (matching_leads m j (subst (λ (l : List ℕ). j < length l) all lt)) in
    let enabled : operands_live (arity_of tables t.tag) ts t.tag ≡ true = and_right (eqb (earliest_of ts t.tag) i) (is_enabled tables ts t.tag) lead in
    let inside : i < length ts = omega (arith, length_rows token_width decode_token used ledger) in
    let here : get_or ts i no_token ≡ t = get_d_rows token_width decode_token used i ledger no_token low in
    let port = subst (λ (u : Record.Token). 0 < arity_in g u.tag → u.port < arity_in g u.tag) here (all_at (λ (u : Record.Token). 0 < arity_in g u.tag → u.port < arity_in g u.tag) ts i no_token inside ports) in
    let within : t.port < arity_of tables t.tag = subst (λ (a : ℕ). t.port < a) (sym (right t.tag)) (port (subst (λ (a : ℕ). 0 < a) (right t.tag) (some_live (arity_of tables t.tag) ts t.tag enabled))) in
    let single = subst (λ (u : Record.Token). ◌≡◌ {A = Std.Option ℕ} (first_from (stands_at u.tag u.port) 0 ts) (Some i)) here ((matching_stored m).known.single i no_token inside) in
    live_unspent t.content (sym (found_live ledger _ i single) ∙ live_found_lem t.tag t.port used ledger ∙ port_live (arity_of tables t.tag) ts t.tag t.port within enabled)
  where
    zero_less : (i : ℕ) → 0 + i ≡ i
    zero_less i = omega arith

    some_live : (n : ℕ) (ts : List Record.Token) (tag : Tag) → operands_live n ts tag ≡ true → 0 < n
    some_live n ts tag h = go (eqb n 0) refl
      where
        go : (b : Bool) → eqb n 0 ≡ b → 0 < n
        go true e = let z : ◌≡◌ {A = ℕ} 0 1 = ap bit (sym (none_live n ts tag (eqb-true n 0 e)) ∙ h) in absurd (omega arith)
        go false e = let z = eqb-false n 0 e in omega arith
