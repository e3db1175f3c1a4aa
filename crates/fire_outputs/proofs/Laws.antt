-- Laws of what a firing leaves in a ledger and in the cells: one step of it, and two steps in turn. Assumes nothing.
use Prim.Native.Nat.{ℕ, zero, suc, ◌+◌, ◌-◌, ◌*◌, ◌/◌, ◌≤◌, ◌<◌}
use mathlib.Core.Path.{◌≡◌, refl, sym, ap, ◌∙◌}
use mathlib.Core.Bool.{Bool, true, false, cond}
use mathlib.Core.Logic.{◌⊎◌, inl, inr}
use mathlib.Core.List.{List, [], ◌∷◌, ◌++◌, map, append_assoc, append-nil}
use native.Mathlib.Omega.{arith}
use native.Mathlib.Decide.{ℕ_discrete}
use native.Mathlib.Nat.{add-zero}
use native.Mathlib.Numerals.{add-one}
use lib.IntN.{ℤ}
use lib.ListN.{length, get_or, set, take, drop, length-append, length-drop, length-map, length-set}
use lib.Seq.{length-take-le, drop-drop, drop_at, drop-set-lt, get_or-set_other, set-get_or, set-set, set_comm}
use lib.Dec.{eqb}
use borrow.Author.Tests.{eq-eqb, ne_eqb}
use denote.Enum.Declared.{tag_of}
use Rattle.buffer.specs.Rows.{put_row, joined, All}
use Rattle.record.specs.TokensAndTags.{tokens, token_at, decode_token, encode_token, stands_at}
use Rattle.record.specs.Cells as Cells
use Rattle.record.specs.declared.tag.Tag.{Tag}
use Rattle.record.specs.declared.token.Token.{Token}
use Rattle.record.specs.declared.token.Content.{Content}
use Rattle.record.specs.declared.token.Content.TheVariants.{Deferred}
use Rattle.record.specs.declared.cell.Cell.{Cell}
use Rattle.record.specs.declared.cell.Cell.TheVariants.{Absent, Waiting, Present}
use Rattle.record.specs.contracts.cell.Cell.{the_type}
use Rattle.fire_effect.specs.contracts.operate.Action as Actions
use Rattle.buffer.proofs.Tables.{length_joined, put_joined, length_rows, get_d_rows}
use Rattle.record.proofs.Records.{length_token, length_cell, cells_put}
use Rattle.record.specs.Widths.{token_width, cell_width, state_offset}
use Rattle.std.specs.Prelude.{Option, Some, None}
use Rattle.store_chains.specs.declared.Slot.{Slot}
use Rattle.store_chains.specs.Search.{first_from}
use Rattle.store_chains.specs.Slots.{Open}
use Rattle.store_chains.specs.Deferred.{LowCell, woken}
use Rattle.store_chains.proofs.Search.{first_set, first_map, first_kept_lem, first_added, first_none_added}
use Rattle.store_enabled.specs.Store.{Spendable, states_spent, tokens_spent}
use Rattle.store_enabled.proofs.Spending.{spendable_within}
use Rattle.store.specs.Matching.{spent_token, Matching}
use Rattle.store.proofs.Laws.{matching_room}
use Rattle.fire_effect.specs.declared.output.Key.{Key}
use Rattle.fire_effect.specs.declared.output.Outputs.{Outputs}
use Rattle.fire_effect.specs.declared.operate.Action.{Action}
use Rattle.fire_effect.specs.declared.operate.Action.TheVariants.{Send, Read, Write}
use Rattle.abstraction.specs.States.{no_token}
use Rattle.fire_operands.specs.Operands.{by_port}
use Rattle.fire_outputs.specs.Outputs.{spend_one, spent_at, token_out, outputs_by, output_tokens, LowPortsBy, LowPorts, OpenKeysBy, OpenKeys, cells_in, CellStore, cell_fetched, cells_fetched, content_fetched, is_present, OnCells, content_given, woken_by, writes_again, Kept, CellsKept}

-- ---- one record of a table is replaced

-- w bytes of l from a place on are those of b: the bytes past them stay, and so does the length
module _ (l b : List ℕ) (at w : ℕ) (len : length b ≡ w) (room : at + w ≤ length l) where
  ahead : length (take at l ++ b) ≡ at + w
  ahead = length-append (take at l) b ∙ rw (length-take-le at l (omega arith), len)

  splice_rest : (k : ℕ) → drop (at + w + k) (take at l ++ (b ++ drop (at + w) l)) ≡ drop (at + w + k) l
  splice_rest k =
      let e : take at l ++ (b ++ drop (at + w) l) ≡ (take at l ++ b) ++ drop (at + w) l = sym (append_assoc (take at l) b (drop (at + w) l)) in
      ap (drop (at + w + k)) e
      ∙ sym (drop-drop k (at + w) ((take at l ++ b) ++ drop (at + w) l))
      ∙ rw (drop_at (take at l ++ b) (drop (at + w) l) (at + w) ahead) (drop-drop k (at + w) l)

  splice_size : length (take at l ++ (b ++ drop (at + w) l)) ≡ length l
  splice_size =
      length-append (take at l) (b ++ drop (at + w) l)
      ∙ omega (arith, length-append b (drop (at + w) l), length-drop (at + w) l, length-take-le at l (omega arith))

-- the bytes past n records stay, and so does the length
module _ (l b : List ℕ) (i n : ℕ) (len : length b ≡ token_width) (h : i < n) (room : n * token_width ≤ length l) where
  pub put_rest : drop (n * token_width) (put_row token_width l i b) ≡ drop (n * token_width) l
  unfolding put_row
  put_rest =
      let e : n * token_width ≡ i * token_width + token_width + (n * token_width - (i * token_width + token_width)) = omega arith in
      rw e (splice_rest l b (i * token_width) token_width len (omega arith) (n * token_width - (i * token_width + token_width)))

  pub put_size : length (put_row token_width l i b) ≡ length l
  unfolding put_row
  put_size = splice_size l b (i * token_width) token_width len (omega arith)

pub put_cell_size : (l b : List ℕ) (i : ℕ) → length b ≡ 8 → i < length l / cell_width → length (put_row cell_width l i b) ≡ length l
unfolding put_row
put_cell_size l b i len h = splice_size l b (i * cell_width) 8 len (omega arith)

-- past more records
pub rest_on : (l m : List ℕ) (n k : ℕ) → n ≤ k → drop (n * token_width) l ≡ drop (n * token_width) m → drop (k * token_width) l ≡ drop (k * token_width) m
rest_on l m n k h e =
    let d : k * token_width ≡ n * token_width + (k * token_width - n * token_width) = omega arith in
    rw (d, ← drop-drop (k * token_width - n * token_width) (n * token_width) l, ← drop-drop (k * token_width - n * token_width) (n * token_width) m, e)

-- a token of the list is that of its record
pub token_held_lem : (n i : ℕ) (l : List ℕ) → i < n → get_or (tokens n l) i no_token ≡ token_at l i
token_held_lem n i l h = get_d_rows token_width decode_token n i l no_token h

-- ---- operands that are spent

spent_one_lem : (i j : ℕ) (ts : List Token) → i ≡ j → spent_at i j ts ≡ spend_one i ts
unfolding spent_at
spent_one_lem i j ts e = rw (eq-eqb i j e)

spent_two : (i j : ℕ) (ts : List Token) → (i ≡ j → ⊥) → spent_at i j ts ≡ spend_one j (spend_one i ts)
unfolding spent_at
spent_two i j ts e = rw (ne_eqb i j e)

-- both places are one, or they are two
spent_both : (n i j : ℕ) (l : List ℕ) → i < n → j < n → tokens_spent n l i j ≡ spent_at i j (tokens n l)
unfolding spend_one
spent_both n i j l h k = go (ℕ_discrete i j)
  where
    ts : List Token
    ts = tokens n l

    u : Token
    u = spent_token (token_at l i)

    go : Dec (i ≡ j) → set (set ts i u) j (spent_token (token_at l j)) ≡ spent_at i j ts
    go (yes e) = rw (spent_one_lem i j ts e, token_held_lem n i l h, ← e) (set-set ts i u u)
    go (no apart) = rw (spent_two i j ts apart, token_held_lem n i l h, get_or-set_other ts i j u no_token (λ e. apart (sym e)), token_held_lem n j l k)

-- it does not matter which is spent first
spent_either : (i j : ℕ) (ts : List Token) → spent_at i j ts ≡ spent_at j i ts
unfolding spend_one
spent_either i j ts = go (ℕ_discrete i j)
  where
    sp : ℕ → Token
    sp k = spent_token (get_or ts k no_token)

    go : Dec (i ≡ j) → spent_at i j ts ≡ spent_at j i ts
    go (yes e) = rw e
    go (no apart) =
        spent_two i j ts apart
        ∙ ap (λ (t : Token). set (set ts i (sp i)) j (spent_token t)) (get_or-set_other ts i j (sp i) no_token (λ e. apart (sym e)))
        ∙ set_comm ts i j (sp i) (sp j) apart
        ∙ sym (ap (λ (t : Token). set (set ts j (sp j)) i (spent_token t)) (get_or-set_other ts j i (sp j) no_token apart))
        ∙ sym (spent_two j i ts (λ e. apart (sym e)))

-- the operands by ports
pub spent_by_port : (port p q : ℕ) (ts : List Token) → spent_at p q ts ≡ spent_at (by_port port p q) (by_port port q p) ts
spent_by_port port p q ts = go (eqb port 0)
  where
    go : (b : Bool) → spent_at p q ts ≡ spent_at (cond b p q) (cond b q p) ts
    go true = refl
    go false = spent_either p q ts

-- ---- what a step leaves

module _ {tables links flags l : List ℕ} {used : ℕ} (m : Matching tables links flags l used) where
  room_bytes : used * token_width ≤ length l
  room_bytes = omega (arith, matching_room m)

  pub kept_same : Kept tables links flags l used (tokens used l) l
  kept_same = record { matching = m; held = refl; size = refl; rest = refl }

  -- the operands are spent
  pub kept_spent : {i j : ℕ} → Spendable l used i j → {flags' l' : List ℕ} → l' ≡ states_spent l i j → tokens used l' ≡ tokens_spent used l i j
      → Matching tables links flags' l' used
      → Kept tables links flags' l' used (spent_at i j (tokens used l)) l
  kept_spent {i} {j} o put e n =
      let m = set l (i * token_width + state_offset) 1 in
      let inside = spendable_within o in
      record {
        matching = n;
        held = e ∙ spent_both used i j l inside.0 inside.1;
        size = rw put (length-set m (j * token_width + state_offset) 1 ∙ length-set l (i * token_width + state_offset) 1);
        rest = rw put (drop-set-lt (used * token_width) m (j * token_width + state_offset) 1 (omega (arith, inside)) ∙ drop-set-lt (used * token_width) l (i * token_width + state_offset) 1 (omega (arith, inside)));
      }

  -- a token arrives
  pub kept_arrived : (t : Token) → used < length l / token_width → {links' flags' l' : List ℕ} → l' ≡ put_row token_width l used (encode_token t)
      → tokens (used + 1) l' ≡ tokens used l ++ t ∷ []
      → Matching tables links' flags' l' (used + 1)
      → Kept tables links' flags' l' (used + 1) (tokens used l ++ t ∷ []) l
  kept_arrived t h put e n = record {
    matching = n;
    held = e;
    size = rw put (put_size l (encode_token t) used (used + 1) (length_token t) (omega arith) (omega arith));
    rest = rw put (put_rest l (encode_token t) used (used + 1) (length_token t) (omega arith) (omega arith));
  }

  -- tokens are woken
  pub kept_woken : (cell : ℕ) (v : ℤ) → {links' flags' l' : List ℕ} → l' ≡ joined encode_token (map (woken cell v) (tokens used l)) ++ drop (used * token_width) l
      → tokens used l' ≡ map (woken cell v) (tokens used l)
      → Matching tables links' flags' l' used
      → Kept tables links' flags' l' used (map (woken cell v) (tokens used l)) l
  kept_woken cell v put e n =
      let us = map (woken cell v) (tokens used l) in
      let room : used * token_width ≤ length l = room_bytes in
      let len : length (joined encode_token us) ≡ used * token_width = length_joined token_width encode_token length_token us ∙ rw (length-map (tokens used l) (woken cell v), length_rows token_width decode_token used l) in
      record {
        matching = n;
        held = e;
        size = rw put (length-append (joined encode_token us) (drop (used * token_width) l) ∙ omega (arith, length-drop (used * token_width) l));
        rest = rw put (drop_at (joined encode_token us) (drop (used * token_width) l) (used * token_width) len);
      }

-- two steps in turn: the second makes f of the tokens
module _ {tables links flags l : List ℕ} {n : ℕ} {ts : List Token} {start : List ℕ} (k : Kept tables links flags l n ts start) where
  pub kept_again : (f : List Token → List Token) (n' : ℕ) → n ≤ n' → {links' flags' l' : List ℕ}
      → Kept tables links' flags' l' n' (f (tokens n l)) l
      → Kept tables links' flags' l' n' (f ts) start
  kept_again f n' h k' = record {
    matching = k'.matching;
    held = k'.held ∙ ap f k.held;
    size = k'.size ∙ k.size;
    rest = k'.rest ∙ rest_on l start n n' h k.rest;
  }

  -- the same tokens, otherwise written
  pub kept_as : {us : List Token} → ts ≡ us → Kept tables links flags l n us start
  kept_as e = record { matching = k.matching; held = k.held ∙ e; size = k.size; rest = k.rest }

  -- there is as much room as there was
  pub kept_room : {m : ℕ} → m ≤ length start / token_width → m ≤ length l / token_width
  kept_room h = rw k.size h

  pub kept_most : {m : ℕ} → length start / token_width ≤ m → length l / token_width ≤ m
  kept_most h = rw k.size h

-- ---- what a search finds, it finds once operands are spent and tokens woken

module _ (tag : Tag) (port : ℕ) where
  search_spent : (i : ℕ) (ts : List Token) → first_from (stands_at tag port) 0 (spend_one i ts) ≡ first_from (stands_at tag port) 0 ts
  unfolding spend_one stands_at
  search_spent i ts = first_set (stands_at tag port) ts i (spent_token (get_or ts i no_token)) no_token refl 0

  search_spent_at : (i j : ℕ) (ts : List Token) → first_from (stands_at tag port) 0 (spent_at i j ts) ≡ first_from (stands_at tag port) 0 ts
  unfolding spent_at
  search_spent_at i j ts = go (eqb i j)
    where
      go : (b : Bool) → first_from (stands_at tag port) 0 (cond b (spend_one i ts) (spend_one j (spend_one i ts))) ≡ first_from (stands_at tag port) 0 ts
      go true = search_spent i ts
      go false = search_spent j (spend_one i ts) ∙ search_spent i ts

  search_woken : (a : Action) (ts : List Token) → first_from (stands_at tag port) 0 (woken_by a ts) ≡ first_from (stands_at tag port) 0 ts
  unfolding stands_at
  search_woken (Send v) ts = refl
  search_woken (Read c) ts = refl
  search_woken (Write c v) ts = first_map (stands_at tag port) (woken c v) (λ t. refl) ts 0

  search_carried : (a : Action) (i j : ℕ) (ts : List Token) → first_from (stands_at tag port) 0 (woken_by a (spent_at i j ts)) ≡ first_from (stands_at tag port) 0 ts
  search_carried a i j ts = search_woken a (spent_at i j ts) ∙ search_spent_at i j ts

spent_count : (i j : ℕ) (ts : List Token) → length (spent_at i j ts) ≡ length ts
unfolding spent_at spend_one
spent_count i j ts = go (eqb i j)
  where
    go : (b : Bool) → length (cond b (spend_one i ts) (spend_one j (spend_one i ts))) ≡ length ts
    go true = length-set ts i (spent_token (get_or ts i no_token))
    go false = length-set (spend_one i ts) j (spent_token (get_or (spend_one i ts) j no_token)) ∙ length-set ts i (spent_token (get_or ts i no_token))

woken_count : (a : Action) (ts : List Token) → length (woken_by a ts) ≡ length ts
woken_count (Send v) ts = refl
woken_count (Read c) ts = refl
woken_count (Write c v) ts = length-map ts (woken c v)

-- a search that finds the same in two lists finds the same with one more at their ends
search_added : (p : Token → Bool) (ts us : List Token) (u : Token) → length ts ≡ length us → first_from p 0 ts ≡ first_from p 0 us → first_from p 0 (ts ++ u ∷ []) ≡ first_from p 0 (us ++ u ∷ [])
search_added p ts us u len e = go (first_from p 0 us) refl (p u) refl
  where
    go : (f : Option ℕ) → first_from p 0 us ≡ f → (b : Bool) → p u ≡ b → first_from p 0 (ts ++ u ∷ []) ≡ first_from p 0 (us ++ u ∷ [])
    go (Some i) q b h = first_kept_lem p ts (u ∷ []) 0 i (e ∙ q) ∙ sym (first_kept_lem p us (u ∷ []) 0 i q)
    go None q true h = first_added p u ts (e ∙ q) h ∙ ap Some len ∙ sym (first_added p u us q h)
    go None q false h = first_none_added p ts u 0 (e ∙ q) h ∙ sym (first_none_added p us u 0 q h)

open_same : (ts us : List Token) (tag : Tag) (port : ℕ) (s : Slot) → ((p : ℕ) → first_from (stands_at tag p) 0 ts ≡ first_from (stands_at tag p) 0 us) → Open us tag port s → Open ts tag port s
open_same ts us tag port s e o = record { free = e port ∙ o.free; bucket = o.bucket; partner = o.partner ∙ sym (e (1 - port)) }

-- where the outputs may arrive they may when the operands are spent and tokens woken, too
pub keys_carried : (a : Action) (i j : ℕ) (ts : List Token) (o : Outputs) (s t : Slot) → OpenKeys ts o s t → OpenKeys (woken_by a (spent_at i j ts)) o s t
keys_carried a i j ts o s t = go o.count
  where
    us : List Token
    us = woken_by a (spent_at i j ts)

    count : length us ≡ length ts
    count = woken_count a (spent_at i j ts) ∙ spent_count i j ts

    first : Open ts o.first.tag o.first.port s → Open us o.first.tag o.first.port s
    first = open_same us ts o.first.tag o.first.port s (λ p. search_carried o.first.tag p a i j ts)

    go : (n : ℕ) → OpenKeysBy ts n o.first o.second s t → OpenKeysBy us n o.first o.second s t
    go zero f = tt
    go (suc zero) f = first f
    go (suc (suc n)) f =
        let tag = o.second.tag in (
          first f.0,
          λ x.
              let u = token_out x o.first in
              open_same (us ++ u ∷ []) (ts ++ u ∷ []) tag o.second.port t (λ p. search_added (stands_at tag p) us ts u count (search_carried tag p a i j ts)) (f.1 x),
        )

-- ---- outputs

abbrev key_at : (k : ℕ) → (first second : Key) → Key
key_at zero i j = i
key_at (suc k) i j = j

abbrev slot_at : (k : ℕ) → (first second : Slot) → Slot
slot_at zero s t = s
slot_at (suc k) s t = t

-- k of the outputs have arrived, and the next is at hand with its slot
pub record Appending (tables links flags l : List ℕ) (used k : ℕ) (ts : List Token) (o : Outputs) (x : Content) (s t : Slot) (key : Key) (slot : Slot) (start : List ℕ) : Type 0 where
  pub most : k ≤ o.count
  pub kept : Kept tables links flags l (used + k) (ts ++ outputs_by k o.first o.second x) start
  pub next : key ≡ key_at k o.first o.second
  pub place : slot ≡ slot_at k s t

module _ {tables links flags l start : List ℕ} {used : ℕ} {ts : List Token} {o : Outputs} {x : Content} {s t : Slot} where
  pub appending_none : Kept tables links flags l used ts start → Appending tables links flags l used 0 ts o x s t o.first s start
  appending_none w = record { most = omega arith; kept = rw (add-zero used, append-nil ts) w; next = refl; place = refl }

  module _ {k : ℕ} {key : Key} {slot : Slot} (w : Appending tables links flags l used k ts o x s t key slot start) where
    pub appending_all : (k < o.count → ⊥) → (used + k ≡ used + o.count) × Kept tables links flags l (used + o.count) (ts ++ output_tokens x o) start
    appending_all z =
        let e : k ≡ o.count = omega (arith, w.most) in
        (ap (λ (n : ℕ). used + n) e, rw e at w.kept)

    module _ (more : k < o.count) where
      pub next_low : LowPorts o → key.port < 2
      next_low low = rw w.next (go k o.count more low)
        where
          go : (k n : ℕ) → k < n → LowPortsBy n o.first o.second → (key_at k o.first o.second).port < 2
          go k zero h v = absurd (omega arith)
          go zero (suc zero) h v = v
          go (suc k) (suc zero) h v = absurd (omega arith)
          go zero (suc (suc n)) h v = v.0
          go (suc k) (suc (suc n)) h v = v.1

      pub next_open : o.count ≤ 2 → OpenKeys ts o s t → Open (tokens (used + k) l) key.tag key.port slot
      next_open few v = rw (w.kept.held, w.next, w.place) (go k o.count more few v)
        where
          go : (k n : ℕ) → k < n → n ≤ 2 → OpenKeysBy ts n o.first o.second s t
              → Open (ts ++ outputs_by k o.first o.second x) (key_at k o.first o.second).tag (key_at k o.first o.second).port (slot_at k s t)
          go k zero h m v = absurd (omega arith)
          go zero (suc zero) h m v = rw (append-nil ts) v
          go (suc k) (suc zero) h m v = absurd (omega arith)
          go zero (suc (suc n)) h m v = rw (append-nil ts) v.0
          go (suc zero) (suc (suc n)) h m v = v.1 x
          go (suc (suc k)) (suc (suc n)) h m v = absurd (omega arith)

      pub appending_next : o.count ≤ 2 → {links' flags' l' : List ℕ} → Kept tables links' flags' l' (used + k + 1) (tokens (used + k) l ++ token_out x key ∷ []) l
          → Appending tables links' flags' l' used (k + 1) ts o x s t o.second t start
      appending_next few v =
          let sum : used + (k + 1) ≡ used + k + 1 = omega arith in
          record {
            most = omega arith;
            kept = rw sum (kept_as (kept_again w.kept (λ us. us ++ token_out x key ∷ []) (used + k + 1) (omega arith) v) (rw w.next (go k (omega arith))));
            next = rw add-one;
            place = rw add-one;
          }
        where
          go : (k : ℕ) → k < 2 → (ts ++ outputs_by k o.first o.second x) ++ token_out x (key_at k o.first o.second) ∷ [] ≡ ts ++ outputs_by (k + 1) o.first o.second x
          go zero h = ap (λ us. us ++ token_out x o.first ∷ []) (append-nil ts)
          go (suc zero) h = append_assoc ts (token_out x o.first ∷ []) (token_out x o.second ∷ [])
          go (suc (suc k)) h = absurd (omega arith)

-- ---- cells

all_set : (P : Cell → Type 0) (cs : List Cell) (i : ℕ) (x : Cell) → All P cs → P x → All P (set cs i x)
all_set P [] i x a p = tt
all_set P (c ∷ cs) zero x a p = (p, a.1)
all_set P (c ∷ cs) (suc i) x a p = (a.0, all_set P cs i x a.1 p)

-- a cell of the list is that of its record
pub cell_held_lem : (l : List ℕ) (i : ℕ) → i < length l / cell_width → get_or (cells_in l) i Absent ≡ Cells.cell_of_record l i
cell_held_lem l i h = get_d_rows cell_width Cells.decode_cell (length l / cell_width) i l Absent h

pub cells_same : {l : List ℕ} → CellStore l → CellsKept l (cells_in l) l
cells_same s = record { store = s; held = refl; size = refl }

pub cells_as : {l m : List ℕ} {cs ds : List Cell} → CellsKept l cs m → cs ≡ ds → CellsKept l ds m
cells_as w e = record { store = w.store; held = w.held ∙ e; size = w.size }

pub cells_written_lem : {l : List ℕ} → CellStore l → (i : ℕ) (x : Cell) → i < length l / cell_width → Cells.CellFits x → {l' : List ℕ} → l' ≡ put_row cell_width l i (Cells.encode_cell x)
    → CellsKept l' (set (cells_in l) i x) l
cells_written_lem {l} s i x h f {l'} put =
    let n = length l / cell_width in
    let cs = cells_in l in
    let size : length l' ≡ length l = rw put (put_cell_size l (Cells.encode_cell x) i (length_cell x) h) in
    let count : length cs ≡ n = length_rows cell_width Cells.decode_cell n l in
    let held : cells_in l' ≡ set cs i x = rw (size, put) (cells_put x f n i l h (omega arith)) in
    let whole : l ≡ joined Cells.encode_cell cs ++ [] = s.bytes ∙ sym (append-nil (joined Cells.encode_cell cs)) in
    let bytes : l' ≡ joined Cells.encode_cell (set cs i x) = put ∙ ap (λ (b : List ℕ). put_row cell_width b i (Cells.encode_cell x)) whole ∙ put_joined cell_width Cells.encode_cell length_cell cs [] i x (omega arith) ∙ append-nil (joined Cells.encode_cell (set cs i x)) in
    record {
      store = record {
        bytes = bytes ∙ ap (joined Cells.encode_cell) (sym held);
        fits = rw held (all_set Cells.CellFits cs i x s.fits f);
        few = omega arith;
      };
      held = held;
      size = size;
    }

-- FETCH leaves a present cell as it is
pub fetched_present : (cs : List Cell) (c : ℕ) (v : ℤ) → get_or cs c Absent ≡ Present v → cells_fetched c cs ≡ cs
fetched_present cs c v e = rw e (ap (set cs c) (sym e) ∙ set-get_or cs c Absent)

-- a cell without a value
pub record NoValue (x : Cell) : Type 0 where
  pub shut : is_present x ≡ false
  pub waits : cell_fetched x ≡ Waiting
  pub defers : (n : ℕ) → content_fetched n x ≡ Deferred n

pub no_value : (x : Cell) → (tag_of the_type x ≡ 0) ⊎ (tag_of the_type x ≡ 1) → NoValue x
no_value Absent k = record { shut = refl; waits = refl; defers = λ n. refl }
no_value Waiting k = record { shut = refl; waits = refl; defers = λ n. refl }
no_value (Present v) (inl e) = absurd (omega arith)
no_value (Present v) (inr e) = absurd (omega arith)

-- ---- actions

-- an action that writes no cell
pub record NoWrite (a : Action) : Type 0 where
  pub wakes : (ts : List Token) → woken_by a ts ≡ ts
  pub once : (cs : List Cell) → writes_again a cs ≡ false

pub no_write : (a : Action) → (tag_of Actions.the_type a ≡ 0) ⊎ (tag_of Actions.the_type a ≡ 1) → NoWrite a
no_write (Send v) k = record { wakes = λ ts. refl; once = λ cs. refl }
no_write (Read c) k = record { wakes = λ ts. refl; once = λ cs. refl }
no_write (Write c v) (inl e) = absurd (omega arith)
no_write (Write c v) (inr e) = absurd (omega arith)

-- among more cells
pub on_more : (a : Action) {n m : ℕ} → n ≤ m → OnCells n a → OnCells m a
on_more (Send v) h o = tt
on_more (Read c) h o = omega arith
on_more (Write c v) h o = omega arith

-- what is deferred is so on the action's own cell
pub low_content_lem : (a : Action) (cs : List Cell) → OnCells 1024 a → LowCell (content_given a cs)
low_content_lem (Send v) cs o = tt
low_content_lem (Read c) cs o = go (get_or cs c Absent)
  where
    go : (x : Cell) → LowCell (content_fetched c x)
    go Absent = o
    go Waiting = o
    go (Present v) = tt
low_content_lem (Write c v) cs o = tt
