-- What `arrive`, `spend_operands` and `wake` hand over to the chains of deferred tokens. Assumes nothing.
use Prim.Native.Nat.{ℕ, suc, ◌+◌, ◌*◌, ◌<◌}
use mathlib.Core.Path.{◌≡◌, refl, sym, ap, ◌∙◌}
use mathlib.Core.Bool.{Bool, true, false, cond}
use mathlib.Core.List.{List, [], ◌∷◌, ◌++◌, map}
use native.Mathlib.Omega.{arith}
use lib.Dec.{eqb}
use lib.IntN.{ℤ}
use lib.ListN.{length, get_or, set, drop, get_or-map}
use lib.Seq.{map-set_same}
use Rattle.buffer.specs.Rows.{put_row, joined, All}
use Rattle.record.specs.TokensAndTags.{tokens, token_at, decode_token, encode_token}
use Rattle.buffer.proofs.Tables.{length_rows, get_d_rows}
use Rattle.record.specs.declared.token.Token.{Token}
use Rattle.record.specs.declared.token.Content.{Content}
use Rattle.record.specs.declared.token.Content.TheVariants.{Live, Spent, Deferred}
use Rattle.record.specs.Widths.{token_width}
use Rattle.std.specs.Prelude.{Option}
use Rattle.store_chains.specs.Search.{found_of}
use Rattle.store_chains.specs.Chains.{bucket_key}
use Rattle.store_chains.specs.Deferred.{LowCell, chain_of, cell_key, Waiting, content_woken, woken}
use Rattle.store_chains.proofs.Chains.{chained_same, chained_past}
use Rattle.store_chains.proofs.Partners.{partnered_before}
use Rattle.store_chains.proofs.Walks.{link_of, link_found}
use Rattle.store_chains.proofs.Deferred.{Walk, walk_start, walk_own, walk_step, walk_end, waiting_woken}
use Rattle.store_enabled.specs.Store.{Stored, tokens_spent}
use Rattle.store_enabled.proofs.Bytes.{split, rest_put}
use Rattle.store_enabled.proofs.Stored.{stored_links, all_append, all_set, all_at}
use Rattle.store.specs.Matching.{content_spent, spent_token, StoreInside, Matching}

abbrev Low : Token → Type 0
Low t = LowCell t.content

-- ---- a token arrives

pub arrived : (tables links flags l : List ℕ) (used : ℕ) (t : Token) → LowCell t.content
    → Matching tables links flags l used
    → (links' flags' m : List ℕ) → tokens (used + 1) m ≡ tokens used l ++ t ∷ []
    → Stored tables links' flags' m (used + 1)
    → (Waiting links (tokens used l) → Waiting links' (tokens (used + 1) m))
    → Matching tables links' flags' m (used + 1)
unfolding StoreInside
arrived tables links flags l used t low w links' flags' m e s deferred = record {
  inside = record {
    store = s;
    deferred = deferred w.inside.deferred;
    cells = rw e (all_append Low (tokens used l) t w.inside.cells low);
  };
}

-- ---- operands are spent

spent_key : (x : Content) → chain_of (content_spent x) ≡ chain_of x
spent_key (Live v) = refl
spent_key (Spent v) = refl
spent_key (Deferred n) = refl

spent_low : (x : Content) → LowCell x → LowCell (content_spent x)
spent_low (Live v) w = tt
spent_low (Spent v) w = tt
spent_low (Deferred n) w = w

-- a token is put where one of its key stood, among tokens that have the keys they had
keys_kept : (ts us : List Token) (i : ℕ) (u d : Token) → map cell_key us ≡ map cell_key ts → cell_key u ≡ cell_key (get_or ts i d) → map cell_key (set us i u) ≡ map cell_key ts
keys_kept ts us i u d e h =
    let here : cell_key (get_or ts i d) ≡ cell_key (get_or us i d) = sym (get_or-map cell_key ts i d) ∙ ap (λ (ks : List ℕ). get_or ks i (cell_key d)) (sym e) ∙ get_or-map cell_key us i d in
    map-set_same cell_key us i u d (h ∙ here) ∙ e

pub spent_kept_lem : (tables links flags l : List ℕ) (used i j : ℕ) → Matching tables links flags l used → i < used → j < used
    → (flags' m : List ℕ) → tokens used m ≡ tokens_spent used l i j → Stored tables links flags' m used
    → Matching tables links flags' m used
unfolding StoreInside
spent_kept_lem tables links flags l used i j w a b flags' m e s =
    let us = set ts i (spent_token (token_at l i)) in
    let keys = keys_kept ts us j (spent_token (token_at l j)) (token_at l j) (keys_kept ts ts i (spent_token (token_at l i)) (token_at l i) refl (key i a)) (key j b) in
    record {
      inside = record {
        store = s;
        deferred = rw e (chained_same 6144 1024 cell_key links ts w.inside.deferred (set us j (spent_token (token_at l j))) keys);
        cells = rw e (all_set Low us j (spent_token (token_at l j)) (all_set Low ts i (spent_token (token_at l i)) w.inside.cells (low i a)) (low j b));
      };
    }
  where
    ts : List Token
    ts = tokens used l

    held : (k : ℕ) → k < used → get_or ts k (token_at l k) ≡ token_at l k
    held k h = get_d_rows token_width decode_token used k l (token_at l k) h

    key : (k : ℕ) → k < used → cell_key (spent_token (token_at l k)) ≡ cell_key (get_or ts k (token_at l k))
    key k h = rw (held k h) (spent_key (token_at l k).content)

    low : (k : ℕ) → k < used → LowCell (spent_token (token_at l k)).content
    low k h = spent_low (token_at l k).content (rw (held k h) at (all_at Low ts k (token_at l k) (omega (arith, length_rows token_width decode_token used l)) w.inside.cells))

-- ---- tokens are woken: the ledger was l at the start of the walk

module _ (cell : ℕ) (v : ℤ) where
  woken_low : (x : Content) → LowCell x → LowCell (content_woken cell v x)
  woken_low (Live x) w = tt
  woken_low (Spent x) w = tt
  woken_low (Deferred n) w = go (eqb n cell)
    where
      go : (b : Bool) → LowCell (cond b (Live v) (Deferred n))
      go true = tt
      go false = w

  all_woken : (ts : List Token) → All Low ts → All Low (map (woken cell v) ts)
  all_woken [] w = tt
  all_woken (t ∷ ts) w = (woken_low t.content w.0, all_woken ts w.1)

  pub record Waking (tables links l : List ℕ) (used : ℕ) (flags m : List ℕ) (at : ℕ) : Type 0 where
    pub size : length m ≡ length l
    pub rest : drop (used * token_width) m ≡ drop (used * token_width) l
    pub store : Stored tables links flags m used
    pub walk : Walk cell v (tokens used l) (tokens used m) at

  module _ (tables links flags l : List ℕ) (used : ℕ) (w : Matching tables links flags l used) (small : cell < 1024) where
    pub waking_start : (first : Option ℕ) → first ≡ found_of (get_or links (cell + 6144) 0) → Waking tables links l used flags l (link_of first)
    unfolding StoreInside
    waking_start first e = record {
      size = refl;
      rest = refl;
      store = w.inside.store;
      walk = rw (e, link_found (get_or links (cell + 6144) 0)) (walk_start cell v links (tokens used l) (token_at l 0) w.inside.deferred small);
    }

    module _ (flags₁ m : List ℕ) (i : ℕ) (g : Waking tables links l used flags₁ m (suc i)) where
      pub waking_low : i < used
      waking_low = omega (arith, g.walk.low, length_rows token_width decode_token used l)

      -- the next one gets the value
      pub waking_own : content_woken cell v (token_at m i).content ≡ Live v
      unfolding StoreInside
      waking_own =
          let d = token_at m i in
          let here : get_or (tokens used m) i d ≡ d = get_d_rows token_width decode_token used i m d waking_low in
          rw here at (walk_own cell v links (tokens used l) d w.inside.deferred small (tokens used m) i g.walk)

      -- one more is woken
      pub waking_step : (flags₂ m₂ : List ℕ) → length m₂ ≡ length m
          → m₂ ≡ put_row token_width m i (encode_token (woken cell v (token_at m i)))
          → tokens used m₂ ≡ set (tokens used m) i (woken cell v (token_at m i))
          → Stored tables links flags₂ m₂ used
          → (next : Option ℕ) → next ≡ found_of (get_or links (i + 7168) 0)
          → (link_of next < suc i) × Waking tables links l used flags₂ m₂ (link_of next)
      unfolding StoreInside
      waking_step flags₂ m₂ len put e s next q =
          let us = tokens used m in
          let d = token_at m i in
          let here : get_or us i d ≡ d = get_d_rows token_width decode_token used i m d waking_low in
          let same : tokens used m₂ ≡ set us i (woken cell v (get_or us i d)) = rw here e in
          let next-step = walk_step cell v links (tokens used l) d w.inside.deferred small us i g.walk in rw (q, link_found (get_or links (i + 7168) 0)) (
            next-step.0,
            record {
              size = len ∙ g.size;
              rest = rw put (rest_put used m g.store.bytes (woken cell v d) i waking_low) ∙ g.rest;
              store = s;
              walk = rw same next-step.1;
            },
          )

    -- all are woken
    module _ (flags₁ m : List ℕ) (g : Waking tables links l used flags₁ m 0) where
      pub waking_tokens : tokens used m ≡ map (woken cell v) (tokens used l)
      unfolding StoreInside
      waking_tokens = walk_end cell v links (tokens used l) (token_at l 0) w.inside.deferred small (tokens used m) g.walk

      pub waking_ledger : m ≡ joined encode_token (map (woken cell v) (tokens used l)) ++ drop (used * token_width) l
      waking_ledger = split used m g.store.bytes ∙ (λ k. joined encode_token (waking_tokens k) ++ g.rest k)

      pub waking_end : Matching tables (set links (cell + 6144) 0) flags₁ m used
      unfolding StoreInside
      waking_end = record {
        inside = record {
          store = stored_links tables links flags₁ m used g.store (set links (cell + 6144) 0) (chained_past 0 4096 bucket_key links (tokens used m) g.store.known.index (cell + 6144) 0 (omega arith)) (partnered_before links (tokens used m) g.store.known.partners (cell + 6144) 0 (omega arith));
          deferred = rw waking_tokens (waiting_woken cell v (tokens used l) links small w.inside.deferred);
          cells = rw waking_tokens (all_woken (tokens used l) w.inside.cells);
        };
      }
