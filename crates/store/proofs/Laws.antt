-- What callers may use of the matching store's invariant. Assumes nothing.
use Prim.Native.Nat.{ℕ, ◌*◌, ◌/◌, ◌≤◌, ◌<◌}
use mathlib.Core.Path.{◌≡◌, refl, ap, ◌∙◌}
use mathlib.Core.Bool.{true}
use mathlib.Core.List.{List, ◌++◌}
use native.Mathlib.Omega.{arith}
use lib.Dec.{eqb}
use lib.ListN.{length, get_or, take, drop, replicate, length-replicate}
use borrow.Author.Tests.{eq-eqb, eqb-true}
use Rattle.buffer.specs.Rows.{joined, All}
use Rattle.record.specs.TokensAndTags.{tokens, token_at, decode_token, encode_token, TokenFits}
use Rattle.buffer.proofs.Tables.{length_rows, get_d_rows}
use Rattle.record.specs.declared.token.Token.{Token}
use Rattle.record.specs.Widths.{token_width}
use Rattle.store_flags.specs.Flags.{places, FlagList}
use Rattle.store_flags.specs.Marks.{bit}
use Rattle.store_flags.proofs.Laws.{zero_at}
use Rattle.store_chains.specs.Chains.{bucket_key}
use Rattle.store_chains.specs.Deferred.{LowCell, cell_key, Waiting}
use Rattle.store_chains.proofs.Chains.{chained_none}
use Rattle.store_chains.proofs.Index.{and_left, and_right}
use Rattle.store_chains.proofs.Partners.{partnered_none}
use Rattle.store_enabled.specs.Enabled.{is_enabled, earliest_of, leads_in, enabled_places}
use Rattle.store_enabled.specs.Store.{Known, Stored}
use Rattle.store_enabled.proofs.Right.{right_none, right_list, right_flag, right_places, enabled_below, enabled_leads}
use Rattle.store_enabled.proofs.Bytes.{split}
use Rattle.store_enabled.proofs.Single.{single_none}
use Rattle.store_enabled.proofs.Stored.{known_few}
use Rattle.store.specs.Matching.{StoreInside, Matching}

-- arrays of zeros are right for a ledger with no used record
pub matching_start : (tables ledger : List ℕ) → Matching tables (replicate 11264 0) (replicate 2048 0) ledger 0
unfolding StoreInside
matching_start tables ledger =
    let size : length (replicate {A = ℕ} 11264 0) ≡ 11264 = length-replicate {A = ℕ} 11264 0 in
    record {
      inside = record {
        store = record {
          known = record {
            room = omega arith;
            index = chained_none 0 4096 bucket_key (replicate 11264 0) (omega (arith, size)) (zero_at 11264);
            ports = tt;
            single = single_none;
            partners = partnered_none (replicate 11264 0) (omega (arith, size));
          };
          bytes = refl;
          fits = tt;
          right = right_none tables;
        };
        deferred = chained_none 6144 1024 cell_key (replicate 11264 0) (omega (arith, size)) (zero_at 11264);
        cells = tt;
      };
    }

module _ {tables links flags ledger : List ℕ} {used : ℕ} (m : Matching tables links flags ledger used) where
  -- what `find` and `spend_operands` require is part of it
  pub matching_stored : Stored tables links flags ledger used
  unfolding StoreInside
  matching_stored = m.inside.store

  pub matching_known : Known links ledger used
  matching_known = matching_stored.known

  pub matching_list : FlagList flags
  matching_list =
      right_list tables (tokens used ledger) flags (omega (arith, known_few links ledger used matching_known, length_rows token_width decode_token used ledger)) matching_stored.right

  -- the flags' ones are the places of the enabled activities
  pub matching_places : places flags ≡ enabled_places tables (tokens used ledger)
  matching_places = right_places tables (tokens used ledger) flags matching_stored.right

  pub matching_enabled_below : (k : ℕ) → k < length (enabled_places tables (tokens used ledger)) → get_or (enabled_places tables (tokens used ledger)) k 0 < used
  matching_enabled_below k h = omega (arith, enabled_below tables (tokens used ledger) k h, length_rows token_width decode_token used ledger)

  -- the token at the place of an enabled activity is the earliest of its tag, and all operands of its tag are live
  pub matching_leads : (k : ℕ) → k < length (enabled_places tables (tokens used ledger))
      → let i = get_or (enabled_places tables (tokens used ledger)) k 0 in leads_in tables (tokens used ledger) i (token_at ledger i) ≡ true
  matching_leads k h =
      let i = get_or (enabled_places tables (tokens used ledger)) k 0 in
      let here : get_or (tokens used ledger) i (token_at ledger i) ≡ token_at ledger i = get_d_rows token_width decode_token used i ledger (token_at ledger i) (matching_enabled_below k h) in
      let found = rw here at (enabled_leads tables (tokens used ledger) (token_at ledger i) k h) in
      rw (eq-eqb _ _ found.0) found.1

  -- and its flag is raised
  pub matching_raised : (i : ℕ) → i < used → leads_in tables (tokens used ledger) i (token_at ledger i) ≡ true → get_or flags (earliest_of (tokens used ledger) (token_at ledger i).tag) 0 ≡ 1
  matching_raised i h e =
      let ts = tokens used ledger in
      let tag = (token_at ledger i).tag in
      let first : earliest_of ts tag ≡ i = eqb-true (earliest_of ts tag) i (and_left (eqb (earliest_of ts tag) i) (is_enabled tables ts tag) e) in
      let on = and_right (eqb (earliest_of ts tag) i) (is_enabled tables ts tag) e in
      right_flag tables ts flags tag (omega (arith, length_rows token_width decode_token used ledger)) matching_stored.right ∙ ap bit on

  -- the used records
  pub matching_room : used ≤ length ledger / token_width
  matching_room = matching_known.room

  pub matching_few : used ≤ 2048
  matching_few = known_few links ledger used matching_known

  pub matching_bytes : take (used * token_width) ledger ≡ joined encode_token (tokens used ledger)
  matching_bytes = matching_stored.bytes

  pub matching_ledger : ledger ≡ joined encode_token (tokens used ledger) ++ drop (used * token_width) ledger
  matching_ledger = split used ledger matching_bytes

  pub matching_fits : All TokenFits (tokens used ledger)
  matching_fits = matching_stored.fits

  pub matching_ports : All (λ (t : Token). t.port < 2) (tokens used ledger)
  matching_ports = matching_known.ports

  pub matching_cells : All (λ (t : Token). LowCell t.content) (tokens used ledger)
  unfolding StoreInside
  matching_cells = m.inside.cells

  pub matching_deferred : Waiting links (tokens used ledger)
  unfolding StoreInside
  matching_deferred = m.inside.deferred
