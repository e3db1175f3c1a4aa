-- What the lengths are where an output is accepted, and what `list` answers and leaves by them. Assumes nothing.
use Prim.Native.Nat.{ℕ, ◌/◌, ◌%◌, ◌≤◌}
use mathlib.Core.Path.{◌≡◌}
use mathlib.Core.Bool.{true}
use mathlib.Core.List.{List}
use native.Mathlib.Omega.{arith}
use lib.Dec.{eqb}
use lib.ListN.{length}
use borrow.Author.Tests.{eqb-true, leb-true, eq-eqb, le-leb}
use Rattle.record.specs.TokensAndTags.{most_tokens}
use Rattle.record.specs.Widths.{token_width}
use Rattle.std.specs.Prelude.{Ok}
use Rattle.listing.specs.Listing.{list_accepted, list_result, list_answer, listed_out, listing}
use Rattle.listing.proofs.Lists.{both, and_true}

-- ---- the lengths

pub record Lengths (ledger out : ℕ) : Type 0 where
  pub same : ledger ≡ out
  pub whole : ledger % token_width ≡ 0
  pub few : ledger / token_width ≤ most_tokens

pub lengths : (ledger out : ℕ) → list_accepted ledger out ≡ true → Lengths ledger out
unfolding list_accepted
lengths ledger out h =
    let p = and_true (eqb ledger out) _ h in
    let q = and_true (eqb (ledger % token_width) 0) _ p.1 in
    record { same = eqb-true ledger out p.0; whole = eqb-true (ledger % token_width) 0 q.0; few = leb-true (ledger / token_width) most_tokens q.1 }

pub accepting : (ledger out : ℕ) → Lengths ledger out → list_accepted ledger out ≡ true
unfolding list_accepted
accepting ledger out l = rw (eq-eqb ledger out l.same, eq-eqb (ledger % token_width) 0 l.whole, le-leb (ledger / token_width) most_tokens l.few)

-- ---- the answer and the output

module _ (ledger out : List ℕ) where
  pub result_done : Lengths (length ledger) (length out) → list_result ledger out ≡ Ok tt
  unfolding list_result
  result_done l = rw (accepting (length ledger) (length out) l)

  pub answers_done : Lengths (length ledger) (length out) → (list_answer ledger out ≡ 0) × (listed_out ledger out ≡ listing ledger)
  unfolding list_answer list_result listed_out
  answers_done l = let e = accepting (length ledger) (length out) l in (rw e, rw e)

  pub done : list_answer ledger out ≡ 0 → Lengths (length ledger) (length out) × (listed_out ledger out ≡ listing ledger)
  unfolding list_answer list_result listed_out
  done h =
      both (list_accepted (length ledger) (length out))
      (λ p. (lengths (length ledger) (length out) p, rw p))
      (λ p. let z : ◌≡◌ {A = ℕ} 7 0 = rw p at h in absurd (omega arith))

  pub refused : list_answer ledger out ≡ 7 → listed_out ledger out ≡ out
  unfolding list_answer list_result listed_out
  refused h =
      both (list_accepted (length ledger) (length out))
      (λ p. let z : ◌≡◌ {A = ℕ} 0 7 = rw p at h in absurd (omega arith))
      (λ p. rw p)
