-- What the definition of an action's outcome gives in each of its cases, and that the code's answer is that outcome. Assumes nothing.
use Prim.Native.Nat.{ℕ, ◌+◌, ◌≤◌}
use mathlib.Core.Path.{◌≡◌, refl, ap}
use mathlib.Core.Bool.{Bool, true, false, cond}
use mathlib.Core.List.{List, ◌++◌}
use native.Mathlib.Omega.{arith}
use lib.Dec.{ltb}
use lib.ListN.{length}
use borrow.Author.Tests.{ltb-false}
use Rattle.std.specs.Prelude.{Result, Ok, Err, IsErr}
use Rattle.std.specs.Result.{IsErrAnd}
use Rattle.record.specs.TokensAndTags.{tokens, decode_token}
use Rattle.record.specs.declared.token.Token.{Token}
use Rattle.record.specs.declared.cell.Cell.{Cell}
use Rattle.buffer.proofs.Tables.{length_rows}
use Rattle.record.specs.Widths.{token_width}
use Rattle.rules.specs.declared.answer.Refusal.{Refusal}
use Rattle.rules.specs.declared.answer.Refusal.TheVariants.{LedgerFull, SecondToken, SecondWrite}
use Rattle.fire_effect.specs.declared.output.Outputs.{Outputs}
use Rattle.fire_effect.specs.declared.operate.Action.{Action}
use Rattle.fire_outputs.specs.Outputs.{spent_at, output_tokens, content_given, cells_by, woken_by, writes_again, Kept, CellsKept, Fireable}
use Rattle.fire_commit.specs.Admitted.{any_taken_of, Verdict, Yes, No, admitted_of}
use Rattle.fire_commit.specs.Commit.{Committed, done, refused, if_admitted, committed_of, CommittedTo}

-- ---- the outputs of an admitted firing have room

abbrev yes : Verdict → ℕ
yes Yes = 1
yes (No r) = 0

by_tests : (a t : Bool) → cond a (No LedgerFull) (cond t (No SecondToken) Yes) ≡ Yes → a ≡ false
by_tests true t e = let z : ◌≡◌ {A = ℕ} 0 1 = ap yes e in absurd (omega arith)
by_tests false t e = refl

pub admitted_room : (capacity used : ℕ) (l : List ℕ) (o : Outputs) → admitted_of capacity (tokens used l) o ≡ Yes → used + o.count ≤ capacity
unfolding admitted_of
admitted_room capacity used l o e =
    let ts = tokens used l in
    let n : length ts ≡ used = length_rows token_width decode_token used l in
    let h : length ts + o.count ≤ capacity = ltb-false capacity (length ts + o.count) (by_tests (ltb capacity (length ts + o.count)) (any_taken_of ts o) e) in
    omega arith

-- ---- the outcome, by what is known of it

module _ (capacity : ℕ) (ts : List Token) (cs : List Cell) (i j : ℕ) (a : Action) (o : Outputs) where
  pub second_write_lem : writes_again a cs ≡ true → committed_of capacity ts cs i j a o ≡ refused SecondWrite
  unfolding committed_of
  second_write_lem h = rw h

  module _ (once : writes_again a cs ≡ false) where
    pub act_refused : {r : Refusal} → admitted_of capacity ts o ≡ No r → committed_of capacity ts cs i j a o ≡ refused r
    unfolding committed_of if_admitted
    act_refused e = rw (once, e)

    pub act_done : admitted_of capacity ts o ≡ Yes → committed_of capacity ts cs i j a o ≡ done (woken_by a (spent_at i j ts) ++ output_tokens (content_given a cs) o) (cells_by a cs)
    unfolding committed_of if_admitted
    act_done e = rw (once, e)

-- ---- the code's answer

-- nothing was written
pub left_refused : {tables links flags ledger cells : List ℕ} {used i j : ℕ} → Fireable tables links flags ledger cells used i j
    → {x : Committed} {r : Refusal} → x ≡ refused r → CommittedTo (Err r) x tables links flags ledger cells used ledger cells
left_refused l e = rw e (refl, refl, refl, l.matching)

pub left_done : {tables links flags ledger' cells' : List ℕ} (used : ℕ) {n m : ℕ} {ts : List Token} {cs : List Cell} {ledger cells : List ℕ} {x : Committed}
    → x ≡ done ts cs → n ≡ m → Kept tables links flags ledger' m ts ledger → CellsKept cells' cs cells
    → CommittedTo (Ok n) x tables links flags ledger' cells' used ledger cells
left_done used e p k c = rw (e, p) (k, c)

-- ---- what `?` hands on

pub passed_on : {T E : Type 0} (r : Result T E) (e : E) → IsErr r × IsErrAnd r (λ x. x ≡ e) → r ≡ Err e
passed_on (Ok x) e h = absurd h.1
passed_on (Err x) e h = ap Err h.1
