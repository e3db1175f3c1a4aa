-- Inputs that passed the check are a start: their keys are pairwise different, they fit the ledger, and each is live (`start`). Their tags are at the root, so
-- that what holds of such keys holds of the first state (`start_keys`). Assumes nothing.
use Rattle.std.proofs.Common.{Ok}
use Prim.Native.Nat.{ℕ, zero, suc, ◌+◌, ◌/◌, ◌<◌}
use mathlib.Core.Path.{◌≡◌, refl, sym, ap, ◌∙◌, subst}
use mathlib.Core.Bool.{true, false, not}
use mathlib.Core.List.{List, [], ◌∷◌, map}
use mathlib.Core.Option.{none, some}
use native.Mathlib.Omega.{arith}
use native.Mathlib.Nat.{zero-add}
use lib.ListN.{length, get_or, take, drop, replicate, length-map}
use lib.Dec.{eqb, leb, ltb}
use lib.IntN.{ℤ}
use borrow.Author.Tests.{ltb-true, leb-true, eqb-true, eq-eqb, not-true}
use Rattle.record.specs.declared.tag.Tag.{Tag}
use Rattle.record.specs.declared.array.NamedArray.{NamedArray}
use Rattle.record.specs.declared.token.Token.{Token}
use Rattle.record.specs.declared.instruction.Instruction.{Instruction}
use Rattle.number.specs.Number.{byte_at, number32, signed_of}
use Rattle.buffer.specs.Rows.{rows, all_rows}
use Rattle.record.specs.Paths.{is_root}
use Rattle.record.specs.TokensAndTags.{path_in, tag_in, port_in, is_input, stands_at, same_tag, content_of, root_of}
use Rattle.record.specs.TokensAndTags as Tokens
use Rattle.record.specs.Widths.{token_width}
use Rattle.record.proofs.Paths.{root_words, path_same}
use Rattle.machine.specs.Machine.{Key, live, absent, Machine, find, same_key}
use Rattle.machine.specs.Orders.{Live, Distinct, AllLive, Start}
use Rattle.machine.proofs.View.{when_no, false_true}
use Rattle.machine.proofs.Kept.{Each, each_map, OfContent, OfCell, OfToken, OfState}
use Rattle.rules.specs.declared.answer.Refusal.TheVariants as Refusals
use Rattle.rules.specs.Check.{demand, any, in_turn, good_input, second_input, check_inputs, operands_at}
use Rattle.rules.specs.InstructionSet.{machine_of}
use Rattle.rules.specs.Run.{content_held, token_held, first_state}
use Rattle.rules.proofs.Passed.{both, demand_passed, and_then_passed, turn_passed}
use Rattle.rules.proofs.Lists.{neither, each_both, any_own}

pub tokens_first : (inputs : List ℕ) (cells : ℕ) → length (first_state inputs cells).tokens ≡ length (all_rows token_width Tokens.decode_token inputs)
unfolding first_state
tokens_first inputs cells = length-map (all_rows token_width Tokens.decode_token inputs) token_held

-- ---- each is live

input_live : (l : List ℕ) → is_input l ≡ true → Live (some (content_held (Tokens.decode_token l).content))
unfolding is_input Tokens.decode_token content_of
input_live l e =
    let rest = (both (is_root (path_in l)) _ e).1 in
    let zeros : number32 l 24 ≡ 0 = eqb-true (number32 l 24) 0 (both (eqb (byte_at l 16) 0) (eqb (number32 l 24) 0) rest).1 in
    let state : byte_at l 24 ≡ 0 = omega arith in
    (signed_of (number32 l 20), rw state)

-- what each good input has, all have
inputs_each : (g : List Instruction) (P : Token → Type 0) → ((l : List ℕ) → good_input g l ≡ true → P (Tokens.decode_token l))
    → (n i : ℕ) (l : List ℕ) → in_turn (λ k good. demand good Refusals.BadInput k) i (rows token_width (good_input g) n l) ≡ Ok tt → Each P (rows token_width Tokens.decode_token n l)
inputs_each g P h zero i l e = tt
inputs_each g P h (suc n) i l e =
    let parts = and_then_passed (demand (good_input g l) Refusals.BadInput i) _ e in
    (h l (demand_passed (good_input g l) Refusals.BadInput i parts.0), inputs_each g P h n (suc i) (drop token_width l) parts.1)

-- "Input tokens carry the root path and iteration"
input_root : (g : List Instruction) (l : List ℕ) → good_input g l ≡ true → (Tokens.decode_token l).tag ≡ root_of (Tokens.decode_token l).tag.instruction
unfolding good_input is_input Tokens.decode_token
input_root g l e =
    let good = (both (is_input l) (ltb (port_in l) (operands_at g (tag_in l).instruction)) e).0 in
    let parts = both (is_root (path_in l)) _ good in
    let path = root_words (path_in l) parts.0 in
    let iteration = eqb-true (byte_at l 16) 0 (both (eqb (byte_at l 16) 0) _ parts.1).0 in
    λ j. record { path = path j; iteration = iteration j; instruction = (tag_in l).instruction }

-- at a port of an instruction
input_port : (g : List Instruction) (l : List ℕ) → good_input g l ≡ true → (Tokens.decode_token l).port < operands_at g (Tokens.decode_token l).tag.instruction
unfolding good_input Tokens.decode_token
input_port g l e = ltb-true (port_in l) (operands_at g (tag_in l).instruction) (both (is_input l) (ltb (port_in l) (operands_at g (tag_in l).instruction)) e).1

-- of one key
stands_there : (t u : Token) → (token_held t).key ≡ (token_held u).key → stands_at u.tag u.port t ≡ true
unfolding stands_at same_tag
stands_there t u e =
    rw (
      eq-eqb t.port u.port (ap (λ (k : Key Tag). k.port) e),
      path_same t.tag.path u.tag.path (ap (λ (k : Key Tag). k.tag.path) e),
      eq-eqb t.tag.iteration u.tag.iteration (ap (λ (k : Key Tag). k.tag.iteration) e),
      eq-eqb t.tag.instruction u.tag.instruction (ap (λ (k : Key Tag). k.tag.instruction) e),
    )

module _ (g : List Instruction) (table : List NamedArray) (capacity cells : ℕ) where
  abbrev M : Machine
  M = machine_of g table capacity cells

  inputs_live : (n i : ℕ) (l : List ℕ) → in_turn (λ k good. demand good Refusals.BadInput k) i (rows token_width (good_input g) n l) ≡ Ok tt → AllLive M (map token_held (rows token_width Tokens.decode_token n l))
  unfolding good_input
  inputs_live zero i l e = tt
  inputs_live (suc n) i l e =
      let parts = and_then_passed (demand (good_input g l) Refusals.BadInput i) _ e in
      let good = demand_passed (good_input g l) Refusals.BadInput i parts.0 in
      (input_live l (both (is_input l) (ltb (port_in l) (operands_at g (tag_in l).instruction)) good).0, inputs_live n (suc i) (drop token_width l) parts.1)

  pub absent_of : (P : Key Tag → Type 0) (Q : ℤ → Type 0) (R : ℕ → Type 0) (n : ℕ) → Each (OfCell M P Q R) (replicate n absent)
  absent_of P Q R zero = tt
  absent_of P Q R (suc n) = (tt, absent_of P Q R n)

  -- what holds of every key at the root where an input stands, holds of the first state
  pub start_keys : (P : Key Tag → Type 0) (R : ℕ → Type 0) (inputs : List ℕ)
      → ((t : Token) → t.tag ≡ root_of t.tag.instruction → t.port < operands_at g t.tag.instruction → any (stands_at t.tag t.port) (all_rows token_width Tokens.decode_token inputs) ≡ true → P (token_held t).key)
      → check_inputs g capacity inputs ≡ Ok tt → OfState M P (λ v. Unit {0}) R (first_state inputs cells)
  unfolding check_inputs first_state good_input
  start_keys P R inputs h e = record {
    tokens = each_map (λ t. Input t × (any (stands_at t.tag t.port) ts ≡ true)) (OfToken M P (λ v. Unit {0}) R) token_held (λ t ((root, port, content), own). (h t root port own, content)) ts
        (each_both Input (λ t. any (stands_at t.tag t.port) ts ≡ true) ts (inputs_each g Input input (length inputs / token_width) 0 inputs (and_then_passed _ _ e).0) (any_own (λ t u. stands_at t.tag t.port u) (λ t. stands_there t t refl) ts));
    cells = absent_of P (λ v. Unit {0}) R cells;
  }
    where
      ts : List Token
      ts = all_rows token_width Tokens.decode_token inputs

      Input : Token → Type 0
      Input t = (t.tag ≡ root_of t.tag.instruction) × (t.port < operands_at g t.tag.instruction) × OfContent M P (λ v. Unit {0}) R (content_held t.content)

      input : (l : List ℕ) → good_input g l ≡ true → Input (Tokens.decode_token l)
      input l k =
          let (v, f) = input_live l (both (is_input l) _ k).0 in
          let z : content_held (Tokens.decode_token l).content ≡ live v = cc in
          (input_root g l k, input_port g l k, rw z tt)

  -- ---- their keys are different

  -- none of the earlier stands where u does
  abbrev Alone : List Token → Token → Type 0
  Alone earlier u = any (stands_at u.tag u.port) earlier ≡ false

  not_found : (d t : Token) (us : List Token) → ((k : ℕ) → k < length us → stands_at (get_or us k d).tag (get_or us k d).port t ≡ false) → find M (token_held t).key (map token_held us) ≡ none
  not_found d t [] h = refl
  not_found d t (u ∷ us) h =
      when_no (same_key M (token_held t).key (token_held u).key) _ _ (λ e. false_true (sym (h 0 (omega arith)) ∙ stands_there t u e))
      ∙ not_found d t us (λ k l. h (suc k) (omega arith))

  pub all_different : (d : Token) (ts : List Token) → ((k : ℕ) → k < length ts → Alone (take k ts) (get_or ts k d)) → Distinct M (map token_held ts)
  all_different d [] h = tt
  all_different d (t ∷ ts) h = (
    not_found d t ts (λ k l. (neither (stands_at (get_or ts k d).tag (get_or ts k d).port t) _ (h (suc k) (omega arith))).0),
    all_different d ts (λ k l. (neither (stands_at (get_or ts k d).tag (get_or ts k d).port t) _ (h (suc k) (omega arith))).1),
  )

  -- by the check for 9
  pub inputs_distinct : (ts : List Token) → in_turn (λ i t. demand (not (second_input (take i ts) t)) Refusals.SecondToken i) 0 ts ≡ Ok tt → Distinct M (map token_held ts)
  unfolding second_input
  inputs_distinct ts e = all_different d ts (λ k h.
      let at = turn_passed (λ i t. demand (not (second_input (take i ts) t)) Refusals.SecondToken i) d 0 ts e k h in
      not-true _ (subst (λ (m : ℕ). not (second_input (take m ts) (get_or ts k d)) ≡ true) (zero-add k) (demand_passed (not (second_input (take (0 + k) ts) (get_or ts k d))) Refusals.SecondToken (0 + k) at)))
    where
      d : Token
      d = Tokens.decode_token []

  -- ---- a start

  pub start : (inputs : List ℕ) → check_inputs g capacity inputs ≡ Ok tt → Start M (first_state inputs cells)
  unfolding check_inputs first_state
  start inputs e =
      let ts = all_rows token_width Tokens.decode_token inputs in
      let parts = and_then_passed (in_turn (λ k good. demand good Refusals.BadInput k) 0 (all_rows token_width (good_input g) inputs)) _ e in
      let later = and_then_passed (demand (leb (length ts) capacity) Refusals.LedgerFull capacity) _ parts.1 in
      record {
        distinct = inputs_distinct ts later.1;
        room = rw (length-map ts token_held) (leb-true (length ts) capacity (demand_passed (leb (length ts) capacity) Refusals.LedgerFull capacity later.0));
        all_live = inputs_live (length inputs / token_width) 0 inputs parts.0;
        absent_cells = refl;
      }
