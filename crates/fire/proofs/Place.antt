-- The token at the place of an enabled activity is its earliest operand, on a port that its instruction has; and what matching found are the operands
-- of an activity. Assumes nothing.
use Rattle.std.proofs.Math.Nat.{min-eq_left}
use Prim.Native.Nat.{ℕ, ◌<◌, min}
use mathlib.Core.Path.{◌≡◌, refl, sym, ap, subst, ◌∙◌}
use mathlib.Core.Bool.{Bool, true, false, cond}
use mathlib.Core.List.{List, [], ◌∷◌}
use mathlib.Core.Logic.{⊎_elim}
use native.Mathlib.Omega.{arith}
use lib.ListN.{length, get_or}
use lib.Dec.{eqb}
use lib.IntN.{ℤ}
use borrow.Author.Tests.{eqb-true}
use Rattle.buffer.specs.Rows.{All}
use Rattle.record.specs.declared.tag.Tag.{Tag}
use Rattle.record.specs.declared.token.Token.{Token}
use Rattle.record.specs.declared.token.Content.TheVariants.{Live}
use Rattle.record.specs.declared.instruction.Instruction.{Instruction}
use Rattle.record.specs.GraphRecords.{operands_of, graph_of}
use Rattle.record.specs.TokensAndTags.{decode_token, tokens, token_at, stands_at}
use Rattle.buffer.proofs.Tables.{length_rows, get_d_rows}
use Rattle.record.specs.Widths.{token_width}
use Rattle.std.specs.Prelude.{Option, Some, None}
use Rattle.store_chains.specs.Search.{first_from}
use Rattle.store_chains.proofs.Index.{and_left, and_right}
use Rattle.store_enabled.specs.Enabled.{is_live_record, arity_of, is_enabled, earliest_of, leads_in}
use Rattle.store_enabled.specs.Store.{OperandPlaces}
use Rattle.store_enabled.proofs.Places.{first_place}
use Rattle.store_enabled.proofs.Stored.{all_at}
use Rattle.rules.specs.Check.{instruction_at, operands_at}
use Rattle.rules.specs.InstructionSet.{is_result, arity_in}
use Rattle.abstraction.specs.States.{no_token, OnPorts}
use Rattle.abstraction.proofs.Keys.{search_at, stands_tag, stands_port}
use Rattle.fire_operands.specs.Operands.{Earliest}
use Rattle.fire_operands.proofs.AsMachine.{Places}
use Rattle.fire.specs.Running.{Arrived, Running, Prepared}

on_port : (g : List Instruction) (t : Token) → t.port < operands_at g t.tag.instruction → 0 < arity_in g t.tag → t.port < arity_in g t.tag
unfolding arity_in operands_at
on_port g t h k = go (is_result (instruction_at g t.tag.instruction) t.tag) k
  where
    go : (b : Bool) → 0 < cond b 0 (operands_of (instruction_at g t.tag.instruction).code) → t.port < cond b 0 (operands_of (instruction_at g t.tag.instruction).code)
    go true l = absurd (omega arith)
    go false l = h

pub on_ports : (g : List Instruction) (ts : List Token) → Arrived g ts → OnPorts g ts
on_ports g [] a = tt
on_ports g (t ∷ ts) a = (on_port g t a.0, on_ports g ts a.1)

module _ {graph tables links flags ledger cells : List ℕ} {used : ℕ} (ready : Prepared graph tables)
    (now : Running (graph_of graph) tables links flags ledger cells used) (place : ℕ) (within : place < used)
    (first : leads_in tables (tokens used ledger) place (token_at ledger place) ≡ true) where
  pub earliest_here : (t : Token) (a : ℕ) → t ≡ token_at ledger place → a ≡ arity_of tables t.tag → Earliest a (tokens used ledger) t.tag place
  earliest_here t a e f =
      let ts = tokens used ledger in
      let there : get_or ts place no_token ≡ t = get_d_rows token_width decode_token used place ledger no_token within ∙ sym e in
      let inside : place < length ts = omega (arith, length_rows token_width decode_token used ledger) in
      let arity : a ≡ arity_in (graph_of graph) t.tag = f ∙ ready.arities_right t.tag in
      let here = all_at (λ (u : Token). 0 < arity_in (graph_of graph) u.tag → u.port < arity_in (graph_of graph) u.tag) ts place no_token inside (on_ports (graph_of graph) ts now.arrived) in
      let lead : leads_in tables ts place t ≡ true = subst (λ (u : Token). leads_in tables ts place u ≡ true) (sym e) first in
      record {
        within = inside;
        first = eqb-true (earliest_of ts t.tag) place (and_left (eqb (earliest_of ts t.tag) place) (is_enabled tables ts t.tag) lead);
        waited = rw (there, arity) (rw there at here);
        enabled = rw f (and_right (eqb (earliest_of ts t.tag) place) (is_enabled tables ts t.tag) lead);
      }

-- ---- the operands that matching found

-- where one operand is waited for, no token of the tag stands on port 1
one_port : (g : List Instruction) (ts : List Token) → Arrived g ts → (τ : Tag) → arity_in g τ ≡ 1 → first_from (stands_at τ 1) 0 ts ≡ None
one_port g ts a τ one = go (first_from (stands_at τ 1) 0 ts) refl
  where
    go : (f : Option ℕ) → first_from (stands_at τ 1) 0 ts ≡ f → f ≡ None
    go (Some k) e =
        let s = search_at (stands_at τ 1) no_token k ts e in
        let u = get_or ts k no_token in
        let tag : u.tag ≡ τ = stands_tag τ 1 u s.passes in
        let arity : arity_in g u.tag ≡ 1 = rw tag one in
        let low = all_at (λ (t : Token). 0 < arity_in g t.tag → t.port < arity_in g t.tag) ts k no_token s.within (on_ports g ts a) (omega arith) in
        absurd (omega (arith, stands_port τ 1 u s.passes))
    go None e = refl

module _ (g : List Instruction) (ledger : List ℕ) (used : ℕ) (ports : All (λ (t : Token). t.port < 2) (tokens used ledger)) (arrived : Arrived g (tokens used ledger)) (τ : Tag) {i j : ℕ} {v w : ℤ}
    (p : Places (arity_in g τ) (tokens used ledger) τ i j v w) where
  size : length (tokens used ledger) ≡ used
  size = length_rows token_width decode_token used ledger

  read : (k : ℕ) → k < length (tokens used ledger) → get_or (tokens used ledger) k no_token ≡ token_at ledger k
  read k h = get_d_rows token_width decode_token used k ledger no_token (omega (arith, size))

  tag_at : (port k : ℕ) → k < length (tokens used ledger) → first_from (stands_at τ port) 0 (tokens used ledger) ≡ Some k → (token_at ledger k).tag ≡ τ
  tag_at port k h e = ap (λ (t : Token). t.tag) (sym (read k h)) ∙ stands_tag τ port (get_or (tokens used ledger) k no_token) (search_at (stands_at τ port) no_token k (tokens used ledger) e).passes

  live_at_lem : (k : ℕ) {x : ℤ} → k < length (tokens used ledger) → (get_or (tokens used ledger) k no_token).content ≡ Live x → is_live_record (token_at ledger k).content ≡ true
  live_at_lem k h e = ap (λ (t : Token). is_live_record t.content) (sym (read k h)) ∙ ap is_live_record e

  first_tag : (token_at ledger i).tag ≡ τ
  first_tag = tag_at 0 i p.first_within p.first_found

  second_tag : (token_at ledger j).tag ≡ τ
  second_tag = ⊎_elim (λ h. ap (λ (k : ℕ). (token_at ledger k).tag) h.1 ∙ first_tag) (λ h. tag_at 1 j p.second_within h.1) p.second_found

  -- the earlier of the two is the first token of the tag
  pub place_here : earliest_of (tokens used ledger) τ ≡ min i j
  place_here = first_place τ used ledger ports ∙ rw p.first_found (⊎_elim
      (λ h. rw (one_port g (tokens used ledger) arrived τ h.0, h.1) (min-eq_left (omega (arith, size, p.first_within)) ∙ sym (min-eq_left (omega arith))))
      (λ h. rw h.1)
      p.second_found)

  pub operands_here : OperandPlaces ledger used i j
  operands_here = record {
    first_within = omega (arith, size, p.first_within);
    second_within = omega (arith, size, p.second_within);
    first_live = live_at_lem i p.first_within p.left;
    second_live = live_at_lem j p.second_within p.right;
    one_tag = second_tag ∙ sym first_tag;
    found = rw first_tag p.first_found;
    place = rw first_tag place_here;
  }
