-- R-14 over bytes, proved (`expressions_run`): what `to_graph` wrote is the graph's bytes, and what the run of it leaves in the ledger tells what OUT received.
-- Assumes nothing.
use Rattle.std.proofs.Common.{Ok, Err}
use Prim.Native.Nat.{ℕ, zero, suc, ◌*◌, ◌/◌, ◌<◌}
use mathlib.Core.Path.{◌≡◌, refl, sym, ap, subst, ◌∙◌}
use mathlib.Core.List.{List, [], ◌∷◌, map}
use mathlib.Core.Option.{some}
use native.Mathlib.Omega.{arith}
use lib.ListN.{length, get_or, take, length-map}
use lib.Seq.{take_at}
use lib.IntN.{ℤ}
use mir.Syntax.{w32}
use mir.Val.{SFits}
use Rattle.std.specs.Prelude.{Option, None, Some}
use Rattle.number.specs.Number.{Bytes, number32, signed_of}
use Rattle.number.proofs.Numbers.{number32_small}
use Rattle.buffer.specs.Rows.{joined, All}
use Rattle.buffer.proofs.Tables.{length_joined, length_rows, get_d_rows}
use Rattle.record.specs.declared.tag.Tag.{Tag}
use Rattle.record.specs.declared.token.Token as Record
use Rattle.record.specs.declared.term.Term.{Term}
use Rattle.record.specs.ExpressionRecords.{expression_of}
use Rattle.record.specs.GraphRecords as Graph
use Rattle.record.specs.TokensAndTags.{root_of, tokens, token_at, capacity_of}
use Rattle.record.specs.TokensAndTags as Tokens
use Rattle.record.specs.Widths.{graph_width, token_width, cell_width, value_width}
use Rattle.record.proofs.Records.{length_instruction, tokens_joined}
use Rattle.record.proofs.Fitting.{signed_fits, rows_fit, instructions_written, tokens_written}
use Rattle.machine.specs.Machine.{Key, Content, live, Token, Machine, End, Ledger, same_key, at, find, when}
use Rattle.machine.proofs.View.{none_some}
use Rattle.rules.specs.Check.{Checked}
use Rattle.rules.specs.declared.answer.Refusal.{Refusal}
use Rattle.rules.specs.declared.answer.Answer.{Answer}
use Rattle.rules.specs.Fits.{AllFit}
use Rattle.rules.specs.Run.{token_record, outcome_of, ran_to, Result, answer, ledger_after, Ran}
use Rattle.rules.specs.Runs.{LeftByRun, RanOn}
use Rattle.rules.specs.Expression.{is_variable, count, graph_for, graph_bytes, inputs_for, input_bytes, variables_of, expression_value, check_made, made_of, output_of, MadeFrom, evaluated_of, evaluated, ValuesFor, expression_machine, Received, EvaluatesExpression}
use Rattle.rules.proofs.ExpressionPassed.{Proper, passed}
use Rattle.rules.proofs.ExpressionGraph.{length_graph}
use Rattle.rules.proofs.ExpressionAccepted.{fits, inputs_fit, few_values}
use Rattle.rules.proofs.Expression.{expressions_evaluate}
use Rattle.rules.proofs.Fits.{result_fits}
use Rattle.expression.specs.Runs.{OutReceived, Gives, ExpressionsRun}
use Rattle.expression.proofs.Terms.{passed_values}

-- ---- the bytes that `to_graph` wrote

module _ (expression lent output : List ℕ) (n : ℕ) (made : MadeFrom expression (Ok (suc n)) lent output) where
  abbrev ts : List Term
  ts = expression_of expression

  record Wrote : Type 0 where
    passed : check_made expression (length lent) ≡ Ok tt
    many : n ≡ length ts
    graph : take (suc n * graph_width) output ≡ graph_bytes ts

  wrote : Wrote
  unfolding graph_bytes
  wrote = go (check_made expression (length lent)) refl made.answered made.output_left
    where
      go : (c : Checked) → check_made expression (length lent) ≡ c → Ok (suc n) ≡ made_of c (suc (length ts)) → output ≡ output_of c (graph_for ts) lent → Wrote
      go (Err fault) e a o = let z : ◌≡◌ {A = ℕ} 0 1 = cc in absurd (omega arith)
      go (Ok _) e a o =
          let same : n ≡ length ts = cc in
          let size : length (joined Graph.encode_instruction (graph_for ts)) ≡ suc n * graph_width = length_joined graph_width Graph.encode_instruction length_instruction (graph_for ts) ∙ ap (λ (m : ℕ). m * graph_width) (length_graph ts ∙ ap suc (sym same)) in
          record { passed = e; many = same; graph = ap (take (suc n * graph_width)) o ∙ take_at (joined Graph.encode_instruction (graph_for ts)) _ (suc n * graph_width) size }

-- ---- the values of the variables

length_variables : (values : List ℕ) (k : ℕ) → length values ≡ k * value_width → length (variables_of values) ≡ k
length_variables values k e = length_rows value_width (λ b. signed_of (number32 b 0)) (length values / value_width) values ∙ omega arith

values_for : (ts : List Term) (values : List ℕ) → Bytes values → length values ≡ count is_variable ts * value_width → ValuesFor ts (variables_of values)
values_for ts values b e = record {
  number = length_variables values (count is_variable ts) e;
  each = rows_fit (SFits w32) (λ l. signed_of (number32 l 0)) (λ l s. signed_fits (number32 l 0) (number32_small l s 0)) value_width (length values / value_width) values b;
}

-- ---- a token that is found stands somewhere

module _ (M : Machine) where
  found_at : (k : Key M.Tag) (x : Content M.Value) (l : Ledger M) → find M k l ≡ some x → (i : ℕ) × (i < length l) × ((d : Token M.Tag M.Value) → get_or l i d ≡ record { key = k; content = x })
  found_at k x [] e = none_some e
  found_at k x (t ∷ l) e = go (same_key M k t.key) e (λ h. found_at k x l h)
    where
      go : (q : Dec (k ≡ t.key)) → when q (some t.content) (find M k l) ≡ some x → (find M k l ≡ some x → (i : ℕ) × (i < length l) × ((d : Token M.Tag M.Value) → get_or l i d ≡ record { key = k; content = x }))
          → (i : ℕ) × (i < suc (length l)) × ((d : Token M.Tag M.Value) → get_or (t ∷ l) i d ≡ record { key = k; content = x })
      go (yes p) f rest = (0, omega arith, λ d. same p (own f))
        where
          own : some t.content ≡ some x → t.content ≡ x
          own g = cc

          same : k ≡ t.key → t.content ≡ x → t ≡ record { key = k; content = x }
          same p c = λ j. record { key = sym p j; content = c j }
      go (no p) f rest = let (i, h, g) = rest f in (suc i, omega arith, g)

-- ---- what the run leaves

module _ (e : End Refusal Tag ℤ) (lent : List ℕ) (x : LeftByRun) (answered : x.answer ≡ answer (ran_to e)) (left : x.ledger ≡ ledger_after (ran_to e) lent)
    (fit : All Tokens.TokenFits (map token_record e.state.tokens)) where
  many_tokens : x.answer.tokens ≡ length e.state.tokens
  unfolding answer
  many_tokens = ap (λ (a : Answer). a.tokens) answered

  -- record i of the ledger is token i
  token_left : (i : ℕ) → i < length e.state.tokens → (t : Token Tag ℤ) → ((d : Token Tag ℤ) → get_or e.state.tokens i d ≡ t) → token_at x.ledger i ≡ token_record t
  unfolding ledger_after
  token_left i low t there =
      let rs = map token_record e.state.tokens in
      let n : length rs ≡ length e.state.tokens = length-map e.state.tokens token_record in
      let back : tokens (length rs) x.ledger ≡ rs = ap (tokens (length rs)) left ∙ tokens_joined rs _ fit in
      sym (get_d_rows token_width Tokens.decode_token (length rs) i x.ledger (token_record t) (omega arith))
      ∙ ap (λ (ys : List Record.Token). get_or ys i (token_record t)) back ∙ mapped e.state.tokens i low ∙ ap token_record (there t)
    where
      mapped : (ts : List (Token Tag ℤ)) (i : ℕ) → i < length ts → get_or (map token_record ts) i (token_record t) ≡ token_record (get_or ts i t)
      mapped [] i l = absurd (omega arith)
      mapped (y ∷ ys) zero l = refl
      mapped (y ∷ ys) (suc i) l = mapped ys i (omega arith)

  module _ (ts : List Term) (capacity cells : ℕ) where
    out_received : (v : ℤ) → Received ts capacity cells v e → OutReceived (length ts) v x
    unfolding answer
    out_received v r =
        let M = expression_machine ts capacity cells in
        let (i, low, there) = found_at M (at M (root_of (length ts)) 0) (live v) e.state.tokens r.received in
        record {
          completed = ap (λ (a : Answer). a.outcome) answered ∙ ap outcome_of r.outcome;
          firings = ap (λ (a : Answer). a.firings) answered ∙ r.firings;
          place = i;
          used = rw many_tokens low;
          received = token_left i low (record { key = record { tag = root_of (length ts); port = 0 }; content = live v }) there;
        }

    gives : (c : Option ℤ) → EvaluatesExpression ts capacity cells c e → Gives (evaluated_of (Ok tt) c) (length ts) x
    unfolding answer
    gives (Some v) r = out_received v r
    gives None (place, r) = (place, ap (λ (a : Answer). a.outcome) answered ∙ ap outcome_of r)

-- ---- graph and inputs are bytes

graph_bytes_lem : (ts : List Term) → Proper ts → Bytes (graph_bytes ts)
unfolding graph_bytes
graph_bytes_lem ts ok = instructions_written (graph_for ts) (fits ts ok)

input_bytes_lem : (ts : List Term) → Proper ts → (vs : List ℤ) → ValuesFor ts vs → Bytes (input_bytes vs)
unfolding input_bytes
input_bytes_lem ts ok vs fit = tokens_written (inputs_for 0 vs) (inputs_fit 0 vs (let few = few_values ts ok vs fit in omega arith) fit.each)

-- ---- the run

pub expressions_run : ExpressionsRun
unfolding evaluated
expressions_run expression values lent output n made bytes passed-both l x allowed enough ran =
    let w = wrote expression lent output n made in
    let ts = expression_of expression in
    let (ok, many) = passed_values expression (length values) passed-both in
    let vs = variables_of values in
    let fit = values_for ts values bytes many in
    let (e, is, r) = expressions_evaluate expression ok vs fit l.picks (length l.ledger) (length l.cells) allowed enough in
    let ran' : Ran (ran_to e) x.answer l.ledger x.ledger l.cells x.cells =
    subst (λ (q : Result). Ran q x.answer l.ledger x.ledger l.cells x.cells) is
    (subst (λ (g : List ℕ). RanOn g [] (input_bytes vs) 2048 l x) w.graph ran) in
    let all = result_fits (graph_bytes ts) [] (input_bytes vs) l.picks 2048 (length l.ledger) (length l.cells) (graph_bytes_lem ts (passed expression ok)) (input_bytes_lem ts (passed expression ok) vs fit) in
    let small = subst (λ (q : Result). AllFit q (capacity_of (length l.ledger)) (length l.cells / cell_width)) is all in
    rw (passed-both, w.many)
    (gives e l.ledger x ran'.answered ran'.ledger_left small.tokens ts (capacity_of (length l.ledger)) (length l.cells / cell_width) (expression_value ts vs) r)
