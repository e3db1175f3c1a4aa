-- `expression::check::all_named` meets its contract. The invariant: the first j records passed, so that the rest decides. Assumes nothing.
use Prim.Native.Nat.{ℕ, suc, ◌+◌, ◌-◌, ◌/◌, ◌<◌}
use native.Mathlib.Nat.{sub-zero}
use lib.Seq.{length-take-le, get_or-take}
use native.Mathlib.Omega.{arith}
use mathlib.Core.Bool.{Bool, true, false}
use mathlib.Core.Path.{◌≡◌, refl, sym, ap, ◌∙◌}
use mathlib.Core.List.{List}
use lib.ListN.{length, get_or, take, drop}
use borrow.Author.Tests.{eq-eqb, ne_eqb}
use Rattle.record.specs.ExpressionRecords.{term_in, expression_of}
use Rattle.record.specs.Widths.{term_width}
use Rattle.rules.specs.declared.answer.Refusal.TheVariants.{BadExpression}
use Rattle.rules.specs.Check.{demand, ◌and_then◌, in_turn}
use Rattle.rules.specs.Expression.{is_expression_length}
use Rattle.check_fields.proofs.Turns.{turn, turn_end}
use Rattle.expression.specs.Tables.{MarkedNamed}
use Rattle.expression.proofs.Terms.{length_terms, in_terms, some_terms, few_terms}
use Rattle.expression.proofs.check.all_named.Invariants.{is_named, named}
use Rattle.expression.proofs.check.all_named.Goals as goal

-- record j in turn
in_turn_lem : (s : List ℕ) (j : ℕ) → j < length s / term_width → (b : Bool) → is_named (expression_of s) j ≡ b
    → in_turn (named (expression_of s)) j (drop j (expression_of s)) ≡ demand b BadExpression j and_then in_turn (named (expression_of s)) (j + 1) (drop (j + 1) (expression_of s))
in_turn_lem s j l b e =
    turn (named (expression_of s)) (expression_of s) j (term_in s j) (omega (arith, length_terms s)) (in_terms s j l (term_in s j)) (ap (λ (q : Bool). demand q BadExpression j) e)

-- one that is not the last
by_mark : (s : List ℕ) (marks : List Bool) → is_expression_length (length s) ≡ true → MarkedNamed (expression_of s) marks → (j : ℕ) → j + 1 < length s / term_width → is_named (expression_of s) j ≡ get_or marks j false
by_mark s marks e m j l =
    rw (ne_eqb (suc j) (length (expression_of s)) (λ q. omega (arith, length_terms s)))
    (sym (m.says j (let few = few_terms (length s) e in omega arith)))

-- the marks of all but the last
module _ (s : List ℕ) (marks : List Bool) (e : is_expression_length (length s) ≡ true) (m : MarkedNamed (expression_of s) marks) where
  abbrev last : ℕ
  last = length s / term_width - 1

  many : length (take (last - 0) marks) ≡ last
  many = rw (sub-zero last) (length-take-le last marks (let few = few_terms (length s) e in let size = m.size in omega arith))

  mark_at : (j : ℕ) → j < last → get_or (take (last - 0) marks) j false ≡ get_or marks j false
  mark_at j l = rw (sub-zero last) (get_or-take last marks j false l)

pub loop-j-init : goal.loop-j-init
loop-j-init c = let l = some_terms (length c.args.expression.now) c.requires.0 in (omega arith, refl)

pub returns-then-not-is_named : goal.returns-then-not-is_named
returns-then-not-is_named c =
    let a = c.args in
    let p = c.requires in
    let l = c.loop-j in
    let n = many a.expression.now a.named.now p.0 p.1 in
    let k = mark_at a.expression.now a.named.now p.0 p.1 l.j (omega arith) in
    rw c.at.ensures (sym (l.invariant.1 ∙ in_turn_lem a.expression.now l.j (omega arith) false (by_mark a.expression.now a.named.now p.0 p.1 l.j (omega arith) ∙ sym k ∙ c.if-not-is_named.true)))

pub loop-j-preserved : goal.loop-j-preserved
loop-j-preserved c =
    let a = c.args in
    let p = c.requires in
    let l = c.loop-j in
    let n = many a.expression.now a.named.now p.0 p.1 in
    let k = mark_at a.expression.now a.named.now p.0 p.1 l.j (omega arith) in
    (omega arith, l.invariant.1 ∙ in_turn_lem a.expression.now l.j (omega arith) true (by_mark a.expression.now a.named.now p.0 p.1 l.j (omega arith) ∙ sym k ∙ c.if-not-is_named.false))

pub returns : goal.returns
returns c =
    let s = c.args.expression.now in
    let l = c.loop-j in
    let n = many s c.args.named.now c.requires.0 c.requires.1 in
    let last = in_turn_lem s l.j l.invariant.0 true (rw (eq-eqb (suc l.j) (length (expression_of s)) (omega (arith, length_terms s, l.invariant.0)))) in
    sym (l.invariant.1 ∙ last ∙ turn_end (named (expression_of s)) (expression_of s) (l.j + 1) (omega (arith, length_terms s)))
