-- `expression::check::terms` meets its contract. The invariant: the first i records passed, so that the rest decides, and the table has what they name.
-- Assumes nothing.
use Rattle.std.proofs.Common.{Ok, Err}
use Prim.Native.Nat.{ℕ, ◌+◌, ◌/◌, ◌<◌}
use native.Mathlib.Omega.{arith}
use mathlib.Core.Bool.{Bool, true, false}
use mathlib.Core.Path.{◌≡◌, refl, sym, ap, ◌∙◌}
use mathlib.Core.List.{List, [], ◌∷◌}
use lib.ListN.{length, take, drop}
use lib.Seq.{take_all}
use Rattle.record.specs.declared.term.Term.{Term}
use Rattle.record.specs.ExpressionRecords.{term_in, expression_of}
use Rattle.record.specs.Widths.{term_width}
use Rattle.rules.specs.declared.answer.Fault.{Fault}
use Rattle.rules.specs.declared.answer.Refusal.TheVariants.{BadExpression}
use Rattle.rules.specs.Check.{demand, ◌and_then◌, in_turn, Checked}
use Rattle.rules.specs.Expression.{good_term}
use Rattle.check_fields.proofs.Turns.{turn, turn_end, take_next}
use Rattle.expression.proofs.Terms.{length_terms, in_terms, few_terms}
use Rattle.expression.proofs.Marks.{names_inside}
use Rattle.expression.proofs.check.terms.Invariants.{good}
use Rattle.expression.proofs.check.terms.Goals as goal

-- before any record nothing is named
nothing : (ts : List Term) → take 0 ts ≡ []
nothing [] = refl
nothing (t ∷ ts) = refl

-- record i in turn
in_turn_lem : (s : List ℕ) (i : ℕ) → i < length s / term_width → (t : Term) → t ≡ term_in s i → (b : Bool) → good_term (take i (expression_of s)) i t ≡ b
    → in_turn (good (expression_of s)) i (drop i (expression_of s)) ≡ demand b BadExpression i and_then in_turn (good (expression_of s)) (i + 1) (drop (i + 1) (expression_of s))
in_turn_lem s i l t told b e =
    turn (good (expression_of s)) (expression_of s) i t (omega (arith, length_terms s)) (in_terms s i l t ∙ sym told) (ap (λ (q : Bool). demand q BadExpression i) e)

not_passed : {X : Type 0} {fault : Fault} → ◌≡◌ {A = Checked} (Err fault) (Ok tt) → X
not_passed e = let z : ◌≡◌ {A = ℕ} 0 1 = cc in absurd (omega arith)

pub loop-i-init : goal.loop-i-init
loop-i-init c = let s = c.args.expression.now in (omega arith, refl, rw (nothing (expression_of s)) c.requires.1)

pub good_term-requires : goal.good_term-requires
good_term-requires c =
    let few = few_terms (length c.args.expression.now) c.requires.0 in
    omega arith

pub returns-then-not-good_term : goal.returns-then-not-good_term
returns-then-not-good_term c =
    let l = c.loop-i in
    let s = c.args.expression.now in
    let g = c.good_term.ensures (take l.i (expression_of s)) l.invariant.2 in record { value = rw c.at.ensures (sym (l.invariant.1 ∙ in_turn_lem s l.i (omega arith) _ c.read-t.ensures false (sym g ∙ c.if-not-good_term.true))); marked_named = not_passed }

pub mark-requires : goal.mark-requires
mark-requires c =
    let l = c.loop-i in
    let s = c.args.expression.now in
    let few = few_terms (length s) c.requires.0 in
    let g = c.good_term.ensures (take l.i (expression_of s)) l.invariant.2 in
    names_inside (take l.i (expression_of s)) l.i c.read-t.result (omega arith) (sym g ∙ c.if-not-good_term.false)

pub loop-i-preserved : goal.loop-i-preserved
loop-i-preserved c =
    let at-term-at = c.read-t in
    let s = c.args.expression.now in
    let l = c.loop-i in
    let x = at-term-at.result in
    let told = at-term-at.ensures in
    let g = c.good_term.ensures (take l.i (expression_of s)) l.invariant.2 in
    let low : l.i < length s / term_width = omega arith in (
      omega arith,
      l.invariant.1 ∙ in_turn_lem s l.i low x told true (sym g ∙ c.if-not-good_term.false),
      rw (take_next (expression_of s) l.i x (omega (arith, length_terms s)) (in_terms s l.i low x ∙ sym told)) (c.mark.ensures (take l.i (expression_of s)) l.invariant.2),
    )

pub returns : goal.returns
returns c =
    let s = c.args.expression.now in
    let l = c.loop-i in record { value = sym (l.invariant.1 ∙ turn_end (good (expression_of s)) (expression_of s) l.i (omega (arith, length_terms s))); marked_named = (λ e. rw (take_all l.i (expression_of s) (omega (arith, length_terms s))) at l.invariant.2) }
