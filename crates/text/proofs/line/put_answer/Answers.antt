-- `text::line::put_answer` meets its contract: the fields of the outcome and then three numbers. Assumes nothing.
use mathlib.Core.List.{List, [], ◌∷◌}
use Prim.Native.Nat.{ℕ}
use Rattle.rules.specs.Answer.{place_in}
use Rattle.rules.specs.declared.answer.Answer.{Answer}
use Rattle.text.specs.Text.{decimal, answer_line}
use Rattle.text.proofs.Lines.{both, with_rest, outcome_first}
use Rattle.text.proofs.line.put_answer.Goals as goal

-- the fields behind those of the outcome, from each on
abbrev place : Answer → List (List ℕ)
place a = decimal (place_in a.outcome) ∷ []

abbrev tokens : Answer → List (List ℕ)
tokens a = decimal a.tokens ∷ place a

abbrev firings : Answer → List (List ℕ)
firings a = decimal a.firings ∷ tokens a

pub returns : goal.returns
unfolding answer_line
returns c =
    let a = c.args.answer in
    let n = rw c.place_in.ensures at c.put_number.ensures in
    let t = with_rest (decimal (place_in a.outcome)) [] (decimal a.tokens) c.put_number-tokens.ensures n in
    let f = with_rest (decimal a.tokens) (place a) (decimal a.firings) c.put_number-firings.ensures t in
    rw (← outcome_first a.outcome (decimal a.firings) (tokens a)) (both c.put_outcome-word.ensures f)
