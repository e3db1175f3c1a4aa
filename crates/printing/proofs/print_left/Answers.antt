-- `printing::print_left` meets its contract: what is listed is the used records. Assumes nothing.
use Prim.Native.Nat.{ℕ}
use mathlib.Core.Path.{ap, ◌∙◌}
use mathlib.Core.List.{List}
use native.Mathlib.Omega.{arith}
use Rattle.text.specs.Text.{printed, printed_of, printed_out}
use Rattle.listing.proofs.Answers.{result_done}
use Rattle.printing.proofs.Left.{used_lengths, listed}
use Rattle.printing.proofs.print_left.Goals as goal

pub unwrap-requires : goal.unwrap-requires
unwrap-requires c =
    let a = c.args in
    rw (c.list.ensures.answered, result_done _ _ (used_lengths a.ledger.now a.sorted.now a.answer.tokens c.requires.0 (omega (arith, c.requires.1)) (omega (arith, c.requires.1, c.requires.2))))

pub returns : goal.returns
returns c =
    let p = c.print.ensures in
    let l = c.list.ensures in
    let a = c.args in
    let e = listed a.ledger.now a.sorted.now _ _ a.answer.tokens c.requires.0 (omega (arith, c.requires.1)) (omega (arith, c.requires.1, c.requires.2)) l.out_after in record { value = p.value ∙ ap (λ (z : List ℕ). printed_of (printed a.answer z a.cells.now) a.out.now) e; out_after = p.out_after ∙ ap (λ (z : List ℕ). printed_out (printed a.answer z a.cells.now) a.out.now) e }
