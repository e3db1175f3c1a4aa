-- `store_flags::unmark` meets its contract. Assumes nothing.
use Prim.Native.Nat.{ℕ}
use mathlib.Core.Path.{sym, ap, ◌∙◌}
use lib.ListN.{set}
use lib.Seq.{set-get_or}
use Rattle.store_flags.specs.Flags.{in_word, any_set}
use Rattle.store_flags.proofs.Words.{any_none, any_positive}
use Rattle.store_flags.proofs.unmark.Goals as goal

pub returns-then-after-eq0 : goal.returns-then-after-eq0
returns-then-after-eq0 c =
    let a = c.args in
    c.lowered.ensures ∙ ap (λ (x : ℕ). set (in_word a.marks) a.b x) (sym (ap any_set c.if-after-eq0.true ∙ any_none))

pub returns-else-after-eq0 : goal.returns-else-after-eq0
returns-else-after-eq0 c =
    let a = c.args in
    let one = c.requires.1 ∙ sym (any_positive a.after c.if-after-eq0.false c.ranges.after.fits) in
    sym (set-get_or (in_word a.marks) a.b 0) ∙ ap (λ (x : ℕ). set (in_word a.marks) a.b x) one
