-- `range_output::with_high` meets its contract. Assumes nothing.
use mathlib.Core.Path.{◌≡◌, sym, ap, ◌∙◌}
use Prim.Native.Nat.{ℕ, ◌+◌}
use borrow.Author.Rules.{rules}
use lib.ListN.{length, length-replicate}
use Rattle.range_table.proofs.Bytes.{low_first}
use Rattle.range_output.proofs.Written.{at_end}
use Rattle.range_output.proofs.with_high.Goals as goal

pub returns : goal.returns
returns g c =
    let size : length c.args.plain.now ≡ g.row.P = search rules in
    let whole = ap (λ (n : ℕ). n + 4) size ∙ c.requires ∙ sym (length-replicate g.row.N 0) in
    c.write_at-2.ensures ∙ rw (c.write_at.ensures, c.to_le_bytes.ensures ∙ low_first c.args.high, ← size) (at_end _ c.args.plain.now _ whole)
