-- `text::line::make_path` meets its contract. Assumes nothing.
use borrow.Author.Rules.{rules}
use native.Mathlib.Omega.{arith}
use mathlib.Core.List.{[], ◌∷◌}
use lib.ListN.{length-append}
use Rattle.record.specs.Paths.{path_number, PathFits}
use Rattle.text.specs.Text.{decimal}
use Rattle.text.proofs.Paths.{path_short}
use Rattle.text.proofs.line.make_path.Goals as goal

pub put_path-requires : goal.put_path-requires
put_path-requires c =
    let f : PathFits c.args.path = record { low = search rules; high = search rules } in
    record { room = omega (arith, path_short c.args.path f, length-append (decimal (path_number c.args.path)) (32 ∷ []), c.requires) }
