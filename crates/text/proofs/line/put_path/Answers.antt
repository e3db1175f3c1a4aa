-- `text::line::put_path` meets its contract: the lower word alone, or as many digits as the path has. Assumes nothing.
use native.Mathlib.Omega.{arith}
use mathlib.Core.List.{[], ◌∷◌}
use Rattle.record.specs.Paths.{path_number}
use Rattle.text.proofs.Decimals.{all_digits}
use Rattle.text.proofs.Paths.{lower_only}
use Rattle.text.proofs.Lines.{both, room_rest}
use Rattle.text.proofs.line.put_path.Goals as goal

pub put_number-requires : goal.put_number-requires
put_number-requires c = rw (← lower_only c.args.path c.if-path-eq0.true) c.requires

pub returns-then-path-eq0 : goal.returns-then-path-eq0
returns-then-path-eq0 c = rw (lower_only c.args.path c.if-path-eq0.true) c.put_number.ensures

pub put_byte-requires : goal.put_byte-requires
put_byte-requires c =
    let n = path_number c.args.path in
    let put = rw (c.path_digits.ensures, all_digits n) at c.put_path_digits-k.ensures in
    omega (arith, (room_rest (c.args.end ∷ []) put c.requires).room)

pub returns : goal.returns
returns c =
    let n = path_number c.args.path in
    let put = rw (c.path_digits.ensures, all_digits n) at c.put_path_digits-k.ensures in
    both put c.put_byte.ensures
