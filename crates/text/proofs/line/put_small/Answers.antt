-- `text::line::put_small` meets its contract. Assumes nothing.
use native.Mathlib.Omega.{arith}
use Rattle.text.specs.Text.{decimal}
use Rattle.text.proofs.Decimals.{decimal_digit, two_digits, three_digits}
use Rattle.text.proofs.Lines.{both, room_end}
use Rattle.text.proofs.Fields.{two, three, long1, long2, long3}
use Rattle.text.proofs.line.put_small.Goals as goal

pub put_byte-requires : goal.put_byte-requires
put_byte-requires c = let a = c.put_byte-k.ensures in let n = c.args.n in omega (arith, long1 n, room_end (decimal n) 32 c.requires.1, a.place, a.kept)

pub returns-then-n-lt10 : goal.returns-then-n-lt10
returns-then-n-lt10 c = rw (decimal_digit c.args.n c.if-n-lt10.true) (both c.put_byte-k.ensures c.put_byte.ensures)

pub put_byte-third-requires : goal.put_byte-third-requires
put_byte-third-requires c =
    let a = c.put_byte-second.ensures in
    let n = c.args.n in omega (arith, long2 n c.if-n-lt10.false, room_end (decimal n) 32 c.requires.1, a.place, a.kept)

pub put_byte-requires-then-n-lt100 : goal.put_byte-requires-then-n-lt100
put_byte-requires-then-n-lt100 c =
    let a = both c.put_byte-second.ensures c.put_byte-third.ensures in
    let n = c.args.n in omega (arith, long2 n c.if-n-lt10.false, room_end (decimal n) 32 c.requires.1, a.place, a.kept)

pub returns-then-n-lt100 : goal.returns-then-n-lt100
returns-then-n-lt100 c =
    let n = c.args.n in
    let d = two n c.if-n-lt100.true in
    let a = rw c.entry-w.ensures at c.put_byte-second.ensures in
    let b = rw c.entry-w.ensures at c.put_byte-third.ensures in
    rw (two_digits n c.if-n-lt10.false c.if-n-lt100.true) (both (rw d.0 at a) (both (rw d.1 at b) c.put_byte-then-n-lt100.ensures))

pub put_byte-fourth-requires : goal.put_byte-fourth-requires
put_byte-fourth-requires c =
    let a = both c.put_byte-second.ensures c.put_byte-third.ensures in
    let n = c.args.n in omega (arith, long3 n c.if-n-lt100.false, room_end (decimal n) 32 c.requires.1, a.place, a.kept)

pub put_byte-requires-2 : goal.put_byte-requires-2
put_byte-requires-2 c =
    let a = both (both c.put_byte-second.ensures c.put_byte-third.ensures) c.put_byte-fourth.ensures in
    let n = c.args.n in omega (arith, long3 n c.if-n-lt100.false, room_end (decimal n) 32 c.requires.1, a.place, a.kept)

pub returns : goal.returns
returns c =
    let n = c.args.n in
    let d = three n c.if-n-lt100.false c.requires.0 in
    let a = rw c.entry-w.ensures at c.put_byte-second.ensures in
    let b = rw c.entry-w.ensures at c.put_byte-third.ensures in
    let e = rw c.entry-w.ensures at c.put_byte-fourth.ensures in
    rw (three_digits n c.if-n-lt100.false c.requires.0) (both (rw d.0 at a) (both (rw d.1 at b) (both (rw d.2 at e) c.put_byte-2.ensures)))
