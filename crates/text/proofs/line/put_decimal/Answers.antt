-- `text::line::put_decimal` meets its contract. Assumes nothing.
use native.Mathlib.Omega.{arith}
use mathlib.Core.Path.{◌≡◌, ap}
use lib.ListN.{length}
use Rattle.text.specs.Text.{decimal}
use Rattle.text.proofs.Decimals.{decimal_digit, two_digits, three_digits, all_digits}
use Rattle.text.proofs.Lines.{both}
use Rattle.text.proofs.line.put_decimal.Goals as goal

pub put_byte-requires : goal.put_byte-requires
put_byte-requires c =
    let a = c.args in
    let e : length (decimal a.n) ≡ 1 = ap length (decimal_digit a.n c.if-n-lt10.true) in
    omega (arith, e, c.requires.room)

pub returns-then-n-lt10 : goal.returns-then-n-lt10
returns-then-n-lt10 c = rw (decimal_digit c.args.n c.if-n-lt10.true) c.put_byte.ensures

pub put_byte-tens-requires : goal.put_byte-tens-requires
put_byte-tens-requires c =
    let a = c.args in
    let e : length (decimal a.n) ≡ 2 = ap length (two_digits a.n (omega arith) (omega arith)) in
    omega (arith, e, c.requires.room)

pub put_byte-requires-then-n-lt100 : goal.put_byte-requires-then-n-lt100
put_byte-requires-then-n-lt100 c =
    let at-put-byte2 = c.put_byte-tens in
    let a = c.args in
    let e : length (decimal a.n) ≡ 2 = ap length (two_digits a.n (omega arith) (omega arith)) in
    omega (arith, e, c.requires.room, at-put-byte2.ensures.place, at-put-byte2.ensures.kept)

pub returns-then-n-lt100 : goal.returns-then-n-lt100
returns-then-n-lt100 c =
    let n = c.args.n in
    rw (two_digits n (omega arith) (omega arith)) (both c.put_byte-tens.ensures c.put_byte-then-n-lt100.ensures)

pub put_byte-hundreds-requires : goal.put_byte-hundreds-requires
put_byte-hundreds-requires c =
    let a = c.args in
    let e : length (decimal a.n) ≡ 3 = ap length (three_digits a.n (omega arith) (omega arith)) in
    omega (arith, e, c.requires.room)

pub put_byte-tens-requires-then-n-lt1000 : goal.put_byte-tens-requires-then-n-lt1000
put_byte-tens-requires-then-n-lt1000 c =
    let at-put-byte4 = c.put_byte-hundreds in
    let a = c.args in
    let e : length (decimal a.n) ≡ 3 = ap length (three_digits a.n (omega arith) (omega arith)) in
    omega (arith, e, c.requires.room, at-put-byte4.ensures.place, at-put-byte4.ensures.kept)

pub put_byte-requires-then-n-lt1000 : goal.put_byte-requires-then-n-lt1000
put_byte-requires-then-n-lt1000 c =
    let at-put-byte4 = c.put_byte-hundreds in
    let at-put-byte5 = c.put_byte-tens-then-n-lt1000 in
    let a = c.args in
    let e : length (decimal a.n) ≡ 3 = ap length (three_digits a.n (omega arith) (omega arith)) in
    omega (arith, e, c.requires.room, at-put-byte4.ensures.place, at-put-byte4.ensures.kept, at-put-byte5.ensures.place, at-put-byte5.ensures.kept)

pub returns-then-n-lt1000 : goal.returns-then-n-lt1000
returns-then-n-lt1000 c =
    let n = c.args.n in
    rw (three_digits n (omega arith) (omega arith)) (both c.put_byte-hundreds.ensures (both c.put_byte-tens-then-n-lt1000.ensures c.put_byte-then-n-lt1000.ensures))

pub returns : goal.returns
returns c =
    let n = c.args.n in
    rw (c.digits.ensures, all_digits n) at c.put_last_digits.ensures
