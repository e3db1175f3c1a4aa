-- `text::line::put_eights` meets its contract. Assumes nothing.
use native.Mathlib.Omega.{arith}
use Rattle.text.proofs.Loosely.{first_eight, next_eight, loosely}
use Rattle.text.proofs.line.put_eights.Goals as goal

pub returns-then-count-le8 : goal.returns-then-count-le8
returns-then-count-le8 c =
    let l = c.args.out.now in
    let t = c.args.text.now in
    let at = c.args.at in
    let e1 = first_eight l t at c.put_eight.ensures in
    loosely l t at 8 (omega (arith, c.requires.0)) (omega (arith, c.requires.2, c.requires.3)) c.args.count e1 (omega (arith, c.requires.1)) (omega (arith, c.requires.3))

pub returns-then-count-le16 : goal.returns-then-count-le16
returns-then-count-le16 c =
    let l = c.args.out.now in
    let t = c.args.text.now in
    let at = c.args.at in
    let e1 = first_eight l t at c.put_eight.ensures in
    let e2 = next_eight l t at 8 e1 c.put_eight-2.ensures (omega arith) (omega arith) in
    loosely l t at 16 (omega (arith, c.requires.0)) (omega (arith, c.requires.2, c.requires.3)) c.args.count e2 (omega (arith, c.requires.1)) (omega (arith, c.requires.3))

pub returns-then-count-le24 : goal.returns-then-count-le24
returns-then-count-le24 c =
    let l = c.args.out.now in
    let t = c.args.text.now in
    let at = c.args.at in
    let e1 = first_eight l t at c.put_eight.ensures in
    let e2 = next_eight l t at 8 e1 c.put_eight-2.ensures (omega arith) (omega arith) in
    let e3 = next_eight l t at 16 e2 c.put_eight-3.ensures (omega arith) (omega arith) in
    loosely l t at 24 (omega (arith, c.requires.0)) (omega (arith, c.requires.2, c.requires.3)) c.args.count e3 (omega (arith, c.requires.1)) (omega (arith, c.requires.3))

pub returns-then-count-le32 : goal.returns-then-count-le32
returns-then-count-le32 c =
    let l = c.args.out.now in
    let t = c.args.text.now in
    let at = c.args.at in
    let e1 = first_eight l t at c.put_eight.ensures in
    let e2 = next_eight l t at 8 e1 c.put_eight-2.ensures (omega arith) (omega arith) in
    let e3 = next_eight l t at 16 e2 c.put_eight-3.ensures (omega arith) (omega arith) in
    let e4 = next_eight l t at 24 e3 c.put_eight-4.ensures (omega arith) (omega arith) in
    loosely l t at 32 (omega (arith, c.requires.0)) (omega (arith, c.requires.2, c.requires.3)) c.args.count e4 (omega (arith, c.requires.1)) (omega (arith, c.requires.3))

pub returns : goal.returns
returns c =
    let l = c.args.out.now in
    let t = c.args.text.now in
    let at = c.args.at in
    let e1 = first_eight l t at c.put_eight.ensures in
    let e2 = next_eight l t at 8 e1 c.put_eight-2.ensures (omega arith) (omega arith) in
    let e3 = next_eight l t at 16 e2 c.put_eight-3.ensures (omega arith) (omega arith) in
    let e4 = next_eight l t at 24 e3 c.put_eight-4.ensures (omega arith) (omega arith) in
    let e5 = next_eight l t at 32 e4 c.put_eight-5.ensures (omega arith) (omega arith) in
    loosely l t at 40 (omega (arith, c.requires.0)) (omega (arith, c.requires.2, c.requires.3)) c.args.count e5 (omega (arith, c.requires.1)) (omega (arith, c.requires.3))
