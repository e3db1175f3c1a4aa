-- `range_arithmetic::at_corners` meets its contract. Assumes nothing.
use mathlib.Core.Path.{◌≡◌, ◌∙◌}
use mir.Syntax.{w32, w64}
use mir.Val.{SFits, to_z, of_z}
use mir.Facts.{to_z-of_z}
use Rattle.arithmetic.specs.Ranges.{outcome}
use Rattle.range_arithmetic.proofs.at_corners.Goals as goal

pub returns : goal.returns
returns c =
    let at-outcome = c.outcome-ll in
    let at-outcome2 = c.outcome-lh in
    let at-outcome3 = c.outcome-hl in
    let at-outcome4 = c.outcome-hh in
    let at-smaller = c.smaller in
    let at-smaller2 = c.smaller-2 in
    let at-smaller3 = c.smaller-low in
    let at-larger = c.larger in
    let ll : to_z w64 (of_z w64 at-outcome.result) ≡ outcome c.args.op c.args.a.low c.args.b.low =
    let f : SFits w32 c.args.a.low = record { sfits = c.struct_told-1.given.0.1 } in
    let g : SFits w32 c.args.b.low = record { sfits = c.struct_told-2-1.given.0.1 } in
    let w : SFits w64 at-outcome.result = record { sfits = at-outcome.type_inv } in
    rw (to_z-of_z w, at-outcome.ensures, to_z-of_z f, to_z-of_z g) in
    let lh : to_z w64 (of_z w64 at-outcome2.result) ≡ outcome c.args.op c.args.a.low c.args.b.high =
    let f : SFits w32 c.args.a.low = record { sfits = c.struct_told-3-1.given.0.1 } in
    let g : SFits w32 c.args.b.high = record { sfits = c.struct_told-4-1.given.1.0.1 } in
    let w : SFits w64 at-outcome2.result = record { sfits = at-outcome2.type_inv } in
    rw (to_z-of_z w, at-outcome2.ensures, to_z-of_z f, to_z-of_z g) in
    let hl : to_z w64 (of_z w64 at-outcome3.result) ≡ outcome c.args.op c.args.a.high c.args.b.low =
    let f : SFits w32 c.args.a.high = record { sfits = c.struct_told-5-1.given.1.0.1 } in
    let g : SFits w32 c.args.b.low = record { sfits = c.struct_told-6-1.given.0.1 } in
    let w : SFits w64 at-outcome3.result = record { sfits = at-outcome3.type_inv } in
    rw (to_z-of_z w, at-outcome3.ensures, to_z-of_z f, to_z-of_z g) in
    let hh : to_z w64 (of_z w64 at-outcome4.result) ≡ outcome c.args.op c.args.a.high c.args.b.high =
    let f : SFits w32 c.args.a.high = record { sfits = c.struct_told-7-1.given.1.0.1 } in
    let g : SFits w32 c.args.b.high = record { sfits = c.struct_told-8-1.given.1.0.1 } in
    let w : SFits w64 at-outcome4.result = record { sfits = at-outcome4.type_inv } in
    rw (to_z-of_z w, at-outcome4.ensures, to_z-of_z f, to_z-of_z g) in
    let s1 : SFits w64 at-smaller.result = record { sfits = at-smaller.type_inv } in
    let s2 : SFits w64 at-smaller2.result = record { sfits = at-smaller2.type_inv } in
    let s3 : SFits w64 at-smaller3.result = record { sfits = at-smaller3.type_inv } in
    let l1 : SFits w64 at-larger.result = record { sfits = at-larger.type_inv } in
    let l2 : SFits w64 c.larger-2.result = record { sfits = c.larger-2.type_inv } in
    let l3 : SFits w64 c.larger-high.result = record { sfits = c.larger-high.type_inv } in
    c.narrowed.ensures
    ∙ rw (to_z-of_z s3, at-smaller3.ensures, to_z-of_z s1, at-smaller.ensures, to_z-of_z s2, at-smaller2.ensures, to_z-of_z l3, c.larger-high.ensures, to_z-of_z l1, at-larger.ensures, to_z-of_z l2, c.larger-2.ensures, ll, lh, hl, hh)
