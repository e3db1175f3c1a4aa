-- `ending::ending` meets its contract. The loop's invariant: the tokens from record i on are proper. The measure is how many are left. Assumes nothing.
use Prim.Native.Nat.{suc, ◌-◌, ◌≤◌}
use mathlib.Core.Path.{◌≡◌, sym, ap, ◌∙◌}
use native.Mathlib.Omega.{arith}
use lib.ListN.{length, drop_of_length-le}
use Rattle.record.specs.TokensAndTags.{tokens, decode_token}
use Rattle.record.specs.Widths.{token_width}
use Rattle.buffer.proofs.Tables.{length_rows}
use Rattle.ending.proofs.Laws.{all_by, ends_completed, ends_hung, pass_on, stop_here, pass_four}
use Rattle.ending.proofs.ending.Goals as goal

pub loop-i-init : goal.loop-i-init
loop-i-init c =
    let ts = tokens c.args.used c.args.ledger.now in
    let past : length ts ≤ c.args.used = omega (arith, length_rows token_width decode_token c.args.used c.args.ledger.now) in
    (omega arith, ap (all_by c.args.tables.now) (drop_of_length-le ts past))

pub loop-i-preserved-then-four_spent : goal.loop-i-preserved-then-four_spent
loop-i-preserved-then-four_spent c =
    let a = c.args in
    let p = pass_four a.tables.now a.ledger.now a.used c.loop-i.i c.loop-i.invariant.0 (sym c.four_spent.ensures ∙ c.if-four_spent.true) c.loop-i.invariant.1 in
    (omega (arith, c.loop-i.invariant.0), p)

pub returns-then-not-proper_at : goal.returns-then-not-proper_at
returns-then-not-proper_at c =
    let a = c.args in
    let next : suc (c.loop-i.i - 1) ≡ c.loop-i.i = omega arith in
    ends_hung a.tables.now (tokens a.used a.ledger.now) (stop_here _ _ a.used _ _ next c.loop-i.invariant.0 (sym c.proper_at.ensures ∙ c.if-not-proper_at.true))

pub loop-i-preserved : goal.loop-i-preserved
loop-i-preserved c =
    let a = c.args in
    let next : suc (c.loop-i.i - 1) ≡ c.loop-i.i = omega arith in
    (omega arith, pass_on a.tables.now a.ledger.now a.used _ _ next c.loop-i.invariant.0 c.loop-i.invariant.1 (sym c.proper_at.ensures ∙ c.if-not-proper_at.false))

pub returns : goal.returns
returns c =
    let a = c.args in
    let none : c.loop-i.i ≡ 0 = omega arith in
    ends_completed a.tables.now (tokens a.used a.ledger.now) (rw none at c.loop-i.invariant.1)
