-- `fire_commit::commit` meets its contract. Assumes nothing.
use mathlib.Core.Path.{sym, ◌∙◌}
use Rattle.store.proofs.Laws.{matching_known, matching_few}
use Rattle.fire_commit.proofs.Laws.{admitted_room, second_write_lem, act_refused, act_done, left_refused, left_done, passed_on}
use Rattle.fire_commit.proofs.commit.Goals as goal

pub writes_again-requires : goal.writes_again-requires
writes_again-requires c = c.requires.1.2

pub returns-then-writes_again : goal.returns-then-writes_again
returns-then-writes_again c = left_refused c.requires.0 (second_write_lem _ _ _ _ _ c.args.action c.args.sent ((sym c.writes_again.ensures ∙ c.if-writes_again.true)))

pub admit-requires : goal.admit-requires
admit-requires c =
    let m = c.requires.0.matching in
    (matching_known m, matching_few m, c.requires.1.0, c.requires.1.1)

pub returns-in_err-first : goal.returns-in_err-first
returns-in_err-first c =
    rw (passed_on _ _ c.from_residual.ensures)
    (left_refused c.requires.0 (act_refused _ _ _ _ _ c.args.action c.args.sent (sym c.writes_again.ensures ∙ c.if-writes_again.false) (rw c.in_err-first.was at c.admit.ensures)))

pub carry_out-requires : goal.carry_out-requires
carry_out-requires c =
    let a = c.args in
    let f = c.requires.1 in
    let yes = (rw c.in_ok-first.was at c.admit.ensures) in
    (c.requires.0, admitted_room _ a.used a.ledger.now a.sent yes.0, f.0, f.1, f.2, yes.1)

pub returns : goal.returns
returns c =
    let e = c.carry_out.ensures in
    left_done c.args.used
    (act_done _ _ _ _ _ c.args.action c.args.sent ((sym c.writes_again.ensures ∙ c.if-writes_again.false)) ((rw c.in_ok-first.was at c.admit.ensures)).0)
    e.0
    e.1
    e.2
