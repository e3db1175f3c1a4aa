-- `fire::fire` meets its contract: what each of the five steps gives, joined by proofs/Steps. Assumes nothing.
use mir.Syntax.{w32}
use mir.Val.{SFits}
use mir.Facts.{to_z-of_z}
use borrow.Author.Rules.{rules}
use Rattle.store.proofs.Laws.{matching_known}
use Rattle.fire_effect.proofs.Passed.{ready}
use Rattle.fire_commit.proofs.Laws.{passed_on}
use Rattle.fire.proofs.Place.{earliest_here}
use Rattle.fire.proofs.Steps.{room, inside, matched_here, lent_here, kept_here, operation_refused, tags_refused, fits_commit, stepped_here}
use Rattle.fire.proofs.fire.Goals as goal

pub read-t-requires : goal.read-t-requires
read-t-requires g c =
    room _ c.requires.0 c.requires.1 c.args.place c.requires.2

pub operands_of-matched-requires : goal.operands_of-matched-requires
operands_of-matched-requires g c =
    (matching_known c.requires.1.matching, earliest_here c.requires.0 c.requires.1 c.args.place c.requires.2 c.requires.3 c.read-t.result c.arity-arity.result c.read-t.ensures c.arity-arity.ensures)

pub read-r-requires : goal.read-r-requires
read-r-requires g c =
    inside _ c.requires.0 c.requires.1 c.args.place c.requires.2 c.read-t.result c.read-t.ensures

pub operate-requires : goal.operate-requires
operate-requires g c = c.requires.4

pub returns-in_err-action : goal.returns-in_err-action
returns-in_err-action g c =
    let found = matched_here _ c.requires.0 c.requires.1 c.args.place c.requires.2 c.read-t.result c.arity-arity.result _ c.read-t.ensures c.arity-arity.ensures c.operands_of-matched.ensures in
    let left_fits : SFits w32 c.operands_of-matched.result.left = search rules in
    let right_fits : SFits w32 c.operands_of-matched.result.right = search rules in
    let constant_fits : SFits w32 c.read-r.result.constant = search rules in
    let did = rw (to_z-of_z constant_fits, to_z-of_z left_fits, to_z-of_z right_fits) at c.operate.ensures in
    record {
      stepped = rw (passed_on _ _ c.from_residual.ensures) (operation_refused _ c.requires.0 c.requires.1 c.args.place c.requires.2 c.read-t.result c.read-t.ensures _ _ _ found _ _ c.read-r.ensures c.from-o.ensures c.args.by.now (g.met.O.Operate.in_turn c.args.by.now) (g.met.O.Operate.sound c.args.by.now) did.gives c.in_err-action.was);
      kept = kept_here _ c.requires.0 c.requires.1 c.args.place c.requires.2 c.read-t.result c.read-t.ensures _ _ _ found _ _ c.read-r.ensures c.from-o.ensures c.args.by.now (g.met.O.Operate.in_turn c.args.by.now) (g.met.O.Operate.sound c.args.by.now) did.keeps;
    }

pub new_tags-requires : goal.new_tags-requires
new_tags-requires g c =
    let in_graph = inside _ c.requires.0 c.requires.1 c.args.place c.requires.2 c.read-t.result c.read-t.ensures in
    rw (c.from-o.ensures, c.read-r.ensures) (ready _ _ in_graph _ c.requires.0.passed c.requires.0.returns_right)

pub returns-in_err-outputs : goal.returns-in_err-outputs
returns-in_err-outputs g c =
    let found = matched_here _ c.requires.0 c.requires.1 c.args.place c.requires.2 c.read-t.result c.arity-arity.result _ c.read-t.ensures c.arity-arity.ensures c.operands_of-matched.ensures in
    let left_fits : SFits w32 c.operands_of-matched.result.left = search rules in
    let right_fits : SFits w32 c.operands_of-matched.result.right = search rules in
    let constant_fits : SFits w32 c.read-r.result.constant = search rules in
    let did = rw (to_z-of_z constant_fits, to_z-of_z left_fits, to_z-of_z right_fits) at c.operate.ensures in
    let control_fits : SFits w32 c.control-control.result = search rules in
    let made = rw (to_z-of_z control_fits, c.control-control.ensures, to_z-of_z right_fits) at c.new_tags.ensures in
    record {
      stepped = rw (passed_on _ _ c.from_residual-in_err-outputs.ensures) (tags_refused _ c.requires.0 c.requires.1 c.args.place c.requires.2 c.read-t.result c.read-t.ensures _ _ _ found _ _ c.read-r.ensures c.from-o.ensures c.args.by.now (g.met.O.Operate.in_turn c.args.by.now) (g.met.O.Operate.sound c.args.by.now) did.gives c.in_ok-action.was made c.in_err-outputs.was);
      kept = kept_here _ c.requires.0 c.requires.1 c.args.place c.requires.2 c.read-t.result c.read-t.ensures _ _ _ found _ _ c.read-r.ensures c.from-o.ensures c.args.by.now (g.met.O.Operate.in_turn c.args.by.now) (g.met.O.Operate.sound c.args.by.now) did.keeps;
    }

pub commit-requires : goal.commit-requires
commit-requires g c =
    let found = matched_here _ c.requires.0 c.requires.1 c.args.place c.requires.2 c.read-t.result c.arity-arity.result _ c.read-t.ensures c.arity-arity.ensures c.operands_of-matched.ensures in
    let left_fits : SFits w32 c.operands_of-matched.result.left = search rules in
    let right_fits : SFits w32 c.operands_of-matched.result.right = search rules in
    let constant_fits : SFits w32 c.read-r.result.constant = search rules in
    let did = rw (to_z-of_z constant_fits, to_z-of_z left_fits, to_z-of_z right_fits) at c.operate.ensures in
    let control_fits : SFits w32 c.control-control.result = search rules in
    let made = rw (to_z-of_z control_fits, c.control-control.ensures, to_z-of_z right_fits) at c.new_tags.ensures in
    (lent_here _ c.requires.0 c.requires.1 c.args.place c.requires.2 c.requires.3 _ _ _ found, fits_commit _ c.requires.0 c.requires.1 c.args.place c.requires.2 c.read-t.result c.read-t.ensures _ _ _ found _ _ c.read-r.ensures c.from-o.ensures c.args.by.now (g.met.O.Operate.in_turn c.args.by.now) (g.met.O.Operate.sound c.args.by.now) did.gives c.in_ok-action.was made c.in_ok-outputs.was)

pub returns : goal.returns
returns g c =
    let found = matched_here _ c.requires.0 c.requires.1 c.args.place c.requires.2 c.read-t.result c.arity-arity.result _ c.read-t.ensures c.arity-arity.ensures c.operands_of-matched.ensures in
    let left_fits : SFits w32 c.operands_of-matched.result.left = search rules in
    let right_fits : SFits w32 c.operands_of-matched.result.right = search rules in
    let constant_fits : SFits w32 c.read-r.result.constant = search rules in
    let did = rw (to_z-of_z constant_fits, to_z-of_z left_fits, to_z-of_z right_fits) at c.operate.ensures in
    let control_fits : SFits w32 c.control-control.result = search rules in
    let made = rw (to_z-of_z control_fits, c.control-control.ensures, to_z-of_z right_fits) at c.new_tags.ensures in
    record {
      stepped = stepped_here _ c.requires.0 c.requires.1 c.args.place c.requires.2 c.read-t.result c.read-t.ensures _ _ _ found _ _ c.read-r.ensures c.from-o.ensures c.args.by.now (g.met.O.Operate.in_turn c.args.by.now) (g.met.O.Operate.sound c.args.by.now) did.gives c.in_ok-action.was made c.in_ok-outputs.was _ _ _ _ c.commit.result c.commit.ensures;
      kept = kept_here _ c.requires.0 c.requires.1 c.args.place c.requires.2 c.read-t.result c.read-t.ensures _ _ _ found _ _ c.read-r.ensures c.from-o.ensures c.args.by.now (g.met.O.Operate.in_turn c.args.by.now) (g.met.O.Operate.sound c.args.by.now) did.keeps;
    }
