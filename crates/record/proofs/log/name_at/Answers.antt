-- `record::log::name_at` meets its contract. Assumes nothing.
use Rattle.std.proofs.Common.{◌*◌, length, drop, arith, length-drop, get_or-drop, eq-eqb, ne_eqb, le-leb}
use borrow.Author.Tests.{lt-leb}
use Rattle.record.specs.Logs.{name_of}
use Rattle.record.specs.Widths.{log_width}
use Rattle.record.proofs.log.name_at.Goals as goal

pub returns-then-log-at-lt-WIDTH : goal.returns-then-log-at-lt-WIDTH
unfolding name_of
returns-then-log-at-lt-WIDTH c =
    let a = c.args in
    rw (lt-leb log_width (length (drop (a.i * log_width) a.log.now)) (rw length-drop (omega arith)))

pub returns-then-log-at-ne0 : goal.returns-then-log-at-ne0
unfolding name_of
returns-then-log-at-ne0 c =
    let a = c.args in
    rw (le-leb log_width (length (drop (a.i * log_width) a.log.now)) (rw length-drop (omega arith)), get_or-drop (a.i * log_width) a.log.now 17 0, ne_eqb _ _ c.if-log-at-ne0.true)

pub returns : goal.returns
unfolding name_of
returns c =
    let a = c.args in
    rw (
      le-leb log_width (length (drop (a.i * log_width) a.log.now)) (rw length-drop (omega arith)),
      get_or-drop (a.i * log_width) a.log.now 17 0,
      eq-eqb _ _ c.if-log-at-ne0.false,
      c.read.ensures,
    )
