-- `record::tag::Tag::leave` meets its contract. Assumes nothing.
use Rattle.std.proofs.Common.{sym, ◌∙◌, rules}
use Rattle.record.specs.Calls.{leave_of}
use Rattle.record.proofs.Paths.{lowered_fits, left_words, left_site, left_iteration}
use Rattle.record.proofs.tag.Tag.leave.Goals as goal

pub returns-then-is_root : goal.returns-then-is_root
unfolding leave_of
returns-then-is_root c = rw (sym c.is_root.ensures ∙ c.if-is_root.true)

pub returns-else-is_root : goal.returns-else-is_root
unfolding leave_of
returns-else-is_root c =
    let path = c.args.self.path in
    rw (sym c.is_root.ensures ∙ c.if-is_root.false, left_words path (search rules), left_site path, left_iteration path)
