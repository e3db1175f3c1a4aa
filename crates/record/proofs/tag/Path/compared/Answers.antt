-- `record::tag::Path::compared` meets its contract. Assumes nothing.
use Rattle.std.proofs.Common.{rules}
use Rattle.record.proofs.Paths.{compared_words}
use Rattle.record.proofs.tag.Path.compared.Goals as goal

pub returns : goal.returns
returns c = rw (c.then.ensures, c.cmp.ensures, c.cmp-2.ensures) (compared_words c.args.self c.args.other (search rules) (search rules))
