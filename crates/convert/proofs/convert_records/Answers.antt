-- `convert::convert_records` meets its contract. Assumes nothing.
use Prim.Native.Nat.{◌+◌}
use borrow.Author.Rules.{rules}
use borrow.Author.Tests.{eqb-true}
use mathlib.Core.Path.{sym, ◌∙◌}
use lib.ListN.{length}
use Rattle.buffer.specs.Rows.{whole}
use Rattle.record.specs.TokensAndTags.{most_tokens}
use Rattle.rules.proofs.Passed.{both}
use Rattle.convert.specs.Convert.{convert_accepted, convert_result, converted_out}
use Rattle.convert.proofs.convert_records.Goals as goal

pub put_records-requires : goal.put_records-requires
unfolding convert_result converted_out convert_accepted
put_records-requires c = let e = sym c.accepts.ensures ∙ c.if-accepts.true in eqb-true _ _ (both (whole (8 + c.args.layout.rest) most_tokens (length c.args.old.now)) _ e).1

pub returns-then-accepts : goal.returns-then-accepts
unfolding convert_result converted_out convert_accepted
returns-then-accepts c =
    let e = sym c.accepts.ensures ∙ c.if-accepts.true in
    record { answered = rw e; written = rw e c.put_records.ensures }

pub returns-else-accepts : goal.returns-else-accepts
unfolding convert_result converted_out convert_accepted
returns-else-accepts c =
    let e = sym c.accepts.ensures ∙ c.if-accepts.false in
    record { answered = rw e; written = rw e }
