-- `range_output::put_tokens` meets its contract. The invariant: the first i records are written. Assumes nothing.
use Rattle.record.specs.TokensAndTags as Records
use Rattle.record.specs.Widths.{token_width, range_token_width}
use Rattle.rules.specs.RangeRun.{encode_range}
use Rattle.range_output.specs.Left.{token_meant}
use Rattle.range_output.proofs.Written.{Passed, length_token}
use Rattle.range_output.proofs.put_tokens.Given as goal

abbrev pub invariant-loop-i : goal.invariant-loop-i
invariant-loop-i l = Passed token_width Records.decode_token (token_meant l.table) range_token_width encode_range length_token l.used l.ledger l.initial.out l.out l.i
