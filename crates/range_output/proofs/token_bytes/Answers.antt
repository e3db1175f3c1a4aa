-- `range_output::token_bytes` meets its contract. Assumes nothing.
use mathlib.Core.Path.{◌≡◌, refl, ◌∙◌}
use mathlib.Core.List.{List, ◌++◌}
use Rattle.number.specs.Number.{bytes32}
use Rattle.record.specs.declared.token.Content.{Content}
use Rattle.record.specs.declared.token.Content.TheVariants.{Live, Spent, Deferred}
use Rattle.record.specs.declared.token.Token.{Token}
use Rattle.record.specs.TokensAndTags as Tokens
use Rattle.arithmetic.specs.declared.Range.{Range}
use Rattle.rules.specs.RangeRun.{encode_range}
use Rattle.range_output.specs.Left.{ends_of, token_meant}
use Rattle.range_output.proofs.token_bytes.Goals as goal

-- by the content
in_ends : (t : List Range) (u : Token) (x : Content) → u.content ≡ x
    → Tokens.encode_token (record { tag = u.tag; port = u.port; content = (ends_of t x).low }) ++ bytes32 (ends_of t x).high ≡ encode_range (token_meant t (record { tag = u.tag; port = u.port; content = x }))
unfolding ends_of encode_range
in_ends t u (Live h) e = refl
in_ends t u (Spent h) e = refl
in_ends t u (Deferred c) e = refl

pub returns : goal.returns
returns c = c.with_high.ensures ∙ rw (c.encode-plain.ensures.0, c.ends_of-e.ensures) (in_ends _ c.args.t _ refl)
