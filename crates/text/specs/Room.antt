-- Working definition: no public promise cites it.
-- The length of a text: what its lines have at most, and what an answer holds, as a machine has it, where that is said of the first. Assumes nothing.
use Rattle.std.specs.Prelude.{ℕ, ◌+◌, ◌*◌, ◌/◌, ◌^◌, ◌<◌, List, length}
use Rattle.record.specs.Widths.{token_width, cell_width}
use Rattle.rules.specs.Answer.{place_in}
use Rattle.rules.specs.declared.answer.Answer.{Answer}

pub record AnswerFits (a : Answer) : Type 0 where
  pub firings : a.firings < 2 ^ 64
  pub tokens : a.tokens < 2 ^ 64
  pub place : place_in a.outcome < 2 ^ 64

-- the most bytes that the lines of tokens and cells take: 75 a token and 46 a cell, with 39 digits to a path and 20 to a number of 64 bits
abbrev pub most_bytes_of : (listing cells : List ℕ) → ℕ
most_bytes_of listing cells = length listing / token_width * 75 + length cells / cell_width * 46
