-- Working definition: no public promise cites it.
-- 02, R-11: worked cases of records and of whole range runs, as tables over bytes. proofs/RangeCases has one fact over each. Assumes nothing.
use Rattle.std.specs.Prelude.{ℕ, ◌*◌, List, [], ◌∷◌, ◌++◌, ℤ, pos, negsuc}
use Rattle.record.specs.declared.tag.Tag.{Tag}
use Rattle.record.specs.Widths.{range_token_width, range_cell_width}
use Rattle.number.specs.Number.{bytes16}
use Rattle.arithmetic.specs.declared.Range.{Range}
use Rattle.machine.specs.Machine.{Content, live, spent, deferred, Token, Cell, absent, waiting, present}
use Rattle.rules.specs.Answer.{Values, values_of}
use Rattle.rules.specs.RangeRun.{encode_range, encode_range_cell, RangeResult, refused_at_once, ran_to, range_result, range_answer}
use Rattle.rules.specs.CaseRows.{to0, to1, to2, key, values, completed, hung}

abbrev between : ℤ → ℤ → Range
between l h = record { low = l; high = h }

-- at the root path and iteration
abbrev range_root : (instruction port : ℕ) → Content Range → Token Tag Range
range_root i p x = record { key = key 0 0 i p; content = x }

abbrev range_input : (instruction port : ℕ) → (low high : ℤ) → List ℕ
range_input i p l h = encode_range (range_root i p (live (between l h)))

-- ---- records in bytes: the high value stands at the end, "the cell number in both if deferred"

pub record RangeRecord : Type 0 where
  pub written : List ℕ
  pub bytes : List ℕ

-- path, iteration, port and instruction of a token at instruction 3, port 1
abbrev at_three : List ℕ
at_three = 0 ∷ 0 ∷ 0 ∷ 0 ∷ 0 ∷ 0 ∷ 0 ∷ 0 ∷ 0 ∷ 0 ∷ 0 ∷ 0 ∷ 0 ∷ 0 ∷ 0 ∷ 0 ∷ 0 ∷ 1 ∷ 3 ∷ 0 ∷ []

abbrev pub range_records : List RangeRecord
range_records =
    record { written = encode_range (range_root 3 1 (live (between (pos 5) (pos 258)))); bytes = at_three ++ 5 ∷ 0 ∷ 0 ∷ 0 ∷ 0 ∷ 0 ∷ 0 ∷ 0 ∷ 2 ∷ 1 ∷ 0 ∷ 0 ∷ [] }
    ∷ record { written = encode_range (range_root 3 1 (spent (between (negsuc 1) (pos 7)))); bytes = at_three ++ 254 ∷ 255 ∷ 255 ∷ 255 ∷ 1 ∷ 0 ∷ 0 ∷ 0 ∷ 7 ∷ 0 ∷ 0 ∷ 0 ∷ [] }
    ∷ record { written = encode_range (range_root 3 1 (deferred 258)); bytes = at_three ++ 2 ∷ 1 ∷ 0 ∷ 0 ∷ 2 ∷ 0 ∷ 0 ∷ 0 ∷ 2 ∷ 1 ∷ 0 ∷ 0 ∷ [] }
    ∷ record { written = encode_range_cell absent; bytes = 0 ∷ 0 ∷ 0 ∷ 0 ∷ 0 ∷ 0 ∷ 0 ∷ 0 ∷ 0 ∷ 0 ∷ 0 ∷ 0 ∷ [] }
    ∷ record { written = encode_range_cell waiting; bytes = 0 ∷ 0 ∷ 0 ∷ 0 ∷ 1 ∷ 0 ∷ 0 ∷ 0 ∷ 0 ∷ 0 ∷ 0 ∷ 0 ∷ [] }
    ∷ record { written = encode_range_cell (present (between (pos 2) (pos 4))); bytes = 2 ∷ 0 ∷ 0 ∷ 0 ∷ 2 ∷ 0 ∷ 0 ∷ 0 ∷ 4 ∷ 0 ∷ 0 ∷ 0 ∷ [] }
    ∷ []

-- ---- runs

-- what is lent; the answer, the tokens in order of arrival, the cells. The budget is 20, and the ledger has room for 8 records
pub record RangeCase : Type 0 where
  pub graph : List ℕ
  pub arrays : List ℕ
  pub inputs : List ℕ
  pub picks : List ℕ
  pub bound : ℕ
  pub cells : ℕ
  pub answers : Values
  pub tokens : List (Token Tag Range)
  pub left : List (Cell Range)

pub data SeenRange : Type 0 where
  ran : Values → List (Token Tag Range) → List (Cell Range) → SeenRange

unfoldable pub seen_in_ranges : RangeResult → SeenRange
seen_in_ranges (refused_at_once r p) = ran (values_of (range_answer (refused_at_once r p))) [] []
seen_in_ranges (ran_to e) = ran (values_of (range_answer (ran_to e))) e.state.tokens e.state.cells

-- by the rules
unfoldable pub seen_range : RangeCase → SeenRange
seen_range c = seen_in_ranges (range_result c.graph c.arrays c.inputs c.picks 20 c.bound (8 * range_token_width) (range_cell_width * c.cells))

-- by the table
unfoldable pub expected_range : RangeCase → SeenRange
expected_range c = ran c.answers c.tokens c.left

abbrev pub range_cases : List RangeCase
range_cases =
    -- a sum
    record {
      graph = to1 16 (pos 0) 0 1 ++ to0 3 (pos 0);
      arrays = [];
      inputs = range_input 0 0 (pos 1) (pos 3) ++ range_input 0 1 (pos 10) (pos 20);
      picks = [];
      bound = 0;
      cells = 0;
      answers = values completed 1 3 0;
      tokens = range_root 0 0 (spent (between (pos 1) (pos 3))) ∷ range_root 0 1 (spent (between (pos 10) (pos 20))) ∷ range_root 1 0 (live (between (pos 11) (pos 23))) ∷ [];
      left = [];
    }
    -- a control that may be zero or not
    ∷ record {
      graph = to2 5 (pos 0) 0 1 0 2 ++ to0 3 (pos 0) ++ to0 3 (pos 0);
      arrays = [];
      inputs = range_input 0 0 (pos 5) (pos 6) ++ range_input 0 1 (pos 0) (pos 1);
      picks = [];
      bound = 0;
      cells = 0;
      answers = values 23 0 2 0;
      tokens = range_root 0 0 (live (between (pos 5) (pos 6))) ∷ range_root 0 1 (live (between (pos 0) (pos 1))) ∷ [];
      left = [];
    }
    -- a control on both sides of 0
    ∷ record {
      graph = to2 5 (pos 0) 0 1 0 2 ++ to0 3 (pos 0) ++ to0 3 (pos 0);
      arrays = [];
      inputs = range_input 0 0 (pos 5) (pos 6) ++ range_input 0 1 (negsuc 0) (pos 1);
      picks = [];
      bound = 0;
      cells = 0;
      answers = values 23 0 2 0;
      tokens = range_root 0 0 (live (between (pos 5) (pos 6))) ∷ range_root 0 1 (live (between (negsuc 0) (pos 1))) ∷ [];
      left = [];
    }
    -- a control that is not 0
    ∷ record {
      graph = to2 5 (pos 0) 0 1 0 2 ++ to0 3 (pos 0) ++ to0 3 (pos 0);
      arrays = [];
      inputs = range_input 0 0 (pos 5) (pos 6) ++ range_input 0 1 (pos 1) (pos 2);
      picks = [];
      bound = 0;
      cells = 0;
      answers = values completed 1 3 0;
      tokens = range_root 0 0 (spent (between (pos 5) (pos 6))) ∷ range_root 0 1 (spent (between (pos 1) (pos 2))) ∷ range_root 1 0 (live (between (pos 5) (pos 6))) ∷ [];
      left = [];
    }
    -- a control that is 0
    ∷ record {
      graph = to2 5 (pos 0) 0 1 0 2 ++ to0 3 (pos 0) ++ to0 3 (pos 0);
      arrays = [];
      inputs = range_input 0 0 (pos 5) (pos 6) ++ range_input 0 1 (pos 0) (pos 0);
      picks = [];
      bound = 0;
      cells = 0;
      answers = values completed 1 3 0;
      tokens = range_root 0 0 (spent (between (pos 5) (pos 6))) ∷ range_root 0 1 (spent (between (pos 0) (pos 0))) ∷ range_root 2 0 (live (between (pos 5) (pos 6))) ∷ [];
      left = [];
    }
    -- a range is stored, and fetched before
    ∷ record {
      graph = to1 11 (pos 0) 0 1 ++ to0 2 (pos 0) ++ to1 10 (pos 0) 0 3 ++ to0 3 (pos 0);
      arrays = [];
      inputs = range_input 0 0 (pos 1) (pos 1) ++ range_input 0 1 (pos 2) (pos 4) ++ range_input 2 0 (pos 1) (pos 1);
      picks = bytes16 1;
      bound = 0;
      cells = 2;
      answers = values completed 3 5 0;
      tokens = range_root 0 0 (spent (between (pos 1) (pos 1))) ∷ range_root 0 1 (spent (between (pos 2) (pos 4))) ∷ range_root 2 0 (spent (between (pos 1) (pos 1))) ∷ range_root 3 0 (live (between (pos 2) (pos 4))) ∷ range_root 1 0 (spent (between (pos 0) (pos 0))) ∷ [];
      left = absent ∷ present (between (pos 2) (pos 4)) ∷ [];
    }
    -- nobody stores
    ∷ record {
      graph = to1 10 (pos 0) 0 1 ++ to0 3 (pos 0);
      arrays = [];
      inputs = range_input 0 0 (pos 1) (pos 1);
      picks = [];
      bound = 0;
      cells = 2;
      answers = values hung 1 2 0;
      tokens = range_root 0 0 (spent (between (pos 1) (pos 1))) ∷ range_root 1 0 (deferred 1) ∷ [];
      left = absent ∷ waiting ∷ [];
    }
    -- a cell that is not a single value
    ∷ record {
      graph = to1 10 (pos 0) 0 1 ++ to0 3 (pos 0);
      arrays = [];
      inputs = range_input 0 0 (pos 0) (pos 1);
      picks = [];
      bound = 0;
      cells = 2;
      answers = values 23 0 1 0;
      tokens = range_root 0 0 (live (between (pos 0) (pos 1))) ∷ [];
      left = absent ∷ absent ∷ [];
    }
    -- such a cell past the count
    ∷ record {
      graph = to1 10 (pos 0) 0 1 ++ to0 3 (pos 0);
      arrays = [];
      inputs = range_input 0 0 (pos 7) (pos 8);
      picks = [];
      bound = 0;
      cells = 2;
      answers = values 23 0 1 0;
      tokens = range_root 0 0 (live (between (pos 7) (pos 8))) ∷ [];
      left = absent ∷ absent ∷ [];
    }
    -- a single cell past the count
    ∷ record {
      graph = to1 10 (pos 0) 0 1 ++ to0 3 (pos 0);
      arrays = [];
      inputs = range_input 0 0 (pos 7) (pos 7);
      picks = [];
      bound = 0;
      cells = 2;
      answers = values 10 0 1 0;
      tokens = range_root 0 0 (live (between (pos 7) (pos 7))) ∷ [];
      left = absent ∷ absent ∷ [];
    }
    -- an input whose low exceeds its high
    ∷ record {
      graph = to1 16 (pos 0) 0 1 ++ to0 3 (pos 0);
      arrays = [];
      inputs = range_input 0 0 (pos 1) (pos 3) ++ range_input 0 1 (pos 20) (pos 10);
      picks = [];
      bound = 0;
      cells = 0;
      answers = values 23 0 0 1;
      tokens = [];
      left = [];
    }
    -- after 6 of all inputs
    ∷ record {
      graph = to1 1 (pos 0) 0 1 ++ to0 3 (pos 0);
      arrays = [];
      inputs = range_input 0 0 (pos 3) (pos 1) ++ range_input 9 0 (pos 1) (pos 1);
      picks = [];
      bound = 0;
      cells = 0;
      answers = values 6 0 0 1;
      tokens = [];
      left = [];
    }
    -- a divisor range that holds 0
    ∷ record {
      graph = to1 35 (negsuc 2) 0 1 ++ to1 19 (pos 0) 0 2 ++ to0 3 (pos 0);
      arrays = [];
      inputs = range_input 0 0 (pos 1) (pos 7) ++ range_input 1 1 (negsuc 0) (pos 1);
      picks = [];
      bound = 0;
      cells = 0;
      answers = values 12 1 3 1;
      tokens = range_root 0 0 (spent (between (pos 1) (pos 7))) ∷ range_root 1 1 (live (between (negsuc 0) (pos 1))) ∷ range_root 1 0 (live (between (negsuc 1) (pos 0))) ∷ [];
      left = [];
    }
    -- a constant is a single value
    ∷ record {
      graph = to1 4 (pos 7) 0 1 ++ to1 38 (pos 7) 0 2 ++ to0 3 (pos 0);
      arrays = [];
      inputs = range_input 0 0 (negsuc 8) (pos 9);
      picks = [];
      bound = 0;
      cells = 0;
      answers = values completed 2 3 0;
      tokens = range_root 0 0 (spent (between (negsuc 8) (pos 9))) ∷ range_root 1 0 (spent (between (pos 7) (pos 7))) ∷ range_root 2 0 (live (between (pos 1) (pos 1))) ∷ [];
      left = [];
    }
    -- an index of an array: cell 1 is the second of the array that starts there
    ∷ record {
      graph = to1 11 (pos 1) 0 1 ++ to0 3 (pos 0);
      arrays = bytes16 1 ++ bytes16 2;
      inputs = range_input 0 0 (pos 1) (pos 1) ++ range_input 0 1 (negsuc 0) (pos 4);
      picks = [];
      bound = 0;
      cells = 3;
      answers = values completed 1 3 0;
      tokens = range_root 0 0 (spent (between (pos 1) (pos 1))) ∷ range_root 0 1 (spent (between (negsuc 0) (pos 4))) ∷ range_root 1 0 (live (between (pos 0) (pos 0))) ∷ [];
      left = absent ∷ present (between (negsuc 0) (pos 4)) ∷ absent ∷ [];
    }
    -- one that is not a single value, and past the length as a whole
    ∷ record {
      graph = to1 10 (pos 1) 0 1 ++ to0 3 (pos 0);
      arrays = bytes16 1 ++ bytes16 2;
      inputs = range_input 0 0 (pos 3) (pos 4);
      picks = [];
      bound = 0;
      cells = 3;
      answers = values 23 0 1 0;
      tokens = range_root 0 0 (live (between (pos 3) (pos 4))) ∷ [];
      left = absent ∷ absent ∷ absent ∷ [];
    }
    -- a single one past the length
    ∷ record {
      graph = to1 10 (pos 1) 0 1 ++ to0 3 (pos 0);
      arrays = bytes16 1 ++ bytes16 2;
      inputs = range_input 0 0 (pos 3) (pos 3);
      picks = [];
      bound = 0;
      cells = 3;
      answers = values 10 0 1 0;
      tokens = range_root 0 0 (live (between (pos 3) (pos 3))) ∷ [];
      left = absent ∷ absent ∷ absent ∷ [];
    }
    -- 22 before an input whose low exceeds its high
    ∷ record {
      graph = to1 10 (pos 2) 0 1 ++ to0 3 (pos 0);
      arrays = bytes16 1 ++ bytes16 2;
      inputs = range_input 0 0 (pos 4) (pos 3);
      picks = [];
      bound = 0;
      cells = 3;
      answers = values 22 0 0 0;
      tokens = [];
      left = [];
    }
    -- 21 before 22
    ∷ record {
      graph = to1 10 (pos 2) 0 1 ++ to0 3 (pos 0);
      arrays = [];
      inputs = range_input 0 0 (pos 4) (pos 4);
      picks = [];
      bound = 1;
      cells = 3;
      answers = values 21 0 0 0;
      tokens = [];
      left = [];
    }
    -- a token that waits at iteration 0 holds a NEXT back
    ∷ record {
      graph = to1 7 (pos 0) 0 1 ++ to1 7 (pos 0) 0 2 ++ to0 3 (pos 0) ++ to1 16 (pos 0) 0 2;
      arrays = [];
      inputs = range_input 0 0 (pos 4) (pos 6) ++ range_input 3 0 (pos 1) (pos 1);
      picks = [];
      bound = 2;
      cells = 0;
      answers = values hung 1 3 0;
      tokens = range_root 0 0 (spent (between (pos 4) (pos 6))) ∷ range_root 3 0 (live (between (pos 1) (pos 1))) ∷ record { key = key 0 1 1 0; content = live (between (pos 4) (pos 6)) } ∷ [];
      left = [];
    }
    ∷ []
