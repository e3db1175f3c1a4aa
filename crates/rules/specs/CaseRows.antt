-- How the rows of worked cases are written: graph records, tokens and answers in short; a case, with what the rules give of it and what its row says. Assumes nothing.
use Rattle.std.specs.Prelude.{ℕ, suc, ◌*◌, List, [], ◌∷◌, ◌++◌, ℤ, pos}
use Rattle.std.specs.Prelude as Std
use Rattle.record.specs.declared.tag.Tag.{Tag}
use Rattle.number.specs.Number.{bits_of, bytes16, bytes32}
use Rattle.record.specs.GraphRecords.{graph_of}
use Rattle.record.specs.Paths.{path_words}
use Rattle.record.specs.TokensAndTags as Tokens
use Rattle.record.specs.Widths.{token_width, cell_width}
use Rattle.machine.specs.Steps.{StepRecord}
use Rattle.machine.specs.Machine.{Key, Content, live, Token, Cell, absent, waiting, present, Effect}
use Rattle.rules.specs.declared.answer.Refusal.{Refusal}
use Rattle.rules.specs.declared.answer.Fault.{Fault}
use Rattle.rules.specs.declared.answer.Needs.{Needs}
use Rattle.rules.specs.Answer.{Values, values_of}
use Rattle.rules.specs.InstructionSet.{effect_in}
use Rattle.rules.specs.Run.{token_record, Result, refused_at_once, ran_to, result, answer}
use Rattle.rules.specs.Profile.{ProfileResult, profiled}
use Rattle.rules.specs.Log.{LogResult, logged, log_after, replayed}
use Rattle.rules.specs.Needs.{needs}

-- ---- how the rows are written

-- a graph record: operation, constant, then the port and the instruction of each destination
abbrev pub to0 : (code : ℕ) → ℤ → List ℕ
to0 code k = code ∷ 0 ∷ 0 ∷ 0 ∷ bytes32 0 ++ bytes32 (bits_of k) ++ bytes32 0

abbrev pub to1 : (code : ℕ) → ℤ → (port instruction : ℕ) → List ℕ
to1 code k p i = code ∷ 1 ∷ p ∷ 0 ∷ bytes16 i ++ bytes16 0 ++ bytes32 (bits_of k) ++ bytes32 0

abbrev pub to2 : (code : ℕ) → ℤ → (port1 instruction1 port2 instruction2 : ℕ) → List ℕ
to2 code k p i q j = code ∷ 2 ∷ p ∷ q ∷ bytes16 i ++ bytes16 j ++ bytes32 (bits_of k) ++ bytes32 0

abbrev pub key : (path iteration instruction port : ℕ) → Key Tag
key path n i p = record { tag = record { path = path_words path; iteration = n; instruction = i }; port = p }

abbrev pub token : (path iteration instruction port : ℕ) → Content ℤ → Token Tag ℤ
token path n i p x = record { key = key path n i p; content = x }

-- at the root path and iteration
abbrev pub root : (instruction port : ℕ) → Content ℤ → Token Tag ℤ
root i p x = token 0 0 i p x

abbrev pub input : (instruction port : ℕ) → ℤ → List ℕ
input i p v = Tokens.encode_token (token_record (root i p (live v)))

abbrev pub values : (word firings tokens place : ℕ) → Values
values w f t p = record { word = w; firings = f; tokens = t; place = p }

-- the words of an answer: a refusal is its number
abbrev pub completed : ℕ
completed = 0

abbrev pub spent_word : ℕ
spent_word = 100

abbrev pub hung : ℕ
hung = 101

-- 0 is the operation, of two operands, to 1 port 0; 1 is OUT
abbrev pub binary : (code : ℕ) → List ℕ
binary code = to1 code (pos 0) 0 1 ++ to0 3 (pos 0)

abbrev pub operand_inputs : ℤ → ℤ → List ℕ
operand_inputs a b = input 0 0 a ++ input 0 1 b

-- ---- a case

-- a cell that is not absent, with its number
pub data NumberedCell : Type 0 where
  cell : (number : ℕ) → Cell ℤ → NumberedCell

pub data Case : Type 0 where
  -- a run: what is lent; the answer, the tokens of the ledger in order of arrival, the cells that are not absent
  running : (graph inputs picks : List ℕ) → (budget capacity cells : ℕ) → Values → List (Token Tag ℤ) → List NumberedCell → Case
  -- a run with a table of arrays: what is lent, with the records of the table; the answer, the tokens, the cells that are not absent
  naming : (graph arrays inputs : List ℕ) → (cells : ℕ) → Values → List (Token Tag ℤ) → List NumberedCell → Case
  -- a profile of `lent` bytes: what is lent; the answer, its records, the tokens
  profiling : (graph inputs : List ℕ) → (capacity cells lent : ℕ) → Values → List StepRecord → List (Token Tag ℤ) → Case
  -- a run with a log of `lent` bytes: what is lent; the answer, the log's bytes
  logging : (graph inputs picks : List ℕ) → (budget lent : ℕ) → Values → List ℕ → Case
  -- a replay: what is lent; the answer
  replaying : (graph inputs log : List ℕ) → Values → Case
  -- a graph and its inputs: what it will need, before it runs
  needing : (graph inputs : List ℕ) → Std.Result Needs Fault → Case
  -- a firing at a tag: what is given; the effect
  firing : (graph : List ℕ) → (cells : ℕ) → Tag → (a b : ℤ) → Effect Refusal Tag ℤ → Case

pub data Seen : Type 0 where
  ran : Values → List (Token Tag ℤ) → List NumberedCell → Seen
  plotted : Values → List StepRecord → List (Token Tag ℤ) → Seen
  wrote : Values → List ℕ → Seen
  again : Values → Seen
  needed : Std.Result Needs Fault → Seen
  did : Effect Refusal Tag ℤ → Seen

unfoldable pub cells_written : ℕ → List (Cell ℤ) → List NumberedCell
cells_written i [] = []
cells_written i (absent ∷ xs) = cells_written (suc i) xs
cells_written i (waiting ∷ xs) = cell i waiting ∷ cells_written (suc i) xs
cells_written i (present v ∷ xs) = cell i (present v) ∷ cells_written (suc i) xs

unfoldable pub seen_in : Result → Seen
seen_in (refused_at_once r p) = ran (values_of (answer (refused_at_once r p))) [] []
seen_in (ran_to e) = ran (values_of (answer (ran_to e))) e.state.tokens (cells_written 0 e.state.cells)

unfoldable pub seen_steps : ProfileResult → Seen
seen_steps x = plotted (values_of (answer x.result)) x.records (held x.result)
  where
    held : Result → List (Token Tag ℤ)
    held (refused_at_once r p) = []
    held (ran_to e) = e.state.tokens

unfoldable pub seen_log : LogResult → Seen
seen_log x = wrote (values_of (answer x.result)) (log_after x [])

-- by the rules
unfoldable pub seen : Case → Seen
seen (running graph inputs picks budget capacity cells a ts cs) = seen_in (result graph [] inputs picks budget (token_width * capacity) (cell_width * cells))
seen (naming graph arrays inputs cells a ts cs) = seen_in (result graph arrays inputs [] 2048 (token_width * 2048) (cell_width * cells))
seen (profiling graph inputs capacity cells lent a rs ts) = seen_steps (profiled graph [] inputs (token_width * capacity) (cell_width * cells) lent)
seen (logging graph inputs picks budget lent a l) = seen_log (logged graph [] inputs picks budget (token_width * 2048) 64 lent)
seen (replaying graph inputs log a) = again (values_of (answer (replayed graph [] inputs log (token_width * 2048) 64)))
seen (needing graph inputs n) = needed (needs graph inputs)
seen (firing graph cells τ a b e) = did (effect_in (graph_of graph) [] cells τ a b)

-- by the table
unfoldable pub expected : Case → Seen
expected (running graph inputs picks budget capacity cells a ts cs) = ran a ts cs
expected (naming graph arrays inputs cells a ts cs) = ran a ts cs
expected (profiling graph inputs capacity cells lent a rs ts) = plotted a rs ts
expected (logging graph inputs picks budget lent a l) = wrote a l
expected (replaying graph inputs log a) = again a
expected (needing graph inputs n) = needed n
expected (firing graph cells τ a b e) = did e
