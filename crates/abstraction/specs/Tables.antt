-- Working definition: no public promise cites it.
-- What the tables of a run say, in one array: the return instruction of each site, then the named arrays, then operand counts by
-- instruction. Assumes nothing.
use Rattle.std.specs.Prelude.{ℕ, ◌+◌, ◌*◌, ◌<◌, ◌≡◌, List, get_or}
use Rattle.record.specs.declared.tag.Tag.{Tag}
use Rattle.record.specs.declared.array.NamedArray.{NamedArray}
use Rattle.record.specs.declared.instruction.Instruction.{Instruction}
use Rattle.record.specs.GraphRecords.{graph_of}
use Rattle.record.specs.Arrays.{arrays_of}
use Rattle.store_enabled.specs.Enabled.{arity_of}
use Rattle.rules.specs.InstructionSet.{arity_in, return_of}
use Rattle.rules.specs.Needs.{list_from}

-- how many operands the activity of a tag waits for
abbrev pub Arities : List Instruction → (tables : List ℕ) → Type 0
Arities g tables = (tag : Tag) → arity_of tables tag ≡ arity_in g tag

-- the return instruction of each site
abbrev pub Returns : List Instruction → (tables : List ℕ) → Type 0
Returns g tables = (site : ℕ) → site < 256 → get_or tables site 0 ≡ return_of site g

-- R-10: the named arrays, their number first, then first cell and length of each
abbrev pub array_from : (tables : List ℕ) → ℕ → NamedArray
array_from tables i = record { first = get_or tables (i * 2 + 257) 0; length = get_or tables (i * 2 + 258) 0 }

unfoldable pub arrays_in : (tables : List ℕ) → List NamedArray
arrays_in tables = list_from 0 (get_or tables 256 0) (array_from tables)

-- they are made of a graph and of a table of named arrays
pub record TablesOf (graph arrays tables : List ℕ) : Type 0 where
  pub arities : Arities (graph_of graph) tables
  pub returns : Returns (graph_of graph) tables
  pub named : arrays_in tables ≡ arrays_of arrays
