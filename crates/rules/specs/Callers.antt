-- 02, R-6, "LEAVE and its caller": "paths are made only by ENTER, from sites that the check has passed. Prove of every reachable state that the site has its
-- ENTER". The statements; they are proved in proofs/Callers. Assumes nothing.
use Rattle.std.specs.Prelude.{ℕ, ◌≤◌, ◌<◌, ◌≡◌, true, List, Option, Some, None, length, ℤ, pos, Ok}
use Rattle.record.specs.declared.tag.Tag.{Tag}
use Rattle.record.specs.declared.array.NamedArray.{NamedArray}
use Rattle.record.specs.declared.tag.Caller.{Caller}
use Rattle.record.specs.declared.instruction.Instruction.{Instruction}
use Rattle.buffer.specs.Rows.{All}
use Rattle.record.specs.Paths.{path_number}
use Rattle.record.specs.Calls.{most_levels, leave_of, Call, CallFits, path_of}
use Rattle.record.specs.GraphRecords.{graph_of}
use Rattle.machine.specs.Machine.{Token, State}
use Rattle.machine.specs.Orders.{Reached}
use Rattle.rules.specs.Check.{any, instruction_at, enters_site, check_graph, check_inputs}
use Rattle.rules.specs.InstructionSet.{return_of, machine_of}
use Rattle.rules.specs.Run.{first_state}

-- ---- paths

-- an ENTER of the graph has the site
abbrev pub HasEnter : List Instruction → (site : ℕ) → Type 0
HasEnter g site = any (enters_site (pos site)) g ≡ true

pub record CallIn (g : List Instruction) (c : Call) : Type 0 where
  pub fits : CallFits c
  pub enter : HasEnter g c.site

-- the calls of a path, the newest first, each from a site that has an ENTER; at most as many as there may be
pub record PathIn (g : List Instruction) (path : ℕ) : Type 0 where
  pub calls : List Call
  pub each : All (CallIn g) calls
  pub levels : length calls ≤ most_levels
  pub made : path ≡ path_of calls

-- ---- LEAVE

-- every ENTER of the site has this return instruction
abbrev pub ReturnsTo : List Instruction → (site instruction : ℕ) → Type 0
ReturnsTo g site i = (k : ℕ) → enters_site (pos site) (instruction_at g k) ≡ true → (instruction_at g k).second.instruction ≡ i

-- the site that LEAVE finds has its ENTER, and `return_of` is the return of every ENTER of the site
abbrev pub CallerIn : List Instruction → Option Caller → Type 0
CallerIn g (Some c) = HasEnter g c.site × ReturnsTo g c.site (return_of c.site g)
CallerIn g None = Unit {0}

-- ---- the claims

-- a token's path encodes calls, and its iteration fits a byte, since ENTER copies it into the path
pub record TokenIn (g : List Instruction) (t : Token Tag ℤ) : Type 0 where
  pub path : PathIn g (path_number t.key.tag.path)
  pub iteration : t.key.tag.iteration < 256

-- and what LEAVE finds for such a token has its ENTER
abbrev pub CallerFound : Type 0
CallerFound = (graph : List ℕ) → check_graph graph ≡ Ok tt → (t : Token Tag ℤ) → TokenIn (graph_of graph) t → CallerIn (graph_of graph) (leave_of t.key.tag)

-- so it holds of every token of every state that a run from inputs reaches
abbrev pub CallersKnown : Type 0
CallersKnown = (graph inputs : List ℕ) (table : List NamedArray) (capacity cells : ℕ) → check_graph graph ≡ Ok tt → check_inputs (graph_of graph) capacity inputs ≡ Ok tt
    → (firings sent : ℕ) (x : State Tag ℤ) → Reached (machine_of (graph_of graph) table capacity cells) (first_state inputs cells) firings sent x
    → All (TokenIn (graph_of graph)) x.tokens
