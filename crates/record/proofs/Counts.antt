-- The table of operand counts has the rule's: a test at each of its 256 entries, which antt computes. Assumes nothing.
use Rattle.std.proofs.Common.{ℕ, zero, suc, Bool, eqb, List, [], ◌∷◌, get_or, eqb→eq}
use Rattle.record.specs.GraphRecords.{row_of, operands_of, OperandCounts}
use Rattle.record.proofs.Computed.{at}

-- n entries v, and then xs
abbrev run : ℕ → ℕ → List ℕ → List ℕ
run zero v xs = xs
run (suc n) v xs = v ∷ run n v xs

-- the table of src/operation.rt, by its runs
unfoldable pub counts : List ℕ
counts = run 1 0 (run 4 1 (run 2 2 (run 4 1 (run 1 2 (run 4 0 (run 8 2 (run 8 0 (run 8 1 (run 216 0 [])))))))))

right : ℕ → ℕ → Bool
right code n = eqb n (operands_of code)

pub counted : OperandCounts counts
unfolding counts right row_of
counted code h = eqb→eq (get_or counts code 0) (operands_of code) (at right counts tt code h)
