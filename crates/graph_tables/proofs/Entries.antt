-- The two tables of a graph, entry by entry. Assumes nothing.
use Rattle.std.proofs.Common.{Ok}
use Prim.Native.Nat.{ℕ, zero, suc, ◌+◌, ◌*◌, ◌/◌, ◌≤◌, ◌<◌}
use native.Mathlib.Omega.{arith}
use native.Mathlib.Decide.{dec_le}
use mathlib.Core.Path.{◌≡◌, refl, sym, ap, ◌∙◌}
use mathlib.Core.Bool.{Bool, true, false, cond}
use mathlib.Core.List.{List, [], ◌∷◌}
use lib.ListN.{length, get_or, set, replicate, get_or-replicate}
use lib.Seq.{get_or-set_same, get_or-set_other}
use lib.IntN.{pos}
use lib.Dec.{eqb}
use borrow.Author.Tests.{eqb-true, eqb-false, ne_eqb}
use Rattle.record.specs.declared.tag.Tag.{Tag}
use Rattle.record.specs.declared.instruction.Instruction.{Instruction}
use Rattle.record.specs.GraphRecords.{graph_of, operands_of}
use Rattle.record.specs.Widths.{graph_width}
use Rattle.rules.specs.Check.{check_graph, enters_site}
use Rattle.rules.specs.InstructionSet.{arity_in, return_of}
use Rattle.rules.proofs.PassedGraph.{two_operands}
use Rattle.store_enabled.specs.Enabled.{waited_for, arity_of}
use Rattle.check_fields.specs.Sites.{at_site}
use Rattle.check_fields.proofs.Sites.{at_site_lem}
use Rattle.check_fields.proofs.Graphs.{arity_by, arity_in_lem, arity_past}
use Rattle.checks.proofs.Passed.{passed_length}
use Rattle.abstraction.specs.Tables.{Arities, Returns}

-- ---- operand counts

-- an operand count is an entry by itself
pub count_entry : (c : ℕ) (τ : Tag) → (c ≡ 3 → ⊥) → (c ≡ 9 → ⊥) → waited_for (operands_of c) τ ≡ arity_by c τ
unfolding waited_for
count_entry c τ n m = rw (ne_eqb c 3 n, ne_eqb c 9 m, ne_eqb (operands_of c) 3 (λ e. omega (arith, two_operands c)))

-- the entry v of the instruction at i, by its code
pub entry_in : (l : List ℕ) (i v : ℕ) → i < length l / graph_width → ((τ : Tag) → waited_for v τ ≡ arity_by (get_or l (i * graph_width) 0) τ)
    → (τ : Tag) → τ.instruction ≡ i → waited_for v τ ≡ arity_in (graph_of l) τ
entry_in l i v h by τ e = by τ ∙ sym (arity_in_lem l τ (omega arith) ∙ ap (λ (k : ℕ). arity_by (get_or l (k * graph_width) 0) τ) e)

-- one entry more
pub entry_next : (g : List Instruction) (t : List ℕ) (i v : ℕ) → i + 385 < length t → ((τ : Tag) → τ.instruction < i → arity_of t τ ≡ arity_in g τ)
    → ((τ : Tag) → τ.instruction ≡ i → waited_for v τ ≡ arity_in g τ) → (τ : Tag) → τ.instruction < i + 1 → arity_of (set t (i + 385) v) τ ≡ arity_in g τ
entry_next g t i v h before here τ l = go (eqb τ.instruction i) refl
  where
    go : (b : Bool) → eqb τ.instruction i ≡ b → arity_of (set t (i + 385) v) τ ≡ arity_in g τ
    go true p =
        let e = eqb-true τ.instruction i p in
        let put : get_or (set t (i + 385) v) (τ.instruction + 385) 0 ≡ v = rw e (get_or-set_same t (i + 385) v 0 h) in
        ap (λ (n : ℕ). waited_for n τ) put ∙ here τ e
    go false p =
        let n = eqb-false τ.instruction i p in
        rw (get_or-set_other t (i + 385) (τ.instruction + 385) v 0 (λ q. n (omega arith))) (before τ (omega arith))

past_end : (l : List ℕ) (k : ℕ) → length l ≤ k → get_or l k 0 ≡ 0
past_end [] k h = refl
past_end (x ∷ l) zero h = absurd (omega arith)
past_end (x ∷ l) (suc k) h = past_end l k (omega arith)

-- an instruction past the table is past the graph too
pub all_arities : (graph tables : List ℕ) → check_graph graph ≡ Ok tt → length tables ≡ 641
    → ((τ : Tag) → τ.instruction < 256 → arity_of tables τ ≡ arity_in (graph_of graph) τ) → Arities (graph_of graph) tables
unfolding waited_for
all_arities graph tables passed size right τ = go (dec_le (suc τ.instruction) 256)
  where
    go : Dec (suc τ.instruction ≤ 256) → arity_of tables τ ≡ arity_in (graph_of graph) τ
    go (yes h) = right τ h
    go (no n) =
        let none = arity_past graph τ (omega (arith, (passed_length graph passed).1, (passed_length graph passed).2)) in
        rw (past_end tables (τ.instruction + 385) (omega arith)) (sym none)

-- ---- returns

pub no_returns : Returns [] (replicate 641 0)
unfolding return_of
no_returns site h = get_or-replicate 641 site 0 0 (omega arith)

-- one record more, before the others
pub note_returns : (rs : List Instruction) (t : List ℕ) (r : Instruction) → Returns rs t → 256 ≤ length t
    → Returns (r ∷ rs) (at_site t r r.second.instruction)
unfolding return_of
note_returns rs t r s n site h = at_site_lem t r r.second.instruction site 0 n h ∙ go (enters_site (pos site) r)
  where
    go : (b : Bool) → cond b r.second.instruction (get_or t site 0) ≡ cond b r.second.instruction (return_of site rs)
    go true = refl
    go false = s site h
