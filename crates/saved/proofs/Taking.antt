-- The passes together: where one fails the state is not taken (`not_taken`), and where all pass it is, and a run can go on from it (`goes_on`). Assumes nothing.
use Prim.Native.Nat.{ℕ, zero, suc, ◌+◌, ◌*◌, ◌/◌, ◌%◌, ◌≤◌, ◌<◌}
use mathlib.Core.Path.{◌≡◌, refl, sym, ap, ◌∙◌, subst}
use mathlib.Core.Bool.{Bool, true, false}
use mathlib.Core.List.{List, [], ◌++◌}
use native.Mathlib.Omega.{arith}
use native.Mathlib.Nat.{suc-mul, zero-mul, add_comm}
use borrow.Author.Tests.{ltb-true}
use lib.Dec.{ltb}
use lib.ListN.{length, take, drop, length-map}
use lib.Seq.{drop-drop, take_all}
use Rattle.record.specs.declared.token.Token as Record
use Rattle.record.specs.declared.instruction.Instruction.{Instruction}
use Rattle.buffer.specs.Rows.{All, rows, joined}
use Rattle.buffer.proofs.Tables.{length_rows, rows_raw}
use Rattle.record.specs.GraphRecords.{graph_of}
use Rattle.record.specs.TokensAndTags as Tokens
use Rattle.record.specs.TokensAndTags.{tokens, token_at}
use Rattle.record.specs.Cells as Cells
use Rattle.record.specs.Widths.{token_width, cell_width}
use Rattle.machine.specs.Saved.{all_up_to}
use Rattle.machine.proofs.View.{false_true}
use Rattle.machine.proofs.Taken as Taken
use Rattle.machine.proofs.Taken.{up_to}
use Rattle.rules.specs.Check.{operands_at}
use Rattle.rules.specs.Run.{token_held}
use Rattle.rules.specs.Saved.{state_saved, machine_saved, token_allowed, state_taken}
use Rattle.rules.proofs.Passed.{both}
use Rattle.rules.proofs.Saved.{tests, saved_under}
use Rattle.abstraction.specs.Tables.{Arities, arrays_in}
use Rattle.store.specs.Matching.{Matching}
use Rattle.fire_outputs.specs.Outputs.{CellStore}
use Rattle.fire.specs.Running.{Arrived, Running}
use Rattle.saved.specs.Passes.{arrives_at, partnered_at, count_up_to, first_spent, cell_right, CellBytes, Passes}
use Rattle.saved.proofs.Exactly.{taken_passes, passes_taken}

-- ---- rows

module _ {A : Type 0} (P : A → Type 0) (w : ℕ) (read : List ℕ → A) where
  rows_each : (n : ℕ) (l : List ℕ) → ((i : ℕ) → i < n → P (read (drop (i * w) l))) → All P (rows w read n l)
  rows_each zero l h = tt
  rows_each (suc n) l h = (
    subst (λ (b : List ℕ). P (read b)) (ap (λ (k : ℕ). drop k l) (zero-mul w)) (h 0 (omega arith)),
    rows_each n (drop w l) (λ i k.
        let m : suc i * w ≡ w + i * w = suc-mul i w ∙ add_comm (i * w) w in
        subst (λ (b : List ℕ). P (read b)) (ap (λ (j : ℕ). drop j l) m ∙ sym (drop-drop (i * w) w l)) (h (suc i) (omega arith))),
  )

-- cells that are written as they stand
cells_own : (n : ℕ) (l : List ℕ) → ((c : ℕ) → c < n → Cells.encode_cell (Cells.cell_of_record l c) ≡ take cell_width (drop (c * cell_width) l)) → joined Cells.encode_cell (Cells.cells n l) ≡ joined (λ (b : List ℕ). b) (rows cell_width (take cell_width) n l)
cells_own zero l h = refl
cells_own (suc n) l h =
    let later : (c : ℕ) → c < n → Cells.encode_cell (Cells.cell_of_record (drop cell_width l) c) ≡ take cell_width (drop (c * cell_width) (drop cell_width l)) = λ c k.
    let n : cell_width + c * cell_width ≡ suc c * cell_width = omega arith in
    let m : drop (c * cell_width) (drop cell_width l) ≡ drop (suc c * cell_width) l = drop-drop (c * cell_width) cell_width l ∙ ap (λ (j : ℕ). drop j l) n in
    rw m (h (suc c) (omega arith)) in
    λ i. h 0 (omega arith) i ++ cells_own n (drop cell_width l) later i

module _ (graph ledger cells tables : List ℕ) (firings used : ℕ) (right : Arities (graph_of graph) tables) where
  abbrev g : List Instruction
  g = graph_of graph

  abbrev count : ℕ
  count = length cells / cell_width

  by_taken : (state_taken graph ledger cells firings used ≡ true → ⊥) → false ≡ state_taken graph ledger cells firings used
  by_taken h = go (state_taken graph ledger cells firings used) refl
    where
      go : (b : Bool) → state_taken graph ledger cells firings used ≡ b → false ≡ b
      go true e = absurd (h e)
      go false e = refl

  -- more tokens than there are records
  pub too_many : length ledger / token_width < used → false ≡ state_taken graph ledger cells firings used
  unfolding state_saved
  too_many h = by_taken (λ e.
      let r = (Taken.tested (machine_saved graph [] ledger cells) firings (state_saved ledger cells used) (tests graph ledger cells firings used e).machine).room in
      omega (arith, length-map (tokens used ledger) token_held, length_rows token_width Tokens.decode_token used ledger))

  pub not_taken : (Passes g tables ledger cells firings used → ⊥) → false ≡ state_taken graph ledger cells firings used
  not_taken h = by_taken (λ e. h (taken_passes graph ledger cells tables used right firings e))

  module _ (room : used ≤ length ledger / token_width) (p : Passes g tables ledger cells firings used) where
    pub is_taken_lem : true ≡ state_taken graph ledger cells firings used
    is_taken_lem = sym (passes_taken graph ledger cells tables used right firings room p)

    arrived : Arrived g (tokens used ledger)
    unfolding arrives_at token_allowed
    arrived = rows_each (λ (t : Record.Token). t.port < operands_at g t.tag.instruction) token_width Tokens.decode_token used ledger (λ i h.
        let a = (both (token_allowed g (drop (i * token_width) ledger)) _ (up_to (arrives_at g tables ledger count) used i p.arrive h)).0 in
        ltb-true _ _ (both (ltb (token_at ledger i).port (operands_at g (token_at ledger i).tag.instruction)) (Tokens.token_state_allowed (drop (i * token_width) ledger)) a).0)

    module _ (links flags : List ℕ) (matching : Matching tables links flags ledger used) (few : length ledger / token_width ≤ 2048) (whole : length cells % cell_width ≡ 0) (few_cells : length cells / cell_width ≤ 1024)
        (bytes : (c : ℕ) → c < length cells / cell_width → CellBytes cells c) where
      store : CellStore cells
      store = record {
        bytes = sym (take_all (count * cell_width) cells (omega arith)) ∙ sym (rows_raw cell_width count cells) ∙ sym (cells_own count cells (λ c h. (bytes c h).0));
        fits = rows_each Cells.CellFits cell_width Cells.decode_cell count cells (λ c h. (bytes c h).1);
        few = few_cells;
      }

      pub goes_on_lem : Running g tables links flags ledger cells used
      unfolding state_saved
      goes_on_lem = record {
        matching = matching;
        few = few;
        store = store;
        arrived = arrived;
        good = (saved_under graph (arrays_in tables) ledger cells firings used (sym is_taken_lem)).good;
      }

  -- where the first two passes are through, the third decides
  module _ (room : used ≤ length ledger / token_width) (arrive : all_up_to (arrives_at g tables ledger count) used ≡ true) (partnered : all_up_to (partnered_at tables ledger used) used ≡ true)
      (counted : count_up_to (first_spent ledger) used ≡ firings) where
    pub passes : all_up_to (cell_right (tokens used ledger) cells) count ≡ true → Passes g tables ledger cells firings used
    passes e = record { arrive = arrive; partnered = partnered; counted = counted; cells_right = e }

    pub decides : (b : Bool) → b ≡ all_up_to (cell_right (tokens used ledger) cells) count → b ≡ state_taken graph ledger cells firings used
    decides true e = is_taken_lem room (passes (sym e))
    decides false e = not_taken (λ p. false_true (e ∙ p.cells_right))
