-- 02, R-12, in bytes, proved: with room for its tokens a run that completed or hung ends the same (`enough_room`), with less every order is refused by 8
-- (`too_small`). From the same over the rules. Assumes nothing.
use Rattle.std.proofs.Common.{Ok, Err}
use Prim.Native.Nat.{ℕ, ◌*◌, ◌/◌, ◌%◌, ◌≤◌, ◌<◌}
use native.Mathlib.Omega.{arith}
use mathlib.Core.Path.{◌≡◌, refl, sym, ap, ◌∙◌, subst}
use mathlib.Core.List.{List, ◌++◌, append-nil}
use lib.ListN.{length, drop, length-map, drop_of_length-le}
use lib.Seq.{take_at}
use Rattle.buffer.specs.Rows.{joined, all_rows}
use Rattle.buffer.proofs.Tables.{length_joined, length_rows}
use lib.IntN.{ℤ}
use Rattle.record.specs.declared.tag.Tag.{Tag}
use Rattle.record.specs.TokensAndTags.{encode_token, capacity_of}
use Rattle.record.specs.TokensAndTags as Tokens
use Rattle.record.specs.Cells as Cells
use Rattle.record.specs.Widths.{token_width, cell_width}
use Rattle.record.proofs.Records.{length_token, length_cell}
use Rattle.machine.specs.Machine.{Outcome, completed, hung, budget_spent, refused, End}
use Rattle.machine.specs.Orders.{Quiescent, RefusedBy}
use Rattle.rules.specs.declared.answer.Refusal.{Refusal}
use Rattle.rules.specs.declared.answer.Answer.{Answer}
use Rattle.rules.specs.declared.answer.Refusal.TheVariants.{LedgerFull}
use Rattle.rules.specs.declared.answer.Outcome.TheVariants.{Refused}
use Rattle.record.specs.GraphRecords.{graph_of}
use Rattle.rules.specs.Check.{check, check_stores, check_arrays, most_cells, Checked}
use Rattle.rules.specs.Run.{cell_record, outcome_of, Result, refused_at_once, ran_to, unless_failed, result, answer, ledger_after, cells_after, token_record}
use Rattle.rules.specs.Orders.{result_outcome, result_tokens, result_cells, Allowed}
use Rattle.rules.specs.Invariants.{LawfulResult}
use Rattle.rules.proofs.Inputs.{tokens_first}
use Rattle.rules.proofs.Accepted.{whole_bytes, accepted, stores_whole}
use Rattle.rules.proofs.Invariants.{result_invariants}
use Rattle.rules.specs.Fits.{CellCount}
use Rattle.rules.proofs.Capacity as Laws
use Rattle.rules.proofs.Outcomes.{outcome_said}
use Rattle.rules.specs.Runs.{LentToRun, LeftByRun, RanOn, outcome_in}
use Rattle.bounds.specs.Capacity.{first_records, SameEnd, EnoughRoom, RefusedBy8, TooSmall}

-- ---- what a run leaves, in bytes

module _ (graph arrays inputs : List ℕ) (ledger cells : ℕ) where
  -- as many cells as are lent
  cell_count_lem : (x : Result) → LawfulResult graph arrays inputs ledger cells x → CellCount x (cells / cell_width)
  cell_count_lem (refused_at_once r p) h = tt
  cell_count_lem (ran_to e) h = length-map e.state.cells cell_record ∙ h.invariants.cell_count

  -- and the inputs among the tokens, where the check passed
  inputs_among : (c : Checked) (e : End Refusal Tag ℤ) → c ≡ Ok tt → LawfulResult graph arrays inputs ledger cells (unless_failed c (ran_to e)) → length inputs / token_width ≤ (answer (unless_failed c (ran_to e))).tokens
  unfolding answer unless_failed
  inputs_among (Ok _) e p h = omega (arith, h.invariants.count, tokens_first inputs (cells / cell_width), length_rows token_width Tokens.decode_token (length inputs / token_width) inputs)
  inputs_among (Err fault) e p h = let z : ◌≡◌ {A = ℕ} 0 1 = cc in absurd (omega arith)

-- the cells are all written
cell_bytes_lem : (x : Result) → Quiescent (result_outcome x) → (lent : List ℕ) → length lent % cell_width ≡ 0 → CellCount x (length lent / cell_width) → cells_after x lent ≡ joined Cells.encode_cell (result_cells x)
unfolding cells_after
cell_bytes_lem (refused_at_once r p) h lent whole count = absurd h
cell_bytes_lem (ran_to e) h lent whole count =
    let written = joined Cells.encode_cell (result_cells (ran_to e)) in
    let n : length written ≡ length (result_cells (ran_to e)) * cell_width = length_joined cell_width Cells.encode_cell length_cell (result_cells (ran_to e)) in
    let all : length lent ≤ length written = omega arith in
    ap (λ (l : List ℕ). written ++ l) (drop_of_length-le lent all) ∙ append-nil written

token_bytes_lem : (x : Result) → Quiescent (result_outcome x) → length (joined encode_token (result_tokens x)) ≡ (answer x).tokens * token_width
unfolding answer
token_bytes_lem (refused_at_once r p) h = absurd h
token_bytes_lem (ran_to e) h = length_joined token_width encode_token length_token (result_tokens (ran_to e)) ∙ rw (length-map e.state.tokens token_record)

ledger_bytes_lem : (x : Result) → Quiescent (result_outcome x) → (lent : List ℕ) → ledger_after x lent ≡ joined encode_token (result_tokens x) ++ drop ((answer x).tokens * token_width) lent
unfolding ledger_after
ledger_bytes_lem (refused_at_once r p) h lent = absurd h
ledger_bytes_lem (ran_to e) h lent = rw (token_bytes_lem (ran_to e) h)

-- the used records of one ledger, in another
used_bytes_lem : (x : Result) → Quiescent (result_outcome x) → (lent lent' : List ℕ) → ledger_after x lent' ≡ first_records (answer x).tokens (ledger_after x lent) ++ drop ((answer x).tokens * token_width) lent'
used_bytes_lem x h lent lent' =
    rw (ledger_bytes_lem x h lent', ledger_bytes_lem x h lent, take_at (joined encode_token (result_tokens x)) (drop ((answer x).tokens * token_width) lent) ((answer x).tokens * token_width) (token_bytes_lem x h))

-- ---- refused by 8

full : (o : Outcome Refusal) → RefusedBy LedgerFull o → (place : ℕ) × (outcome_of o ≡ Refused LedgerFull place)
full completed h = absurd h
full hung h = absurd h
full budget_spent h = absurd h
full (refused r place) h = (place, rw h)

by_8 : (x : Result) → RefusedBy LedgerFull (result_outcome x) → (place : ℕ) × ((answer x).outcome ≡ Refused LedgerFull place)
unfolding answer
by_8 (refused_at_once r place) h = (place, rw h)
by_8 (ran_to e) h = full e.outcome h

same_place : (p q : ℕ) → Refused LedgerFull p ≡ Refused LedgerFull q → p ≡ q
same_place p q e = cc

-- ---- two runs

module _ (graph arrays inputs : List ℕ) (l m : LentToRun) (x y : LeftByRun) (ran_x : RanOn graph arrays inputs 2048 l x) (rest : Quiescent (outcome_in x.answer.outcome)) (ranY : RanOn graph arrays inputs 2048 m y)
    (cells : length m.cells ≡ length l.cells) where
  abbrev result_of : LentToRun → Result
  result_of k = result graph arrays inputs k.picks 2048 (length k.ledger) (length k.cells)

  rests : Quiescent (result_outcome (result_of l))
  rests = subst Quiescent (ap (λ (r : Answer). outcome_in r.outcome) ran_x.answered ∙ outcome_said (result_of l)) rest

  tokens : x.answer.tokens ≡ (answer (result_of l)).tokens
  tokens = ap (λ (r : Answer). r.tokens) ran_x.answered

  whole_cells_lem : length l.cells % cell_width ≡ 0
  unfolding check
  whole_cells_lem =
      let passed = Laws.passes graph arrays inputs l.picks (length l.ledger) (length l.cells) rests in
      let stores = (accepted graph inputs (capacity_of (length l.ledger)) (check_stores (length inputs) (length l.picks) (length l.ledger) (length l.cells)) (check_arrays (graph_of graph) (length l.cells / cell_width) arrays) passed).0 in
      (whole_bytes cell_width most_cells (length l.cells) (stores_whole (length inputs) (length l.picks) (length l.ledger) (length l.cells) stores).whole_cells).0

  cells_of : (lent : List ℕ) → length lent ≡ length l.cells → cells_after (result_of l) lent ≡ joined Cells.encode_cell (result_cells (result_of l))
  cells_of lent e = cell_bytes_lem (result_of l) rests lent (rw e whole_cells_lem) (rw e (cell_count_lem graph arrays inputs (length l.ledger) (length l.cells) (result_of l) (result_invariants graph arrays inputs l.picks 2048 (length l.ledger) (length l.cells))))

  same_end : result_of m ≡ result_of l → SameEnd x y m.ledger
  same_end same = record {
    answers = ranY.answered ∙ ap answer same ∙ sym ran_x.answered;
    cells = ranY.cells_left ∙ rw same (cells_of m.cells cells) ∙ sym (ran_x.cells_left ∙ cells_of l.cells refl);
    ledger = ranY.ledger_left ∙ rw (same, tokens, ran_x.ledger_left) (used_bytes_lem (result_of l) rests l.ledger m.ledger);
  }

  module _ (allowed : Allowed m.picks (length m.ledger) (length m.cells)) (less : capacity_of (length m.ledger) < x.answer.tokens) where
    abbrev small : ℕ
    small = capacity_of (length m.ledger)

    abbrev count : ℕ
    count = length inputs / token_width

    inputs_counted : length (all_rows token_width Tokens.decode_token inputs) ≡ count
    inputs_counted = length_rows token_width Tokens.decode_token count inputs

    allowed_here : Allowed m.picks (length m.ledger) (length l.cells)
    allowed_here = rw (← cells) allowed

    place_of : (place : ℕ) × ((answer (result_of m)).outcome ≡ Refused LedgerFull place)
    place_of =
        by_8 (result_of m)
        (rw cells (Laws.too_small graph arrays inputs l.picks m.picks (length l.ledger) (length m.ledger) (length l.cells) rests allowed_here (rw (← tokens) less)))

    at_once_lem : small < count → result_of m ≡ refused_at_once LedgerFull small
    unfolding result unless_failed
    at_once_lem h = rw (cells, Laws.also_exceeds graph arrays inputs l.picks (length l.ledger) (length l.cells) rests m.picks (length m.ledger) allowed_here (rw inputs_counted h))

    in_firing_lem : count ≤ small → count ≤ (answer (result_of m)).tokens
    unfolding result
    in_firing_lem h =
        inputs_among graph arrays inputs (length m.ledger) (length m.cells) (check graph arrays inputs m.picks (length m.ledger) (length m.cells)) _
        (rw cells (Laws.also_passes graph arrays inputs l.picks (length l.ledger) (length l.cells) rests m.picks (length m.ledger) allowed_here (rw inputs_counted h)))
        (result_invariants graph arrays inputs m.picks 2048 (length m.ledger) (length m.cells))

    too_full : RefusedBy8 count small m y
    unfolding answer ledger_after cells_after
    too_full = record {
      place = place_of.0;
      by8 = ap (λ (r : Answer). r.outcome) ranY.answered ∙ place_of.1;
      at_once = λ h.
          let once = at_once_lem h in (
            same_place place_of.0 small (sym place_of.1 ∙ rw once),
            rw (ranY.answered, once),
            rw (ranY.answered, once),
            rw (ranY.ledger_left, once),
            rw (ranY.cells_left, once),
          );
      in_firing = λ h. rw ranY.answered (in_firing_lem h);
    }

pub enough_room : EnoughRoom
enough_room graph arrays inputs l m x y ran_x rest picks cells fits room ranY =
    let enough = Laws.enough_room graph arrays inputs l.picks (length l.ledger) (length m.ledger) (length l.cells) (rests graph arrays inputs l m x y ran_x rest ranY cells) fits (rw (← tokens graph arrays inputs l m x y ran_x rest ranY cells) room) in
    same_end graph arrays inputs l m x y ran_x rest ranY cells (rw (picks, cells) enough)

pub too_small : TooSmall
too_small graph arrays inputs l m x y ran_x rest allowed cells less ranY = too_full graph arrays inputs l m x y ran_x rest ranY cells allowed less
