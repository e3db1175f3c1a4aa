-- Demand 3, whole, proved: any two runs over one graph and one list of inputs agree, in every byte. From demand 3 over the rules, and from what it
-- takes to go from tokens to bytes: every token of a run fits its record. Assumes nothing.
use Prim.Native.Nat.{ℕ, ◌*◌, ◌/◌, ◌%◌, ◌≤◌}
use mathlib.Core.Path.{◌≡◌, refl, sym, ap, ◌∙◌, subst}
use mathlib.Core.Bool.{true}
use mathlib.Core.List.{List, [], ◌∷◌, ◌++◌, map, append-nil}
use mathlib.Core.Logic.{◌↔◌}
use native.Mathlib.Omega.{arith}
use lib.ListN.{length, take, length-map}
use lib.IntN.{ℤ}
use lib.ListN.{drop_of_length-le}
use Rattle.record.specs.declared.tag.Tag.{Tag}
use Rattle.record.specs.declared.token.Token.{Token}
use Rattle.number.specs.Number.{Bytes}
use Rattle.buffer.specs.Rows.{All, joined}
use Rattle.record.specs.TokensAndTags.{encode_token, TokenFits, most_tokens, capacity_of, ledger_of}
use Rattle.record.specs.Cells as Cells
use Rattle.record.proofs.Records.{length_token, length_cell}
use Rattle.buffer.proofs.Tables.{length_joined}
use Rattle.record.specs.Widths.{token_width, cell_width}
use Rattle.machine.specs.Machine as Machine
use Rattle.machine.specs.Orders.{Completed, Hung, Quiescent, Spent, Refused}
use Rattle.rules.specs.declared.answer.Refusal.{Refusal}
use Rattle.rules.specs.declared.answer.Outcome.{Outcome}
use Rattle.rules.specs.declared.answer.Outcome.TheVariants as Outcomes
use Rattle.rules.specs.declared.answer.Answer.{Answer}
use Rattle.rules.specs.Check.{most_cells}
use Rattle.rules.specs.Run.{Result, refused_at_once, ran_to, result, Ran, ledger_after, cells_after, token_record}
use Rattle.rules.specs.Run as Run
use Rattle.rules.specs.Log.{log_suffices}
use Rattle.rules.specs.Orders.{result_outcome, result_tokens, result_cells, EachOnce}
use Rattle.rules.specs.Orders as Rules
use Rattle.rules.proofs.Accepted.{whole_bytes, Whole, stores_whole, Begun, begun_stores}
use Rattle.rules.proofs.Orders.{any_two_orders, perm_map}
use Rattle.rules.proofs.Outcomes.{outcome_said}
use Rattle.rules.proofs.Budgets.{any_two_budgets}
use Rattle.rules.proofs.Logged.{logged_runs_on}
use Rattle.rules.specs.Fits.{CellCount, AllFit}
use Rattle.rules.proofs.Fits.{result_fits}
use Rattle.listing.specs.Listing.{records}
use Rattle.listing.specs.Sorted.{Pairwise}
use Rattle.rules.specs.Runs.{LentToRun, LeftByRun, RanOn, LentToLogged, LeftByLogged, LoggedOn, lent_beside_log, left_beside_log, outcome_in}
use Rattle.listing.specs.Demand3.{used_bytes, AlikeBytes, BytesAgree, Demand3, AnyTwoBudgets, Demand3Logged}
use Rattle.listing.proofs.Lists.{all_of}
use Rattle.listing.proofs.Laws.{records_joined}
use Rattle.listing.proofs.AnyTwoOrders.{places_differ, records_differ, used_records, length_tokens, list_orders}

-- ---- how a run ended

is_completed : (o : Outcome) → Completed (outcome_in o) → o ≡ Outcomes.Completed
is_completed Outcomes.Completed h = refl
is_completed Outcomes.Hung h = absurd h
is_completed Outcomes.Spent h = absurd h
is_completed (Outcomes.Refused r place) h = absurd h

is_hung : (o : Outcome) → Hung (outcome_in o) → o ≡ Outcomes.Hung
is_hung Outcomes.Completed h = absurd h
is_hung Outcomes.Hung h = refl
is_hung Outcomes.Spent h = absurd h
is_hung (Outcomes.Refused r place) h = absurd h

-- two outcomes are equal if one is completed or hung, and the other alike
same_outcome : (o p : Outcome) → Quiescent (outcome_in o) → (Completed (outcome_in o) → Completed (outcome_in p)) → (Hung (outcome_in o) → Hung (outcome_in p)) → o ≡ p
same_outcome Outcomes.Completed p q c h = sym (is_completed p (c tt))
same_outcome Outcomes.Hung p q c h = sym (is_hung p (h tt))
same_outcome Outcomes.Spent p q c h = absurd q
same_outcome (Outcomes.Refused r place) p q c h = absurd q

quiescent_begun : (x : Result) → Quiescent (result_outcome x) → Begun x
quiescent_begun (refused_at_once r p) h = h
quiescent_begun (ran_to e) h = tt

-- ---- what a run leaves, in bytes

pub used_bytes_lem : (x : Result) (lent : List ℕ) → take ((Run.answer x).tokens * token_width) (ledger_after x lent) ≡ joined encode_token (result_tokens x)
unfolding Run.answer ledger_after
used_bytes_lem (refused_at_once r p) lent = refl
used_bytes_lem (ran_to e) lent =
    ap (λ (n : ℕ). take (n * token_width) (ledger_of (result_tokens (ran_to e)) lent)) (sym (length-map e.state.tokens token_record)) ∙ used_records (result_tokens (ran_to e)) lent

pub ran_cells : (e : Machine.End Refusal Tag ℤ) (lent : List ℕ) → length lent % cell_width ≡ 0 → CellCount (ran_to e) (length lent / cell_width) → cells_after (ran_to e) lent ≡ joined Cells.encode_cell (result_cells (ran_to e))
unfolding cells_after
ran_cells e lent whole count =
    let written = joined Cells.encode_cell (result_cells (ran_to e)) in
    let n : length written ≡ length (result_cells (ran_to e)) * cell_width = length_joined cell_width Cells.encode_cell length_cell (result_cells (ran_to e)) in
    let all : length lent ≤ length written = omega arith in
    ap (λ (l : List ℕ). written ++ l) (drop_of_length-le lent all) ∙ append-nil written

cell_bytes_lem : (x : Result) → Quiescent (result_outcome x) → (lent : List ℕ) → length lent % cell_width ≡ 0 → CellCount x (length lent / cell_width) → cells_after x lent ≡ joined Cells.encode_cell (result_cells x)
cell_bytes_lem (refused_at_once r p) h lent whole count = absurd h
cell_bytes_lem (ran_to e) h lent whole count = ran_cells e lent whole count

-- ---- tokens and their records

all_apart : (t : Token) (us : List Token) → All (λ u. t.tag ≡ u.tag → t.port ≡ u.port → ⊥) us → All (λ u. (t.tag ≡ u.tag) × (t.port ≡ u.port) → ⊥) us
all_apart t [] h = tt
all_apart t (u ∷ us) h = (λ e. h.0 e.0 e.1, all_apart t us h.1)

once_apart : (ts : List Token) → EachOnce ts → Pairwise (λ t u. (t.tag ≡ u.tag) × (t.port ≡ u.port) → ⊥) ts
once_apart [] h = tt
once_apart (t ∷ ts) h = (all_apart t ts h.0, once_apart ts h.1)

records_of : (ts : List Token) → records (joined encode_token ts) ≡ map encode_token ts
records_of ts = records_joined encode_token ts (all_of (λ t. length (encode_token t) ≡ token_width) length_token ts)

-- ---- two ends that are alike by the rules are alike in every byte

abbrev CellsLent : Result → List ℕ → Type 0
CellsLent x lent = (length lent % cell_width ≡ 0) × CellCount x (length lent / cell_width)

module _ (x y : Result) {r q : Answer} {l l' c c' m m' d d' : List ℕ} (ran_x : Ran x r l l' c c') (ranY : Ran y q m m' d d') (cx : Quiescent (result_outcome x)) (cy : Quiescent (result_outcome y)) where
  abbrev left : LeftByRun
  left = record { answer = r; ledger = l'; cells = c' }

  abbrev other : LeftByRun
  other = record { answer = q; ledger = m'; cells = d' }

  pub bytes_alike : r.outcome ≡ q.outcome → Rules.AlikeResults x y → All TokenFits (result_tokens x) → length (result_tokens x) ≤ most_tokens → CellsLent x c → CellsLent y d → AlikeBytes left other
  bytes_alike outcomes same fits few cellsX cellsY =
      let ts = result_tokens x in
      let us = result_tokens y in
      let ux : used_bytes left ≡ joined encode_token ts = rw (ran_x.answered, ran_x.ledger_left) (used_bytes_lem x l) in
      let uy : used_bytes other ≡ joined encode_token us = rw (ranY.answered, ranY.ledger_left) (used_bytes_lem y m) in
      let firings : r.firings ≡ q.firings = rw (ran_x.answered, ranY.answered) same.firings in
      let tokens : r.tokens ≡ q.tokens = rw (ran_x.answered, ranY.answered) same.tokens in
      let apart = places_differ ts fits (once_apart ts same.each_once) in
      record {
        answers = λ i. record { outcome = outcomes i; firings = firings i; tokens = tokens i };
        cells = ran_x.cells_left ∙ cell_bytes_lem x cx c cellsX.0 cellsX.1 ∙ ap (joined Cells.encode_cell) same.cells ∙ sym (ranY.cells_left ∙ cell_bytes_lem y cy d cellsY.0 cellsY.1);
        same_tokens = rw (ux, uy, records_of ts, records_of us) (perm_map encode_token same.same_tokens);
        each_once = rw (ux, records_of ts) (records_differ ts fits apart);
        listings = λ out out' e e'.
            rw (ux, uy)
            (list_orders out out' same.same_tokens apart fits few
            (e ∙ ap length ux ∙ length_tokens ts) (e' ∙ ap length uy ∙ length_tokens us));
      }

-- ---- two runs that agree by the rules agree in every byte

-- of what a run left: its tokens fit their records, and its cells those that were lent
pub record Held (x : Result) (cells : List ℕ) : Type 0 where
  pub fits : All TokenFits (result_tokens x)
  pub few : length (result_tokens x) ≤ most_tokens
  pub cells_lent : CellsLent x cells

module _ (left right : Result) (l m : LentToRun) (x y : LeftByRun)
    (ran_x : Ran left x.answer l.ledger x.ledger l.cells x.cells) (ranY : Ran right y.answer m.ledger y.ledger m.cells y.cells)
    (agreed : Rules.ResultsAgree left right) (heldX : Quiescent (result_outcome left) → Held left l.cells) (heldY : Quiescent (result_outcome right) → Held right m.cells) where
  ended_x : outcome_in x.answer.outcome ≡ result_outcome left
  ended_x = ap (λ (r : Answer). outcome_in r.outcome) ran_x.answered ∙ outcome_said left

  ended_y : outcome_in y.answer.outcome ≡ result_outcome right
  ended_y = ap (λ (r : Answer). outcome_in r.outcome) ranY.answered ∙ outcome_said right

  -- what is said of both results is said of both answers
  ended : (P : Machine.Outcome Refusal → Type 0) → P (result_outcome left) ↔ P (result_outcome right) → P (outcome_in x.answer.outcome) ↔ P (outcome_in y.answer.outcome)
  ended P e = (λ h. subst P (sym ended_y) (e.0 (subst P ended_x h)), λ h. subst P (sym ended_x) (e.1 (subst P ended_y h)))

  completing : Completed (outcome_in x.answer.outcome) ↔ Completed (outcome_in y.answer.outcome)
  completing = ended Completed agreed.completes

  hanging : Hung (outcome_in x.answer.outcome) ↔ Hung (outcome_in y.answer.outcome)
  hanging = ended Hung agreed.hangs

  alike : Quiescent (outcome_in x.answer.outcome) → AlikeBytes x y
  alike done =
      let outcomes = same_outcome x.answer.outcome y.answer.outcome done completing.0 hanging.0 in
      let cx = subst Quiescent ended_x done in
      let cy = subst Quiescent (ap outcome_in outcomes ∙ ended_y) done in
      let hx = heldX cx in
      bytes_alike left right ran_x ranY cx cy outcomes (agreed.alike cx) hx.fits hx.few hx.cells_lent (heldY cy).cells_lent

  pub agree_in_bytes : BytesAgree x y
  agree_in_bytes = record {
    completes = completing;
    hangs = hanging;
    alike = alike;
    refused = ended Refused agreed.refused;
    never_spent = λ h. agreed.never_spent (subst Spent ended_x h);
  }

-- where its stores were whole, it held what fits
pub held : (x : Result) (inputs picks : ℕ) (ledger cells : List ℕ) → Whole inputs picks (length ledger) (length cells) → AllFit x (capacity_of (length ledger)) (length cells / cell_width) → Held x cells
held x inputs picks ledger cells stores f =
    let few = (whole_bytes token_width most_tokens (length ledger) stores.whole_ledger).1 in
    record { fits = f.tokens; few = omega (arith, f.room, few); cells_lent = ((whole_bytes cell_width most_cells (length cells) stores.whole_cells).0, f.cell_count) }

-- ---- from inputs

pub demand3 : Demand3
demand3 graph arrays inputs graph_bytes input_bytes l m a b capacities counts x y ran_x ranY =
    agree_in_bytes (result_of l) (result_of m) l m x y ran_x ranY
    (any_two_orders graph arrays inputs l.picks m.picks (length l.ledger) (length m.ledger) (length l.cells) (length m.cells) a b capacities counts)
    (holds l) (holds m)
  where
    result_of : LentToRun → Result
    result_of k = result graph arrays inputs k.picks 2048 (length k.ledger) (length k.cells)

    -- a run that completes or hangs passed the check of its stores
    holds : (k : LentToRun) → Quiescent (result_outcome (result_of k)) → Held (result_of k) k.cells
    holds k c =
        held (result_of k) (length inputs) (length k.picks) k.ledger k.cells
        (stores_whole (length inputs) (length k.picks) (length k.ledger) (length k.cells) (begun_stores graph arrays inputs k.picks 2048 (length k.ledger) (length k.cells) (quiescent_begun (result_of k) c)))
        (result_fits graph arrays inputs k.picks 2048 (length k.ledger) (length k.cells) graph_bytes input_bytes)

-- ---- two budgets

module _ (graph arrays inputs : List ℕ) (graph_bytes : Bytes graph) (input_bytes : Bytes inputs) (a b : ℕ) (l m : LentToRun) (allowed : Rules.Allowed m.picks (length m.ledger) (length m.cells))
    (capacities : capacity_of (length l.ledger) ≡ capacity_of (length m.ledger)) (counts : length l.cells / cell_width ≡ length m.cells / cell_width)
    (x y : LeftByRun) (ran_x : RanOn graph arrays inputs a l x) (ranY : RanOn graph arrays inputs b m y) (done : Quiescent (outcome_in x.answer.outcome)) (enough : x.answer.firings ≤ b) where
  abbrev first : Result
  first = result graph arrays inputs l.picks a (length l.ledger) (length l.cells)

  abbrev second : Result
  second = result graph arrays inputs m.picks b (length m.ledger) (length m.cells)

  rests : Quiescent (result_outcome first)
  rests = subst Quiescent (ap (λ (r : Answer). outcome_in r.outcome) ran_x.answered ∙ outcome_said first) done

  ends : Rules.ResultsEndAlike first second
  ends =
      any_two_budgets graph arrays inputs l.picks m.picks a b (length l.ledger) (length m.ledger) (length l.cells) (length m.cells) rests allowed capacities counts
      (subst (λ (r : Answer). r.firings ≤ b) ran_x.answered enough)

  outcomes : x.answer.outcome ≡ y.answer.outcome
  outcomes = ap (λ (r : Answer). r.outcome) ran_x.answered ∙ ends.outcomes ∙ sym (ap (λ (r : Answer). r.outcome) ranY.answered)

  stores : Whole (length inputs) (length l.picks) (length l.ledger) (length l.cells)
  stores =
      stores_whole (length inputs) (length l.picks) (length l.ledger) (length l.cells)
      (begun_stores graph arrays inputs l.picks a (length l.ledger) (length l.cells) (quiescent_begun first rests))

  budgets_alike : AlikeBytes x y
  budgets_alike =
      let fits = result_fits graph arrays inputs l.picks a (length l.ledger) (length l.cells) graph_bytes input_bytes in
      let others = result_fits graph arrays inputs m.picks b (length m.ledger) (length m.cells) graph_bytes input_bytes in
      let few = (whole_bytes token_width most_tokens (length l.ledger) stores.whole_ledger).1 in
      let also = subst Quiescent (ap outcome_in (outcomes ∙ ap (λ (r : Answer). r.outcome) ranY.answered) ∙ outcome_said second) done in
      bytes_alike first second ran_x ranY rests also outcomes ends.alike fits.tokens (omega (arith, fits.room, few))
      ((whole_bytes cell_width most_cells (length l.cells) stores.whole_cells).0, fits.cell_count) ((whole_bytes cell_width most_cells (length m.cells) allowed.allowed_cells).0, others.cell_count)

pub two_budgets : AnyTwoBudgets
two_budgets graph arrays inputs bg bi a b l m allowed c d x y rx ry done enough = budgets_alike graph arrays inputs bg bi a b l m allowed c d x y rx ry done enough

-- ---- runs that write a log

pub demand3_logged : Demand3Logged
demand3_logged graph arrays inputs bg bi l m bl bm sl sm a b c d x y rx ry =
    let ran : (k : LentToLogged) (z : LeftByLogged) → k.budget ≡ 2048 → log_suffices 2048 (length k.log) ≡ true → LoggedOn graph arrays inputs k z → RanOn graph arrays inputs 2048 (lent_beside_log k) (left_beside_log z) =
    λ k z e enough h. subst (λ (n : ℕ). RanOn graph arrays inputs n (lent_beside_log k) (left_beside_log z)) e (logged_runs_on graph arrays inputs k z h (rw e enough)) in
    demand3 graph arrays inputs bg bi (lent_beside_log l) (lent_beside_log m) a b c d (left_beside_log x) (left_beside_log y) (ran l x bl sl rx) (ran m y bm sm ry)
