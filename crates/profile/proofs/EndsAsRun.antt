-- R-1 in bytes, proved: a profile that is not refused ends as every run does, in every byte that demand 3 compares, and its records tell its firings. From the
-- claim over the rules (`as_every_order`), and from what it takes to read a record back: no step has more firings than 16 bits tell. Assumes nothing.
use Prim.Native.Nat.{ℕ, ◌+◌, ◌*◌, ◌/◌, ◌%◌, ◌<◌}
use mathlib.Core.Path.{◌≡◌, refl, sym, ap, ◌∙◌, subst}
use mathlib.Core.List.Permᴰ
use mathlib.Core.List.{List, [], ◌∷◌, ◌++◌, map}
use native.Mathlib.Omega.{arith}
use lib.ListN.{length, length-map}
use Rattle.number.specs.Number.{Bytes, number16}
use Rattle.buffer.specs.Rows.{rows, All, joined}
use Rattle.record.specs.TokensAndTags.{TokenFits, capacity_of}
use Rattle.record.specs.Widths.{cell_width, step_width}
use Rattle.machine.specs.Orders.{Quiescent, Refused}
use Rattle.machine.specs.Steps.{StepRecord, firings_in, EachFires}
use Rattle.rules.specs.declared.answer.Profiled.{Profiled}
use Rattle.rules.specs.Answer.{values_of}
use Rattle.rules.specs.Check.{most_cells}
use Rattle.rules.specs.Run.{Result, refused_at_once, ran_to, result, Ran, token_record}
use Rattle.rules.specs.Run as Run
use Rattle.rules.specs.Orders.{result_outcome, result_tokens, result_cells, Allowed}
use Rattle.rules.specs.Profile.{ProfileResult, profiled, profile_answer, encode_step, profile_after, ProfileEndsAs}
use Rattle.rules.proofs.Accepted.{whole_bytes}
use Rattle.rules.specs.Fits.{CellCount}
use Rattle.rules.proofs.Fits.{result_fits}
use Rattle.rules.proofs.Small.{answer_small}
use Rattle.rules.proofs.Profile.{passes, wholes, as_every_order}
use Rattle.rules.proofs.Outcomes.{outcome_said}
use Rattle.rules.specs.Runs.{LentToRun, LeftByRun, RanOn, LentToProfile, LeftByProfile, ProfiledOn, outcome_in}
use Rattle.listing.specs.Demand3.{AlikeBytes}
use Rattle.profile.specs.EndsAsRun.{as_run, firings_recorded, EndsAsRun, ProfileEndsAsRun}
use Rattle.listing.proofs.Lists.{all_perm}
use Rattle.listing.proofs.Demand3.{bytes_alike}
use Rattle.machine.specs.Saved.{sum}

-- ---- the records, read back

abbrev each_of_lem : List StepRecord → List ℕ
each_of_lem rs = map (λ (r : StepRecord). r.firings) rs

low_high : (n : ℕ) → n < 65536 → n % 256 + 256 * (n / 256 % 256) ≡ n
low_high n h = omega arith

-- none is past 16 bits where all together are not
firings_read : (rs : List StepRecord) (lent : List ℕ) → firings_in rs < 65536 → rows step_width (λ b. number16 b 0) (length rs) (joined encode_step rs ++ lent) ≡ each_of_lem rs
unfolding encode_step
firings_read [] lent h = refl
firings_read (r ∷ rs) lent h = λ i. low_high r.firings (omega arith) i ∷ firings_read rs lent (omega arith) i

sum_firings : (rs : List StepRecord) → sum (each_of_lem rs) ≡ firings_in rs
sum_firings [] = refl
sum_firings (r ∷ rs) = ap (λ (n : ℕ). r.firings + n) (sum_firings rs)

each_fires_lem : (rs : List StepRecord) → EachFires rs → All (λ n. 0 < n) (each_of_lem rs)
each_fires_lem [] h = tt
each_fires_lem (r ∷ rs) h = (h.0, each_fires_lem rs h.1)

-- ---- how it ended

token_count : (x : Result) → Quiescent (result_outcome x) → length (result_tokens x) ≡ (Run.answer x).tokens
unfolding Run.answer
token_count (refused_at_once r p) h = absurd h
token_count (ran_to e) h = length-map e.state.tokens token_record

cell_count_lem : (x y : Result) (n : ℕ) → Quiescent (result_outcome x) → Quiescent (result_outcome y) → result_cells x ≡ result_cells y → CellCount y n → CellCount x n
cell_count_lem (refused_at_once r p) y n h k e c = absurd h
cell_count_lem (ran_to e) (refused_at_once r p) n h k q c = absurd k
cell_count_lem (ran_to e) (ran_to f) n h k q c = ap length q ∙ c

-- ---- a profile and a run

module _ (graph arrays inputs : List ℕ) (graph_bytes : Bytes graph) (input_bytes : Bytes inputs) (l : LentToProfile) (m : LentToRun) (allowed : Allowed m.picks (length m.ledger) (length m.cells))
    (capacities : capacity_of (length l.ledger) ≡ capacity_of (length m.ledger)) (counts : length l.cells / cell_width ≡ length m.cells / cell_width)
    (x : LeftByProfile) (y : LeftByRun) (profiledX : ProfiledOn graph arrays inputs l x) (ranY : RanOn graph arrays inputs 2048 m y) (unrefused : ¬ (Refused (outcome_in x.answer.answer.outcome))) where
  abbrev p : ProfileResult
  p = profiled graph arrays inputs (length l.ledger) (length l.cells) (length l.profile)

  abbrev r : Result
  r = result graph arrays inputs m.picks 2048 (length m.ledger) (length m.cells)

  ran_x : Ran p.result x.answer.answer l.ledger x.ledger l.cells x.cells
  unfolding profile_answer
  ran_x = record { answered = ap (λ (a : Profiled). a.answer) profiledX.answered; numbers = ap (λ (a : Profiled). values_of a.answer) profiledX.answered; ledger_left = profiledX.ledger_left; cells_left = profiledX.cells_left }

  outcome_is : x.answer.answer.outcome ≡ (Run.answer p.result).outcome
  outcome_is = ap (λ a. a.outcome) ran_x.answered

  ended : outcome_in x.answer.answer.outcome ≡ result_outcome p.result
  ended = ap outcome_in outcome_is ∙ outcome_said p.result

  ends : ProfileEndsAs p r
  ends =
      as_every_order graph arrays inputs m.picks (length l.ledger) (length m.ledger) (length l.cells) (length m.cells) (length l.profile)
      (λ h. unrefused (subst Refused (sym ended) h)) allowed capacities counts

  rests_y : Quiescent (result_outcome r)
  rests_y = subst Quiescent (sym (outcome_said p.result) ∙ ap outcome_in ends.outcome ∙ outcome_said r) ends.rests

  alike : AlikeBytes (as_run x) y
  alike =
      let fits = result_fits graph arrays inputs m.picks 2048 (length m.ledger) (length m.cells) graph_bytes input_bytes in
      let small = answer_small graph arrays inputs m.picks 2048 (length m.ledger) (length m.cells) in
      let passed = passes graph arrays inputs (length l.ledger) (length l.cells) (length l.profile) (λ h. unrefused (subst Refused (sym ended) h)) in
      let w = (wholes graph arrays inputs (length l.ledger) (length l.cells) (length l.profile) passed).0 in
      let count : CellCount p.result (length l.cells / cell_width) = cell_count_lem p.result r (length l.cells / cell_width) ends.rests rests_y ends.alike.cells (subst (CellCount r) (sym counts) fits.cell_count) in
      bytes_alike p.result r ran_x ranY ends.rests rests_y (outcome_is ∙ ends.outcome ∙ sym (ap (λ a. a.outcome) ranY.answered)) ends.alike
      (all_perm TokenFits (Permᴰ.symm ends.alike.same_tokens) fits.tokens)
      (omega (arith, token_count p.result ends.rests, ends.alike.tokens, small.tokens))
      ((whole_bytes cell_width most_cells (length l.cells) w.whole_cells).0, count)
      ((whole_bytes cell_width most_cells (length m.cells) allowed.allowed_cells).0, fits.cell_count)

  -- the records stand at the start of the profile
  told : firings_recorded x ≡ each_of_lem p.records
  unfolding profile_answer profile_after
  told =
      let small = answer_small graph arrays inputs m.picks 2048 (length m.ledger) (length m.cells) in
      let few : firings_in p.records < 65536 = omega (arith, ends.firings, ends.alike.firings, small.by_tokens, small.tokens) in
      (λ i. rows step_width (λ b. number16 b 0) (profiledX.answered i).records (profiledX.profile_left i)) ∙ firings_read p.records _ few

  ends_as_run : EndsAsRun x y
  ends_as_run = record {
    rests = subst Quiescent (sym ended) ends.rests;
    alike = alike;
    firings = ap sum told ∙ sum_firings p.records ∙ sym ends.firings ∙ sym (ap (λ a. a.firings) ran_x.answered);
    each_fires = subst (All (λ n. 0 < n)) (sym told) (each_fires_lem p.records ends.each_fires);
  }

pub profile_ends_as_run : ProfileEndsAsRun
profile_ends_as_run graph arrays inputs bg bi l m a c d x y px ry n = ends_as_run graph arrays inputs bg bi l m a c d x y px ry n
