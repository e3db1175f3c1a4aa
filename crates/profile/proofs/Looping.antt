-- The loop of a profile: what holds after some whole steps, and that a refusal, nothing enabled and no record left end it as the machine's profile ends.
-- Assumes nothing.
use Prim.Native.Nat.{ℕ, suc, ◌+◌, ◌-◌, ◌*◌, ◌/◌, ◌≤◌, ◌<◌}
use mathlib.Core.Path.{◌≡◌, refl, sym, ap, ◌∙◌, subst}
use mathlib.Core.List.{List, [], ◌∷◌, ◌++◌, append-nil}
use native.Mathlib.Omega.{arith}
use native.Mathlib.Numerals.{add-one}
use lib.ListN.{length, drop, length-append, length-drop}
use lib.Seq.{drop-drop, append_snoc}
use lib.IntN.{ℤ}
use Rattle.record.specs.declared.tag.Tag.{Tag}
use Rattle.record.specs.declared.instruction.Instruction.{Instruction}
use Rattle.record.specs.GraphRecords.{graph_of}
use Rattle.record.specs.TokensAndTags.{tokens}
use Rattle.record.specs.Widths.{token_width, cell_width, step_width}
use Rattle.buffer.specs.Rows.{put_row}
use Rattle.buffer.specs.Rows as Rows
use Rattle.buffer.proofs.Tables.{length_joined, put_end}
use Rattle.machine.specs.Machine.{Machine, Outcome, end}
use Rattle.machine.specs.Sequences.{Fires}
use Rattle.machine.specs.Steps.{StepRecord, Profile, ends_here, after_step, profile}
use Rattle.machine.proofs.Sequences.{joined, no_longer}
use Rattle.rules.specs.declared.answer.Refusal.{Refusal}
use Rattle.rules.specs.declared.answer.Refusal.TheVariants.{ProfileFull}
use Rattle.rules.specs.declared.answer.Outcome as AnswerOutcome
use Rattle.rules.specs.InstructionSet.{machine_of}
use Rattle.rules.specs.Run.{outcome_of}
use Rattle.rules.specs.Profile.{encode_step}
use Rattle.rules.proofs.Lawful.{lawful}
use Rattle.store.proofs.Laws.{matching_few}
use Rattle.fire_outputs.specs.Outputs.{cells_in}
use Rattle.fire_outputs.proofs.Laws.{rest_on}
use Rattle.abstraction.specs.Tables.{arrays_in}
use Rattle.fire.specs.Running.{machine_over, state_in, Running, Prepared}
use Rattle.fire.proofs.Place.{on_ports}
use Rattle.start.specs.Ended.{EndedAt}
use Rattle.start.proofs.Ending.{left}
use Rattle.profile.specs.Steps.{unspent_at, profile_from, WentBy, SteppedWhole, ProfileHalted, LastAs, ProfiledTo}
use Rattle.profile.proofs.Stepping.{held_size}

-- ---- firings after firings

module _ (g : List Instruction) (ledger₀ cells₀ : List ℕ) (start : ℕ) {tables links flags ledger cells : List ℕ} {firings used : ℕ}
    (so : WentBy g tables links flags ledger cells firings used start ledger₀ cells₀) where
  -- what holds at the lengths of these buffers holds at those of the first ones, which are the same
  as_first : (P : (capacity count : ℕ) → Type 0) → P (length ledger / token_width) (length cells / cell_width) → P (length ledger₀ / token_width) (length cells₀ / cell_width)
  as_first P h = subst (λ (b : ℕ). P (length ledger₀ / token_width) (b / cell_width)) so.cell_size (subst (λ (b : ℕ). P (b / token_width) (length cells / cell_width)) so.size h)

  pub went_joined : {links' flags' ledger' cells' : List ℕ} {done n : ℕ} → WentBy g tables links' flags' ledger' cells' done n used ledger cells
      → WentBy g tables links' flags' ledger' cells' (firings + done) n start ledger₀ cells₀
  went_joined {ledger' = ledger'} {cells' = cells'} {n = n} w =
      let s = state_in ledger cells used in
      let x = state_in ledger' cells' n in
      record {
        log = so.log ++ w.log;
        fires = joined (machine_over g tables ledger₀ cells₀) so.log w.log (state_in ledger₀ cells₀ start) s x so.fires (as_first (λ p q. Fires (machine_of g (arrays_in tables) p q) s w.log x) w.fires);
        counted = omega (arith, length-append so.log w.log, so.counted, w.counted);
        running = w.running;
        grown = omega (arith, so.grown, w.grown);
        size = w.size ∙ so.size;
        rest = w.rest ∙ rest_on ledger ledger₀ used n w.grown so.rest;
        cell_size = w.cell_size ∙ so.cell_size;
      }

-- "Firings never exceed tokens"
pub firings_few : (graph : List ℕ) {tables links₀ flags₀ links flags ledger₀ cells₀ ledger cells : List ℕ} {start firings used : ℕ} → Prepared graph tables
    → Running (graph_of graph) tables links₀ flags₀ ledger₀ cells₀ start → WentBy (graph_of graph) tables links flags ledger cells firings used start ledger₀ cells₀ → firings ≤ 2048
firings_few graph {tables = tables} {ledger₀ = ledger₀} {cells₀ = cells₀} {ledger = ledger} {cells = cells} {start = start} {used = used} ready now₀ w =
    let M = machine_over (graph_of graph) tables ledger₀ cells₀ in
    let z = (no_longer M (lawful graph ready.passed (arrays_in tables) (length ledger₀ / token_width) (length cells₀ / cell_width)) (state_in ledger₀ cells₀ start) now₀.good w.log (state_in ledger cells used) w.fires).0 in
    omega (arith, z, w.counted, held_size used ledger, matching_few w.running.matching)

-- ---- records after records

abbrev after : List StepRecord → Profile Refusal Tag ℤ → Profile Refusal Tag ℤ
after rs p = record { records = rs ++ p.records; ended = p.ended }

length_record : (r : StepRecord) → length (encode_step r) ≡ step_width
unfolding encode_step
length_record r = refl

-- after some whole steps, from ledger, cells and profile as lent
pub record SoFar (g : List Instruction) (ledger₀ cells₀ profile₀ : List ℕ) (start room : ℕ) (tables links flags ledger cells profile' : List ℕ) (used unspent firings records : ℕ) : Type 0 where
  pub rs : List StepRecord
  pub counted : length rs ≡ records
  pub within : records ≤ room
  pub written : profile' ≡ Rows.joined encode_step rs ++ drop (records * step_width) profile₀
  pub unspent_left : unspent ≡ unspent_at g tables ledger cells used
  pub went : WentBy g tables links flags ledger cells firings used start ledger₀ cells₀
  -- the profile that is left to do
  pub to_do : profile_from g room 0 tables ledger₀ cells₀ start ≡ after rs (profile (machine_over g tables ledger₀ cells₀) ProfileFull (room - records) firings (state_in ledger cells used))

module _ (graph : List ℕ) {tables links₀ flags₀ ledger₀ cells₀ : List ℕ} (profile₀ : List ℕ) {start : ℕ} (room : ℕ) (ready : Prepared graph tables)
    (now₀ : Running (graph_of graph) tables links₀ flags₀ ledger₀ cells₀ start) where
  abbrev g : List Instruction
  g = graph_of graph

  abbrev M₀ : Machine
  M₀ = machine_over g tables ledger₀ cells₀

  pub begun : start ≡ unspent_at g tables ledger₀ cells₀ start → SoFar g ledger₀ cells₀ profile₀ start room tables links₀ flags₀ ledger₀ cells₀ profile₀ start start 0 0
  begun e = record {
    rs = [];
    counted = refl;
    within = omega arith;
    written = refl;
    unspent_left = e;
    went = record { log = []; fires = refl; counted = refl; running = now₀; grown = omega arith; size = refl; rest = refl; cell_size = refl };
    to_do = let b : room ≡ room - 0 = omega arith in ap (λ (n : ℕ). profile_from g n 0 tables ledger₀ cells₀ start) b;
  }

  module _ {links flags ledger cells profile' : List ℕ} {used unspent firings records : ℕ} (so : SoFar g ledger₀ cells₀ profile₀ start room tables links flags ledger cells profile' used unspent firings records) where
    to_do_lem : (b : ℕ) → room - records ≡ b → profile_from g room 0 tables ledger₀ cells₀ start ≡ after so.rs (profile M₀ ProfileFull b firings (state_in ledger cells used))
    to_do_lem b e = so.to_do ∙ ap (λ (n : ℕ). after so.rs (profile M₀ ProfileFull n firings (state_in ledger cells used))) e

    pub same_profile : room * step_width ≤ length profile₀ → length profile' ≡ length profile₀
    same_profile h =
        let b : length (Rows.joined encode_step so.rs) ≡ records * step_width = length_joined step_width encode_step length_record so.rs ∙ ap (λ (k : ℕ). k * step_width) so.counted in
        ap length so.written ∙ omega (arith, length-append (Rows.joined encode_step so.rs) (drop (records * step_width) profile₀), b, length-drop (records * step_width) profile₀, so.within)

    -- a whole step
    pub advanced : records < room → {links' flags' ledger' cells' profile'' : List ℕ} {count n live : ℕ} → SteppedWhole g tables links' flags' ledger' cells' count n live used ledger cells
        → profile'' ≡ put_row step_width profile' records (encode_step (record { firings = count; unspent = live }))
        → SoFar g ledger₀ cells₀ profile₀ start room tables links' flags' ledger' cells' profile'' n live (firings + count) (records + 1)
    advanced h {ledger' = ledger'} {cells' = cells'} {count = count} {n = n} {live = live} w put =
        let r : StepRecord = record { firings = count; unspent = live } in
        let s = state_in ledger cells used in
        let x = state_in ledger' cells' n in
        let b = room - suc records in
        let more : records * step_width + step_width ≡ suc records * step_width = omega arith in
        let step : profile M₀ ProfileFull (suc b) firings s ≡ after_step M₀ r (profile M₀ ProfileFull b (firings + count) x) =
        as_first g ledger₀ cells₀ start so.went
        (λ p q. profile (machine_of g (arrays_in tables) p q) ProfileFull (suc b) firings s ≡ after_step (machine_of g (arrays_in tables) p q) r (profile (machine_of g (arrays_in tables) p q) ProfileFull b (firings + count) x)) (w.goes_on b firings) in
        rw (add-one records) (record {
          rs = so.rs ++ (r ∷ []);
          counted = omega (arith, length-append so.rs (r ∷ []), so.counted);
          within = omega arith;
          written =
              put
              ∙ ap (λ (l : List ℕ). put_row step_width l records (encode_step r)) so.written
              ∙ ap (λ (k : ℕ). put_row step_width (Rows.joined encode_step so.rs ++ drop (records * step_width) profile₀) k (encode_step r)) (sym so.counted)
              ∙ put_end step_width encode_step length_record so.rs (drop (records * step_width) profile₀) r
              ∙ ap (λ (l : List ℕ). Rows.joined encode_step (so.rs ++ (r ∷ [])) ++ l) (drop-drop step_width (records * step_width) profile₀ ∙ ap (λ (k : ℕ). drop k profile₀) more);
          unspent_left = w.unspent_left;
          went = went_joined g ledger₀ cells₀ start so.went w.went;
          to_do =
              to_do_lem (suc b) (omega arith)
              ∙ ap (after so.rs) step
              ∙ (λ i. record { records = sym (append_snoc so.rs r (profile M₀ ProfileFull b (firings + count) x).records) i; ended = (profile M₀ ProfileFull b (firings + count) x).ended });
        })

    ends_at : (o : Outcome Refusal) (w : AnswerOutcome.Outcome) {links' flags' ledger' cells' : List ℕ} {f n : ℕ} → outcome_of o ≡ w
        → WentBy g tables links' flags' ledger' cells' f n start ledger₀ cells₀
        → profile_from g room 0 tables ledger₀ cells₀ start ≡ after so.rs (ends_here M₀ (end M₀ o f (state_in ledger' cells' n)))
        → ProfiledTo (profile_from g room 0 tables ledger₀ cells₀ start) (record { answer = record { outcome = w; firings = f; tokens = n }; records = records }) ledger₀ cells₀ profile₀ ledger' cells' profile'
    ends_at o w {ledger' = ledger'} {cells' = cells'} {f = f} {n = n} told went e =
        subst (λ (p : Profile Refusal Tag ℤ). ProfiledTo p (record { answer = record { outcome = w; firings = f; tokens = n }; records = records }) ledger₀ cells₀ profile₀ ledger' cells' profile') (sym e)
        (record {
          ended = subst (λ (v : AnswerOutcome.Outcome). EndedAt (end M₀ o f (state_in ledger' cells' n)) (record { outcome = v; firings = f; tokens = n }) ledger₀ cells₀ ledger' cells') told
              (left g went.running ledger₀ cells₀ went.rest went.cell_size o f);
          counted = sym (ap length (append-nil so.rs) ∙ so.counted);
          profile_left =
              so.written
              ∙ ap (λ (k : ℕ). Rows.joined encode_step so.rs ++ drop k profile₀) (sym (length_joined step_width encode_step length_record so.rs ∙ ap (λ (k : ℕ). k * step_width) so.counted))
              ∙ ap (λ (l : List StepRecord). Rows.written_over encode_step l profile₀) (sym (append-nil so.rs));
        })

    -- a step that ended the profile
    pub halted : records < room → {o : AnswerOutcome.Outcome} {links' flags' ledger' cells' : List ℕ} {done n : ℕ} → ProfileHalted o g tables links' flags' ledger' cells' done n used ledger cells
        → ProfiledTo (profile_from g room 0 tables ledger₀ cells₀ start) (record { answer = record { outcome = o; firings = firings + done; tokens = n }; records = records }) ledger₀ cells₀ profile₀ ledger' cells' profile'
    halted h {o} {ledger' = ledger'} {cells' = cells'} {done = done} {n = n} w =
        let s = state_in ledger cells used in
        let b = room - suc records in
        let step : profile M₀ ProfileFull (suc b) firings s ≡ ends_here M₀ (end M₀ w.outcome (firings + done) (state_in ledger' cells' n)) =
        as_first g ledger₀ cells₀ start so.went
        (λ p q. profile (machine_of g (arrays_in tables) p q) ProfileFull (suc b) firings s ≡ ends_here (machine_of g (arrays_in tables) p q) (end (machine_of g (arrays_in tables) p q) w.outcome (firings + done) (state_in ledger' cells' n))) (w.ends b firings) in
        ends_at w.outcome o w.told (went_joined g ledger₀ cells₀ start so.went w.went) (to_do_lem (suc b) (omega arith) ∙ ap (after so.rs) step)

    -- no record is left
    pub finished : room ≤ records → (o : AnswerOutcome.Outcome) → LastAs o tables (tokens used ledger)
        → ProfiledTo (profile_from g room 0 tables ledger₀ cells₀ start) (record { answer = record { outcome = o; firings = firings; tokens = used }; records = records }) ledger₀ cells₀ profile₀ ledger cells profile'
    finished h o said =
        let (w, told, e) = said g ready.arities_right (on_ports g (tokens used ledger) so.went.running.arrived) (arrays_in tables) (length ledger₀ / token_width) (length cells₀ / cell_width)
        (lawful graph ready.passed (arrays_in tables) (length ledger₀ / token_width) (length cells₀ / cell_width)) (cells_in cells) firings in
        ends_at w o told so.went (to_do_lem 0 (omega arith) ∙ ap (after so.rs) e)
