-- A turn, by what was chosen for it: the activity that fires has its tag at its place still, and the turn is what the machine makes of the chooser's answer.
-- Assumes nothing.
use Rattle.std.specs.Prelude.{Result}
use Prim.Native.Nat.{ℕ, ◌/◌, ◌<◌}
use mathlib.Core.Path.{◌≡◌, refl, sym, ap, subst, ◌∙◌}
use mathlib.Core.List.{List, map}
use native.Mathlib.Omega.{arith}
use lib.ListN.{length, get_or, length-map}
use lib.IntN.{ℤ}
use Rattle.record.specs.declared.tag.Tag.{Tag}
use Rattle.record.specs.declared.instruction.Instruction.{Instruction}
use Rattle.record.specs.GraphRecords.{graph_of}
use Rattle.record.specs.TokensAndTags.{tokens, token_at}
use Rattle.record.specs.TokensAndTags as Tokens
use Rattle.record.specs.Widths.{token_width, cell_width}
use Rattle.buffer.proofs.Tables.{length_rows, get_d_rows}
use Rattle.machine.specs.Machine.{Key, Token, Effect, Activity, Outcome}
use Rattle.machine.specs.Machine as Machines
use Rattle.machine.specs.Choosers.{Chosen, takes, ends}
use Rattle.rules.specs.declared.answer.Refusal.{Refusal}
use Rattle.rules.specs.declared.answer.Outcome as AnswerOutcome
use Rattle.rules.specs.declared.answer.Outcome.TheVariants as Outcomes
use Rattle.rules.specs.Run.{token_held}
use Rattle.abstraction.specs.States.{no_token}
use Rattle.abstraction.specs.Tables.{arrays_in}
use Rattle.fire_outputs.specs.Outputs.{cells_in}
use Rattle.fire.specs.Running.{machine_over, state_in, Running, Went, Stopped, Prepared}
use Rattle.engine.specs.declared.choice.Order.{Order}
use Rattle.engine.specs.Turns.{chooser_for, HeldBack, Chooses, ChosenAs, TakesPlace, Ends, Advanced, by_choice, by_refusal, Halted}
use Rattle.engine.specs.Keeping.{kept_chosen}
use Rattle.engine.proofs.Choosing.{get_d_map}
use Rattle.engine.proofs.Places.{keys_kept}

-- the tag of a token of the machine's state is that of its record
held_tag : (l : List ℕ) (n i : ℕ) → i < n → (get_or (map token_held (tokens n l)) i (token_held no_token)).key.tag ≡ (token_at l i).tag
held_tag l n i h =
    ap (λ (t : Token Tag ℤ). t.key.tag)
    (get_d_map token_held (tokens n l) i no_token (token_held no_token) (rw (length_rows token_width Tokens.decode_token n l) h) ∙ ap token_held (get_d_rows token_width Tokens.decode_token n i l no_token h))

-- the choice, of the graph and the cells at hand
pub chosen_now : (graph : List ℕ) (order : Order) (source : List ℕ) (f : ℕ) (r : Result ℕ AnswerOutcome.Outcome) (held : List ℕ) {tables links flags ledger cells : List ℕ} {used : ℕ} → ChosenAs r order source f tables flags held ledger used
    → Prepared graph tables → Running (graph_of graph) tables links flags ledger cells used → HeldBack order (graph_of graph) flags held ledger used
    → Chooses r (chooser_for order source (graph_of graph) tables ledger cells f (state_in ledger cells used)) tables ledger used
chosen_now graph order source f r held {tables = tables} {ledger = ledger} {cells = cells} said ready now back =
    said (graph_of graph) ready.arities_right now.arrived back (arrays_in tables) (length ledger / token_width) (length cells / cell_width) (cells_in cells)

-- what is kept, by what was chosen
module _ {S : Type 0} {chosen : Chosen Refusal Tag} (x : S) (keeps : Tag → S) where
  pub kept_ended : {o : Outcome Refusal} → chosen ≡ ends o → x ≡ kept_chosen chosen x keeps
  kept_ended e = sym (ap (λ (c : Chosen Refusal Tag). kept_chosen c x keeps) e)

  pub kept_taken : {a : Activity Tag} → chosen ≡ takes a → {y : S} → y ≡ keeps a.tag → y ≡ kept_chosen chosen x keeps
  kept_taken e k = k ∙ sym (ap (λ (c : Chosen Refusal Tag). kept_chosen c x keeps) e)

module _ {g : List Instruction} {chosen : Chosen Refusal Tag} (asks : Tag → Effect Refusal Tag ℤ) {tables ledger cells : List ℕ} {used : ℕ} where
  pub turn_ended : {links flags : List ℕ} {o : AnswerOutcome.Outcome} → Ends o chosen → Running g tables links flags ledger cells used → Halted o g chosen asks tables links flags ledger cells used ledger cells
  turn_ended e now = record { outcome = e.outcome; told = e.told; stops = by_choice e.ended; running = now; same_ledger = refl; same_cells = refl }

  module _ {place : ℕ} (t : TakesPlace place chosen tables ledger used) {links' flags' ledger' cells' : List ℕ} where
    tag_kept : {n : ℕ} → Went g (token_at ledger place).tag (asks (token_at ledger place).tag) tables links' flags' ledger' cells' n used ledger cells → (token_at ledger' place).tag ≡ (token_at ledger place).tag
    tag_kept {n} w =
        let low = t.below in
        sym (held_tag ledger' n place (omega (arith, w.grown)))
        ∙ ap (λ (k : Key Tag). k.tag) (keys_kept (machine_over g tables ledger cells) (state_in ledger cells used) _ _ _ w.step place (token_held no_token)
        (rw (length-map (tokens used ledger) token_held, length_rows token_width Tokens.decode_token used ledger) low))
        ∙ held_tag ledger used place low

    pub turn_done : {n : ℕ} → Went g (token_at ledger place).tag (asks (token_at ledger place).tag) tables links' flags' ledger' cells' n used ledger cells → Advanced g chosen asks place tables links' flags' ledger' cells' n used ledger cells
    turn_done {n} w = record {
      taken = t.taken ∙ (λ i. takes (record { place = place; tag = sym (tag_kept w) i }));
      below = omega (arith, t.below, w.grown);
      went = subst (λ (τ : Tag). Went g τ (asks τ) tables links' flags' ledger' cells' n used ledger cells) (sym (tag_kept w)) w;
    }

    pub turn_refused : {r : Refusal} → Stopped r g (token_at ledger place).tag (asks (token_at ledger place).tag) tables links' flags' ledger' cells' used ledger cells
        → Halted (Outcomes.Refused r place) g chosen asks tables links' flags' ledger' cells' used ledger cells
    turn_refused {r} w = record {
      outcome = Machines.refused r place;
      told = refl;
      stops = by_refusal (record { place = place; tag = (token_at ledger place).tag }) r t.taken w.step refl;
      running = w.running;
      same_ledger = w.same_ledger;
      same_cells = w.same_cells;
    }
