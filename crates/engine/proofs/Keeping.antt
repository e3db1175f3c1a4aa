-- A run by any operation, a turn at a time; and by the plain one, which keeps nothing, it is the machine's own (`plain_run`, `plain_log`). Assumes nothing.
use Prim.Native.Nat.{ℕ, zero, suc}
use mathlib.Core.Path.{◌≡◌, refl, sym, ap, subst, ◌∙◌}
use mathlib.Core.List.{List, [], ◌∷◌}
use mathlib.Core.Option.{Option, none, some}
use lib.IntN.{ℤ}
use Rattle.record.specs.declared.tag.Tag.{Tag}
use Rattle.record.specs.declared.instruction.Instruction.{Instruction}
use Rattle.machine.specs.Machine.{Machine, StateOf, EffectOf, Operands, Activity, Outcome, FiredOf, fired, not_fired, refused, on_option, look, operands, commit, fire, after, End, end}
use Rattle.machine.specs.Choosers.{Chosen, takes, ends, on_chosen, Chooser, rests_at, run_from, log_from}
use Rattle.machine.specs.Sequences.{if_fired}
use Rattle.rules.specs.declared.answer.Refusal.{Refusal}
use Rattle.rules.specs.declared.answer.Answer.{Answer}
use Rattle.rules.specs.InstructionSet.{effect_in}
use Rattle.fire.specs.Running.{machine_over, state_in, asked}
use Rattle.fire.specs.Operating.{Keeps, asked_with, kept_with}
use Rattle.fire.proofs.Effects.{fires_asked}
use Rattle.engine.specs.declared.choice.Order.{Order}
use Rattle.engine.specs.declared.choice.Order.TheVariants.{Oldest, Picks, Log, Free}
use Rattle.engine.specs.Turns.{chooser_for, Stops, by_choice, by_refusal, end_of, fired_by, Proceeded, end_by}
use Rattle.engine.specs.Keeping.{Kept, kept_chosen, after_kept, run_keeping, log_keeping, end_keeping, fired_keeping, settled_by}

module _ (M : Machine) {S : Type 0} (asks : S → M.Tag → M.Value → M.Value → EffectOf M) (keeps : S → M.Tag → M.Value → M.Value → S) where
  module _ (c : Chooser M) (f : ℕ) (x : S) (s : StateOf M) where
    pub keeping_zero : run_keeping M asks keeps c 0 f x s ≡ record { kept = x; ended = rests_at M f s }
    unfolding run_keeping
    keeping_zero = refl

    pub logging_zero : log_keeping M asks keeps c 0 f x s ≡ []
    unfolding log_keeping
    logging_zero = refl

    module _ (b : ℕ) where
      -- a turn that fired
      module _ (a : Activity M.Tag) (e : c f s ≡ takes a) (z : StateOf M) (h : commit M s a.tag (asked_with M (asks x) s a.tag) ≡ fired z) where
        pub keeping_fired : run_keeping M asks keeps c (suc b) f x s ≡ run_keeping M asks keeps c b (suc f) (kept_with M x (keeps x) s a.tag) z
        unfolding run_keeping
        keeping_fired = rw (e, h)

        pub logging_fired : log_keeping M asks keeps c (suc b) f x s ≡ a.tag ∷ log_keeping M asks keeps c b (suc f) (kept_with M x (keeps x) s a.tag) z
        unfolding log_keeping
        logging_fired = rw (e, h)

      -- a turn that ended the run
      ended_choice : (o : Outcome M.Refusal) → c f s ≡ ends o → run_keeping M asks keeps c (suc b) f x s ≡ record { kept = x; ended = end M o f s }
      unfolding run_keeping
      ended_choice o e = rw e

      ended_refusal : (a : Activity M.Tag) (r : M.Refusal) → c f s ≡ takes a → commit M s a.tag (asked_with M (asks x) s a.tag) ≡ not_fired r
          → run_keeping M asks keeps c (suc b) f x s ≡ record { kept = kept_with M x (keeps x) s a.tag; ended = end M (refused r a.place) f s }
      unfolding run_keeping
      ended_refusal a r e h = rw (e, h)

      logged_choice : (o : Outcome M.Refusal) → c f s ≡ ends o → log_keeping M asks keeps c (suc b) f x s ≡ []
      unfolding log_keeping
      logged_choice o e = rw e

      logged_refusal : (a : Activity M.Tag) (r : M.Refusal) → c f s ≡ takes a → commit M s a.tag (asked_with M (asks x) s a.tag) ≡ not_fired r → log_keeping M asks keeps c (suc b) f x s ≡ []
      unfolding log_keeping
      logged_refusal a r e h = rw (e, h)

      pub keeping_stopped : (o : Outcome M.Refusal) → Stops M s (c f s) (asked_with M (asks x) s) o
          → run_keeping M asks keeps c (suc b) f x s ≡ record { kept = kept_chosen (c f s) x (kept_with M x (keeps x) s); ended = end M o f s }
      keeping_stopped o (by_choice e) = ended_choice o e ∙ (λ i. record { kept = kept_chosen (sym e i) x (kept_with M x (keeps x) s); ended = end M o f s })
      keeping_stopped o (by_refusal a r e h q) = ended_refusal a r e h ∙ (λ i. record { kept = kept_chosen (sym e i) x (kept_with M x (keeps x) s); ended = end M (sym q i) f s })

      pub logging_stopped : (o : Outcome M.Refusal) → Stops M s (c f s) (asked_with M (asks x) s) o → log_keeping M asks keeps c (suc b) f x s ≡ []
      logging_stopped o (by_choice e) = logged_choice o e
      logging_stopped o (by_refusal a r e h q) = logged_refusal a r e h

-- ---- the plain operation

module _ (M : Machine) {S : Type 0} (x : S) (c : Chooser M) where
  abbrev plainly : S → M.Tag → M.Value → M.Value → EffectOf M
  plainly y = M.effect

  abbrev same : S → M.Tag → M.Value → M.Value → S
  same y τ a b = y

  kept_same : (s : StateOf M) (τ : M.Tag) → kept_with M x (λ σ a b. x) s τ ≡ x
  kept_same s τ = go (operands M (look M s) τ)
    where
      go : (q : Option (Operands M.Value)) → on_option q x (λ p. x) ≡ x
      go none = refl
      go (some p) = refl

  pub plain_run : (b f : ℕ) (s : StateOf M) → run_keeping M plainly same c b f x s ≡ record { kept = x; ended = run_from M c b f s }
  unfolding run_keeping run_from
  plain_run zero f s = refl
  plain_run (suc b) f s = go (λ z. plain_run b (suc f) z) (c f s)
    where
      went : ((z : StateOf M) → run_keeping M plainly same c b (suc f) x z ≡ record { kept = x; ended = run_from M c b (suc f) z }) → (a : Activity M.Tag) (r : FiredOf M)
          → after_kept M plainly same f x s a r (λ z. run_keeping M plainly same c b (suc f) x z) ≡ record { kept = x; ended = after M f s a r (λ z. run_from M c b (suc f) z) }
      went h a (fired z) = h z
      went h a (not_fired r) = refl

      go : ((z : StateOf M) → run_keeping M plainly same c b (suc f) x z ≡ record { kept = x; ended = run_from M c b (suc f) z }) → (o : Chosen M.Refusal M.Tag) → ◌≡◌ {A = Kept S M.Refusal M.Tag M.Value}
          (on_chosen o (λ o. record { kept = x; ended = end M o f s }) (λ a. after_kept M plainly same f (kept_with M x (same x) s a.tag) s a (commit M s a.tag (asked M s a.tag)) (λ z. run_keeping M plainly same c b (suc f) (kept_with M x (same x) s a.tag) z)))
          (record { kept = x; ended = on_chosen o (λ o. end M o f s) (λ a. after M f s a (fire M s a.tag) (λ z. run_from M c b (suc f) z)) })
      go h (ends o) = refl
      go h (takes a) =
          (λ i. after_kept M plainly same f (kept_same s a.tag i) s a (commit M s a.tag (asked M s a.tag)) (λ z. run_keeping M plainly same c b (suc f) (kept_same s a.tag i) z))
          ∙ went h a (commit M s a.tag (asked M s a.tag))
          ∙ (λ i. record { kept = x; ended = after M f s a (sym (fires_asked M s a.tag) i) (λ z. run_from M c b (suc f) z) })

  pub plain_log : (b f : ℕ) (s : StateOf M) → log_keeping M plainly same c b f x s ≡ log_from M c b f s
  unfolding log_keeping log_from
  plain_log zero f s = refl
  plain_log (suc b) f s = go (λ z. plain_log b (suc f) z) (c f s)
    where
      went : ((z : StateOf M) → log_keeping M plainly same c b (suc f) x z ≡ log_from M c b (suc f) z) → (a : Activity M.Tag) (r : FiredOf M) → if_fired r (λ z. a.tag ∷ log_keeping M plainly same c b (suc f) x z) [] ≡ if_fired r (λ z. a.tag ∷ log_from M c b (suc f) z) []
      went h a (fired z) = ap (λ τs. a.tag ∷ τs) (h z)
      went h a (not_fired r) = refl

      go : ((z : StateOf M) → log_keeping M plainly same c b (suc f) x z ≡ log_from M c b (suc f) z) → (o : Chosen M.Refusal M.Tag) → on_chosen o (λ o. []) (λ a. if_fired (commit M s a.tag (asked M s a.tag)) (λ z. a.tag ∷ log_keeping M plainly same c b (suc f) (kept_with M x (same x) s a.tag) z) [])
          ≡ on_chosen o (λ o. []) (λ a. if_fired (fire M s a.tag) (λ z. a.tag ∷ log_from M c b (suc f) z) [])
      go h (ends o) = refl
      go h (takes a) =
          (λ i. if_fired (commit M s a.tag (asked M s a.tag)) (λ z. a.tag ∷ log_keeping M plainly same c b (suc f) (kept_same s a.tag i) z) [])
          ∙ went h a (commit M s a.tag (asked M s a.tag))
          ∙ ap (λ r. if_fired r (λ z. a.tag ∷ log_from M c b (suc f) z) []) (sym (fires_asked M s a.tag))

-- over bytes
module _ {S : Type 0} (x : S) (order : Order) (source : List ℕ) (g : List Instruction) (tables ledger cells : List ℕ) (used budget : ℕ) where
  abbrev nothing : S → Keeps S
  nothing y g table n τ a b = y

  pub end_plain : end_keeping (λ y. effect_in) nothing order source g tables ledger cells used budget x ≡ record { kept = x; ended = end_of order source g tables ledger cells used budget }
  end_plain = plain_run (machine_over g tables ledger cells) x (chooser_for order source g tables ledger cells) budget 0 (state_in ledger cells used)

  pub fired_plain : fired_keeping (λ y. effect_in) nothing order source g tables ledger cells used budget x ≡ fired_by order source g tables ledger cells used budget
  fired_plain = plain_log (machine_over g tables ledger cells) x (chooser_for order source g tables ledger cells) budget 0 (state_in ledger cells used)

settled_end_of : (order : Order) (source : List ℕ) (g : List Instruction) (tables ledger cells : List ℕ) (used budget : ℕ)
    → settled_by order g tables ledger cells (end_of order source g tables ledger cells used budget) ≡ end_by order source g tables ledger cells used budget
settled_end_of Oldest source g tables ledger cells used budget = refl
settled_end_of Picks source g tables ledger cells used budget = refl
settled_end_of Log source g tables ledger cells used budget = refl
settled_end_of (Free k) source g tables ledger cells used budget = refl

pub proceeded_plain : {S : Type 0} (x : S) (order : Order) (source : List ℕ) (g : List Instruction) (tables ledger cells : List ℕ) (used budget : ℕ) {r : Answer} {links flags ledger' cells' : List ℕ}
    → Proceeded (settled_by order g tables ledger cells (end_keeping (λ y. effect_in) (λ y g table n τ a b. y) order source g tables ledger cells used budget x).ended) r g tables links flags ledger' cells' used ledger cells
    → Proceeded (end_by order source g tables ledger cells used budget) r g tables links flags ledger' cells' used ledger cells
proceeded_plain {S} x order source g tables ledger cells used budget {r} {links} {flags} {ledger'} {cells'} p =
    subst (λ (e : End Refusal Tag ℤ). Proceeded e r g tables links flags ledger' cells' used ledger cells)
    (ap (λ (k : Kept S Refusal Tag ℤ). settled_by order g tables ledger cells k.ended) (end_plain x order source g tables ledger cells used budget) ∙ settled_end_of order source g tables ledger cells used budget) p
