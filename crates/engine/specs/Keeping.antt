-- Working definition: no public promise cites it.
-- A run by any operation, which may keep something from one firing to the next, in the terms of the machine. By the plain one, which keeps nothing, it is `run_from`
-- (proofs/Keeping). Assumes nothing.
use Rattle.std.specs.Prelude.{ℕ, zero, suc, ◌/◌, ◌≡◌, List, [], ◌∷◌, length, ℤ}
use Rattle.record.specs.declared.tag.Tag.{Tag}
use Rattle.record.specs.declared.instruction.Instruction.{Instruction}
use Rattle.record.specs.GraphRecords.{graph_of}
use Rattle.record.specs.Widths.{cell_width}
use Rattle.machine.specs.Machine.{Machine, StateOf, EffectOf, FiredOf, Activity, fired, not_fired, refused, End, commit, end}
use Rattle.machine.specs.Bounded.{settled}
use Rattle.machine.specs.Choosers.{Chosen, on_chosen, Chooser, rests_at}
use Rattle.machine.specs.Sequences.{if_fired}
use Rattle.rules.specs.declared.answer.Refusal.{Refusal}
use Rattle.rules.specs.declared.answer.Answer.{Answer}
use Rattle.rules.specs.Held.{held_in}
use Rattle.abstraction.specs.Tables.{arrays_in}
use Rattle.fire.specs.Running.{machine_over, state_in}
use Rattle.fire.specs.Operating.{Asks, Keeps, asked_with, kept_with}
use Rattle.start.specs.Begun.{Begun}
use Rattle.engine.specs.declared.choice.Order.{Order}
use Rattle.engine.specs.declared.choice.Order.TheVariants as Orders
use Rattle.engine.specs.Turns.{chooser_for, recorded, Proceeded}

-- the end of a run, and what is kept at it
pub record Kept (S F T W : Type 0) : Type 0 where
  pub kept : S
  pub ended : End F T W

-- by what was chosen: at the run's end all is kept
abbrev pub kept_chosen : {S R T : Type 0} → Chosen R T → S → (T → S) → S
kept_chosen chosen x keeps = on_chosen chosen (λ o. x) (λ a. keeps a.tag)

module _ (M : Machine) {S : Type 0} (asks : S → M.Tag → M.Value → M.Value → EffectOf M) (keeps : S → M.Tag → M.Value → M.Value → S) where
  abbrev pub KeptOf : Type 0
  KeptOf = Kept S M.Refusal M.Tag M.Value

  abbrev pub after_kept : (f : ℕ) → S → StateOf M → Activity M.Tag → FiredOf M → (StateOf M → KeptOf) → KeptOf
  after_kept f y s a (fired z) next = next z
  after_kept f y s a (not_fired r) next = record { kept = y; ended = end M (refused r a.place) f s }

  -- by a chooser, as `run_from`; f firings were done before
  unfoldable pub run_keeping : Chooser M → (budget f : ℕ) → S → StateOf M → KeptOf
  run_keeping choose zero f x s = record { kept = x; ended = rests_at M f s }
  run_keeping choose (suc budget) f x s =
      on_chosen (choose f s) (λ o. record { kept = x; ended = end M o f s }) (λ a.
      let y = kept_with M x (keeps x) s a.tag in
      after_kept f y s a (commit M s a.tag (asked_with M (asks x) s a.tag)) (λ z. run_keeping choose budget (suc f) y z))

  -- its log
  unfoldable pub log_keeping : Chooser M → (budget f : ℕ) → S → StateOf M → List M.Tag
  log_keeping choose zero f x s = []
  log_keeping choose (suc budget) f x s =
      on_chosen (choose f s) (λ o. []) (λ a.
      if_fired (commit M s a.tag (asked_with M (asks x) s a.tag)) (λ z. a.tag ∷ log_keeping choose budget (suc f) (kept_with M x (keeps x) s a.tag) z) [])

-- from a state over bytes
module _ {S : Type 0} (asks : S → Asks) (keeps : S → Keeps S) (order : Order) (source : List ℕ) (g : List Instruction) (tables ledger cells : List ℕ) where
  abbrev pub run_over : (budget f : ℕ) → S → StateOf (machine_over g tables ledger cells) → Kept S Refusal Tag ℤ
  run_over = run_keeping (machine_over g tables ledger cells) (λ x. asks x g (arrays_in tables) (length cells / cell_width)) (λ x. keeps x g (arrays_in tables) (length cells / cell_width)) (chooser_for order source g tables ledger cells)

  abbrev pub log_over : (budget f : ℕ) → S → StateOf (machine_over g tables ledger cells) → List Tag
  log_over = log_keeping (machine_over g tables ledger cells) (λ x. asks x g (arrays_in tables) (length cells / cell_width)) (λ x. keeps x g (arrays_in tables) (length cells / cell_width)) (chooser_for order source g tables ledger cells)

  abbrev pub end_keeping : (used budget : ℕ) → S → Kept S Refusal Tag ℤ
  end_keeping used budget x = run_over budget 0 x (state_in ledger cells used)

  abbrev pub fired_keeping : (used budget : ℕ) → S → List Tag
  fired_keeping used budget x = log_over budget 0 x (state_in ledger cells used)

-- an end that is settled where the order has a bound
abbrev pub settled_by : Order → List Instruction → (tables ledger cells : List ℕ) → End Refusal Tag ℤ → End Refusal Tag ℤ
settled_by Orders.Oldest g tables ledger cells e = e
settled_by Orders.Picks g tables ledger cells e = e
settled_by Orders.Log g tables ledger cells e = e
settled_by (Orders.Free k) g tables ledger cells e = settled (machine_over g tables ledger cells) (held_in g k) 0 e

-- from the inputs: a run began, and went on to its end
pub record FromInputs {S : Type 0} (asks : S → Asks) (keeps : S → Keeps S) (order : Order) (source : List ℕ) (budget : ℕ) (graph arrays inputs : List ℕ) (x x' : S) (r : Answer) (ledger cells log ledger' cells' log' : List ℕ) : Type 0 where
  pub tables : List ℕ
  pub links : List ℕ
  pub flags : List ℕ
  pub ledger₁ : List ℕ
  pub cells₁ : List ℕ
  pub used : ℕ
  pub begun : Begun graph arrays inputs tables links flags ledger ledger₁ cells cells₁ used
  pub links' : List ℕ
  pub flags' : List ℕ
  pub proceeded : Proceeded (settled_by order (graph_of graph) tables ledger₁ cells₁ (end_keeping asks keeps order source (graph_of graph) tables ledger₁ cells₁ used budget x).ended) r (graph_of graph) tables links' flags' ledger' cells' used ledger₁ cells₁
  pub log_after : log' ≡ recorded (fired_keeping asks keeps order source (graph_of graph) tables ledger₁ cells₁ used budget x) log
  pub kept : x' ≡ (end_keeping asks keeps order source (graph_of graph) tables ledger₁ cells₁ used budget x).kept
