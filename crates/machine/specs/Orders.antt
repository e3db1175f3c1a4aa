-- 01, "Any two orders", and what else is claimed of every run: the statements, over any machine with a lawful instruction set.
-- They are proved in proofs/: Orders and Reached. Assumes nothing.
use Rattle.std.specs.Prelude.{◌≡◌, ◌↔◌, ℕ, zero, suc, ◌+◌, ◌≤◌, ◌<◌, length, replicate}
use mathlib.Core.List.{List, [], ◌∷◌, Memᴰ, Permᴰ}
use Rattle.std.proofs.Math.Option.{Option, none, some}
use Rattle.machine.specs.Machine.{Key, Content, live, spent, deferred, absent, waiting, Effect, refuse, send, read, write, Machine, Activity, fired, not_fired}
use Rattle.machine.specs.Machine.{Outcome, completed, hung, budget_spent, refused, End, on_option, cell_at, Ledger, StateOf, Choice}
use Rattle.machine.specs.Machine.{at, find, look, operands, enabled, fire, run_by}

-- ---- what is assumed of a machine and of the state from which it runs

-- an effect names only cells below the count
abbrev pub CellsBelow : {R T W : Type 0} → (count : ℕ) → Effect R T W → Type 0
CellsBelow n (refuse r) = Unit {0}
CellsBelow n (send v keys) = Unit {0}
CellsBelow n (read c keys) = c < n
CellsBelow n (write c v keys) = c < n

-- a read has a key at least: somebody waits for the cell
abbrev pub ReadsForSome : {R T W : Type 0} → Effect R T W → Type 0
ReadsForSome (refuse r) = Unit {0}
ReadsForSome (send v keys) = Unit {0}
ReadsForSome (read c keys) = 0 < length keys
ReadsForSome (write c v keys) = Unit {0}

pub record Lawful (M : Machine) : Type 0 where
  pub cells_below : (τ : M.Tag) (v w : M.Value) → CellsBelow M.cell_count (M.effect τ v w)
  pub reads_for_some : (τ : M.Tag) (v w : M.Value) → ReadsForSome (M.effect τ v w)

abbrev pub Live : {W : Type 0} → Option (Content W) → Type 0
Live {W} x = (v : W) × (x ≡ some (live v))

abbrev pub SpentContent : {W : Type 0} → Option (Content W) → Type 0
SpentContent {W} x = (v : W) × (x ≡ some (spent v))

module _ (M : Machine) where
  -- keys pairwise different: no token after it has a token's key
  abbrev pub Distinct : Ledger M → Type 0
  Distinct [] = Unit {0}
  Distinct (t ∷ ts) = (find M t.key ts ≡ none) × Distinct ts

  abbrev pub AllLive : Ledger M → Type 0
  AllLive [] = Unit {0}
  AllLive (t ∷ ts) = Live (some t.content) × AllLive ts

  -- a well-formed state
  pub record Good (s : StateOf M) : Type 0 where
    pub distinct : Distinct s.tokens
    pub room : length s.tokens ≤ M.capacity
    pub cell_count : length s.cells ≡ M.cell_count

  -- "Firing starts from the inputs in the ledger and all cells absent"
  pub record Start (s : StateOf M) : Type 0 where
    pub distinct : Distinct s.tokens
    pub room : length s.tokens ≤ M.capacity
    pub all_live : AllLive s.tokens
    pub absent_cells : s.cells ≡ replicate M.cell_count absent

  -- a choice takes one of the enabled
  abbrev pub LawfulChoice : Choice M → Type 0
  LawfulChoice choose = (s : StateOf M) (pick : ℕ) (a : Activity M.Tag) (more : List (Activity M.Tag)) → Memᴰ (choose s pick a more) (a ∷ more)

-- ---- how a run ended: said of its outcome, here and at every level above

abbrev pub Completed : {R : Type 0} → Outcome R → Type 0
Completed completed = Unit {0}
Completed hung = ⊥
Completed budget_spent = ⊥
Completed (refused r place) = ⊥

abbrev pub Hung : {R : Type 0} → Outcome R → Type 0
Hung completed = ⊥
Hung hung = Unit {0}
Hung budget_spent = ⊥
Hung (refused r place) = ⊥

-- completed or hung: nothing is enabled
abbrev pub Quiescent : {R : Type 0} → Outcome R → Type 0
Quiescent completed = Unit {0}
Quiescent hung = Unit {0}
Quiescent budget_spent = ⊥
Quiescent (refused r place) = ⊥

abbrev pub Spent : {R : Type 0} → Outcome R → Type 0
Spent completed = ⊥
Spent hung = ⊥
Spent budget_spent = Unit {0}
Spent (refused r place) = ⊥

abbrev pub Refused : {R : Type 0} → Outcome R → Type 0
Refused completed = ⊥
Refused hung = ⊥
Refused budget_spent = ⊥
Refused (refused r place) = Unit {0}

abbrev pub RefusedBy : {R : Type 0} → R → Outcome R → Type 0
RefusedBy r completed = ⊥
RefusedBy r hung = ⊥
RefusedBy r budget_spent = ⊥
RefusedBy r (refused q place) = q ≡ r

-- ---- any two orders

-- completed or hung alike, as many firings, as many tokens, the same cells, and the same tokens in whatever order they came
pub record AlikeEnds {R T W : Type 0} (x y : End R T W) : Type 0 where
  pub outcome : x.outcome ≡ y.outcome
  pub firings : x.firings ≡ y.firings
  pub count : length x.state.tokens ≡ length y.state.tokens
  pub cells : x.state.cells ≡ y.state.cells
  pub tokens : Permᴰ x.state.tokens y.state.tokens

-- one completes exactly when the other does, one hangs exactly when the other does, and then they are alike. R-2: "completed or
-- hung alike in all, with everything else equal"
pub record EndsAgree {R T W : Type 0} (x y : End R T W) : Type 0 where
  pub completes : Completed x.outcome ↔ Completed y.outcome
  pub hangs : Hung x.outcome ↔ Hung y.outcome
  pub alike : Quiescent x.outcome → AlikeEnds x y

module _ (M : Machine) where
  -- from any well-formed state, for any two lawful choices, any two lists of picks, any budget; f firings were done before
  abbrev pub AnyTwoOrdersOfMachine : Type 0
  AnyTwoOrdersOfMachine = (c d : Choice M) → LawfulChoice M c → LawfulChoice M d → (s : StateOf M) → Good M s → (budget : ℕ) (picks picks' : List ℕ) (f : ℕ)
      → EndsAgree (run_by M c budget picks f s) (run_by M d budget picks' f s)

  -- and for any two budgets that are each enough: a run that completes or hangs tells how every run ends whose budget has room for its firings
  abbrev pub AnyTwoBudgetsOfMachine : Type 0
  AnyTwoBudgetsOfMachine = (c d : Choice M) → LawfulChoice M c → LawfulChoice M d → (s : StateOf M) → Good M s → (budget budget' : ℕ) (picks picks' : List ℕ) (f : ℕ)
      → Quiescent (run_by M c budget picks f s).outcome → (run_by M c budget picks f s).firings ≤ f + budget' → AlikeEnds (run_by M c budget picks f s) (run_by M d budget' picks' f s)

  -- as many firings as the ledger has room for tokens are enough
  abbrev pub NeverSpent : Type 0
  NeverSpent = (c : Choice M) → LawfulChoice M c → (s : StateOf M) → Good M s → (budget : ℕ) (picks : List ℕ) (f : ℕ) → M.capacity ≤ budget
      → ¬ (Spent (run_by M c budget picks f s).outcome)

  -- "If one order is refused, every order is, though another may be refused by another number."
  abbrev pub AllRefused : Type 0
  AllRefused = (c d : Choice M) → LawfulChoice M c → LawfulChoice M d → (s : StateOf M) → Good M s → (budget : ℕ) (picks picks' : List ℕ) (f : ℕ) → M.capacity ≤ budget
      → Refused (run_by M c budget picks f s).outcome ↔ Refused (run_by M d budget picks' f s).outcome

  -- ---- what is reached

  -- the outputs of an effect
  abbrev pub effect_keys : Effect M.Refusal M.Tag M.Value → List (Key M.Tag)
  effect_keys (refuse r) = []
  effect_keys (send v keys) = keys
  effect_keys (read c keys) = keys
  effect_keys (write c v keys) = keys

  -- how many outputs a firing has
  abbrev pub outputs : StateOf M → M.Tag → ℕ
  outputs s τ = on_option (operands M (look M s) τ) 0 (λ p. length (effect_keys (M.effect τ p.left p.right)))

  -- x is reached from s by firings that sent this number of outputs in all: the last of them, of τ, came after y
  abbrev pub Reached : StateOf M → (firings : ℕ) → (sent : ℕ) → StateOf M → Type 0
  Reached s zero o x = (o ≡ 0) × (x ≡ s)
  Reached s (suc f) o x = (y : StateOf M) × (n : ℕ) × (τ : M.Tag) × Reached s f n y × (fire M y τ ≡ fired x) × (o ≡ n + outputs y τ)

  -- what holds of a state x that is reached from the inputs s
  pub record Invariants (s : StateOf M) (f o : ℕ) (x : StateOf M) : Type 0 where
    -- "In a whole run a tag receives at most one token on each port."
    pub distinct : Distinct M x.tokens
    pub room : length x.tokens ≤ M.capacity
    pub cell_count : length x.cells ≡ M.cell_count
    -- "Firings never exceed tokens."
    pub firings : f ≤ length x.tokens
    -- "Tokens used equal the input tokens plus the outputs of all firings."
    pub count : length x.tokens ≡ length s.tokens + o
    -- a deferred token's cell is waiting, and for a waiting cell there is a deferred token
    pub deferred_waits : (k : Key M.Tag) (c : ℕ) → find M k x.tokens ≡ some (deferred c) → cell_at x.cells c ≡ waiting
    pub waiting_defers : (c : ℕ) → cell_at x.cells c ≡ waiting → (k : Key M.Tag) × (find M k x.tokens ≡ some (deferred c))
    -- the operands of a tag are all spent or none is
    pub spent_together : (τ : M.Tag) (p q : ℕ) → p < M.arity τ → q < M.arity τ → SpentContent (find M (at M τ p) x.tokens) → SpentContent (find M (at M τ q) x.tokens)
    -- what is no operand is never spent: results are not
    pub others_unspent : (τ : M.Tag) (p : ℕ) → M.arity τ ≤ p → ¬ (SpentContent (find M (at M τ p) x.tokens))

  -- ---- how a run ends

  -- "every live token is at an OUT and none is deferred"
  abbrev pub ProperContentAt : (arity : ℕ) → Content M.Value → Type 0
  ProperContentAt arity (live v) = arity ≡ 0
  ProperContentAt arity (spent v) = Unit {0}
  ProperContentAt arity (deferred c) = ⊥

  abbrev pub AllProper : Ledger M → Type 0
  AllProper [] = Unit {0}
  AllProper (t ∷ ts) = ProperContentAt (M.arity t.key.tag) t.content × AllProper ts

  -- by its outcome: completed or hung, no activity is enabled, and all tokens are proper or not all are. "Spent: the budget's firings
  -- are done and one is still enabled." Refused: an enabled activity is refused in the state that is left, and the place is its place
  abbrev pub Says : Outcome M.Refusal → (budget n : ℕ) → StateOf M → Type 0
  Says completed budget n x = (enabled M x ≡ []) × AllProper x.tokens
  Says hung budget n x = (enabled M x ≡ []) × ¬ (AllProper x.tokens)
  Says budget_spent budget n x = (n ≡ budget) × (a : Activity M.Tag) × Memᴰ a (enabled M x)
  Says (refused r place) budget n x = (n < budget) × (a : Activity M.Tag) × Memᴰ a (enabled M x) × (a.place ≡ place) × (fire M x a.tag ≡ not_fired r)
