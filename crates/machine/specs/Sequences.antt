-- Firing sequences: activities that fire one after the other, whoever chose them; what is stated of any two of them; and that every run is
-- one, its log. Proved in proofs/: Sequences and Runs. Assumes nothing.
use Rattle.std.specs.Prelude.{◌≡◌, Bool, true, false, ◌&&◌, cond, ℕ, zero, suc, ◌+◌, ◌≤◌, ◌<◌, eqb, length}
use mathlib.Core.List.{List, [], ◌∷◌, Memᴰ, Permᴰ}
use Rattle.std.proofs.Math.Option.{Option, none, some}
use Rattle.machine.specs.Machine.{Content, live, spent, deferred, Token, State, Machine, Activity, Fired, fired, not_fired, on_list, first_pick, later_picks}
use Rattle.machine.specs.Machine.{Ledger, StateOf, EndOf, enabled, fire, Choice, run_by}
use Rattle.machine.specs.Orders.{Good, LawfulChoice, Says}

-- each once: nothing stands in the list twice
abbrev pub Once : {A : Type 0} → List A → Type 0
Once [] = Unit {0}
Once (a ∷ l) = ¬ (Memᴰ a l) × Once l

-- as many tokens, the same cells, and the same tokens in whatever order they came
pub record AlikeStates {T W : Type 0} (x y : State T W) : Type 0 where
  pub count : length x.tokens ≡ length y.tokens
  pub cells : x.cells ≡ y.cells
  pub tokens : Permᴰ x.tokens y.tokens

abbrev pub is_spent : {W : Type 0} → Content W → Bool
is_spent (live v) = false
is_spent (spent v) = true
is_spent (deferred c) = false

abbrev pub is_spent_there : {W : Type 0} → Option (Content W) → Bool
is_spent_there none = false
is_spent_there (some x) = is_spent x

-- a spent token on port 0
abbrev pub is_spent_first : {T W : Type 0} → Token T W → Bool
is_spent_first t = eqb t.key.port 0 && is_spent t.content

abbrev pub if_fired : {R T W A : Type 0} → Fired R T W → (State T W → A) → A → A
if_fired (fired x) next a = next x
if_fired (not_fired r) next a = a

module _ (M : Machine) where
  -- ---- a sequence

  -- the activities with the tags τs fire in turn and lead from s to x
  abbrev pub Fires : StateOf M → List M.Tag → StateOf M → Type 0
  Fires s [] x = s ≡ x
  Fires s (τ ∷ τs) x = (y : StateOf M) × (fire M s τ ≡ fired y) × Fires y τs x

  -- the tags with spent operands: all of a tag are spent together, so that the one on port 0 stands for it
  abbrev pub spent_tags : Ledger M → List M.Tag
  spent_tags [] = []
  spent_tags (t ∷ ts) = cond (is_spent_first t) (t.key.tag ∷ spent_tags ts) (spent_tags ts)

  -- ---- any two sequences

  abbrev pub NothingEnabled : StateOf M → Type 0
  NothingEnabled x = enabled M x ≡ []

  -- where nothing is enabled any more, the same activities have fired, and what they leave is alike
  pub record SequencesAgree (τs υs : List M.Tag) (x y : StateOf M) : Type 0 where
    pub same : Permᴰ τs υs
    pub alike : AlikeStates x y

  abbrev pub AnyTwoSequences : Type 0
  AnyTwoSequences = (s : StateOf M) → Good M s → (τs υs : List M.Tag) (x y : StateOf M)
      → Fires s τs x → NothingEnabled x → Fires s υs y → NothingEnabled y → SequencesAgree τs υs x y

  -- where one sequence ends with nothing enabled, every other is shorter while something is, and no enabled activity is refused on its way
  abbrev pub NoneRefused : Type 0
  NoneRefused = (s : StateOf M) → Good M s → (τs υs : List M.Tag) (x y : StateOf M) → Fires s τs x → NothingEnabled x → Fires s υs y
      → (a : Activity M.Tag) → Memᴰ a (enabled M y) → (length υs < length τs) × (z : StateOf M) × (fire M y a.tag ≡ fired z)

  -- ---- runs

  -- the log of a run: the tags of its firings, in the order in which they fired
  unfoldable pub log_of : Choice M → (budget : ℕ) → (picks : List ℕ) → StateOf M → List M.Tag
  log_of choose zero picks s = []
  log_of choose (suc budget) picks s =
      on_list (enabled M s) [] (λ a more.
      let b = choose s (first_pick picks) a more in
      if_fired (fire M s b.tag) (λ x. b.tag ∷ log_of choose budget (later_picks picks) x) [])

  -- e is any end of a run that starts from s after f firings and does the firings τs
  pub record Logged (s : StateOf M) (f : ℕ) (τs : List M.Tag) (e : EndOf M) : Type 0 where
    pub fires : Fires s τs e.state
    pub firings : e.firings ≡ f + length τs

  pub record RanBy (s : StateOf M) (budget f : ℕ) (τs : List M.Tag) (e : EndOf M) : Type 0 where
    pub logged : Logged s f τs e
    pub within : length τs ≤ budget
    pub says : Says M e.outcome budget (length τs) e.state

  -- every run is a firing sequence, its log
  abbrev pub RunsLogged : Type 0
  RunsLogged = (c : Choice M) → LawfulChoice M c → (budget : ℕ) (picks : List ℕ) (f : ℕ) (s : StateOf M)
      → RanBy s budget f (log_of c budget picks s) (run_by M c budget picks f s)
