-- Two machines that differ in their values alone, and a relation between these. Where the effects of related operands are related, runs from related
-- states go in step: the same activities are enabled and chosen, and what is left is related. The statements; proved in proofs/InStep. They serve
-- whatever stands for a value: a range that holds it, or its number in a table. Assumes nothing.
use Rattle.std.specs.Prelude.{◌≡◌, List, [], ◌∷◌, ℕ}
use Rattle.machine.specs.Machine.{Key, Content, live, spent, deferred, Token, Cell, absent, waiting, present, Effect, refuse, send, read, write, Machine}
use Rattle.machine.specs.Machine.{State, Activity, refused, End, output, StateOf, Choice}
use Rattle.machine.specs.Bounded.{Held, run_bounded}

-- ---- related place by place

pub data PlaceByPlace {A B : Type 0} (R : A → B → Type 0) : List A → List B → Type 0 where
  no_more : PlaceByPlace R [] []
  pair : {x : A} {y : B} {xs : List A} {ys : List B} → R x y → PlaceByPlace R xs ys → PlaceByPlace R (x ∷ xs) (y ∷ ys)

module _ {V₁ V₂ : Type 0} (R : V₁ → V₂ → Type 0) where
  -- in one state, of related values; deferred on one cell
  pub data RelatedContent : Content V₁ → Content V₂ → Type 0 where
    both_live : {v : V₁} {w : V₂} → R v w → RelatedContent (live v) (live w)
    both_spent : {v : V₁} {w : V₂} → R v w → RelatedContent (spent v) (spent w)
    both_deferred : {c : ℕ} → RelatedContent (deferred c) (deferred c)

  pub data RelatedCell : Cell V₁ → Cell V₂ → Type 0 where
    both_absent : RelatedCell absent absent
    both_waiting : RelatedCell waiting waiting
    both_present : {v : V₁} {w : V₂} → R v w → RelatedCell (present v) (present w)

  -- at one key
  pub data RelatedToken {T : Type 0} : Token T V₁ → Token T V₂ → Type 0 where
    at_key : {k : Key T} {x : Content V₁} {y : Content V₂} → RelatedContent x y → RelatedToken (output x k) (output y k)

  pub record RelatedState {T : Type 0} (s : State T V₁) (u : State T V₂) : Type 0 where
    pub tokens : PlaceByPlace RelatedToken s.tokens u.tokens
    pub cells : PlaceByPlace RelatedCell s.cells u.cells

  -- the second ends as the first, with as many firings and a related state
  pub record RelatedEnds {F T : Type 0} (d : End F T V₁) (e : End F T V₂) : Type 0 where
    pub outcome : d.outcome ≡ e.outcome
    pub firings : d.firings ≡ e.firings
    pub state : RelatedState d.state e.state

  -- `Alone r`: by r the first may be refused where the second is not
  module _ {F T : Type 0} (Alone : F → Type 0) where
    -- the first is refused alone; or both are of one kind, with the same refusal, the same keys, the same cell and related values
    pub data RelatedEffect : Effect F T V₁ → Effect F T V₂ → Type 0 where
      refused_alone : {r : F} {e : Effect F T V₂} → Alone r → RelatedEffect (refuse r) e
      both_refuse : {r : F} → RelatedEffect (refuse r) (refuse r)
      both_send : {v : V₁} {w : V₂} {keys : List (Key T)} → R v w → RelatedEffect (send v keys) (send w keys)
      both_read : {c : ℕ} {keys : List (Key T)} → RelatedEffect (read c keys) (read c keys)
      both_write : {c : ℕ} {v : V₁} {w : V₂} {keys : List (Key T)} → R v w → RelatedEffect (write c v keys) (write c w keys)

    -- the ends are alike, unless the first was refused alone
    pub data InStep (d : End F T V₁) (e : End F T V₂) : Type 0 where
      alike : RelatedEnds d e → InStep d e
      stopped : (r : F) (place : ℕ) → d.outcome ≡ refused r place → Alone r → InStep d e

-- ---- the same machine over other values

abbrev pub Over : (M : Machine) → (W : Type 0) → (effect : M.Tag → W → W → Effect M.Refusal M.Tag W) → (signal : W) → Machine
Over M W effect signal = record {
  Tag = M.Tag;
  Value = W;
  Refusal = M.Refusal;
  same = M.same;
  arity = M.arity;
  effect = effect;
  signal = signal;
  ledger_full = M.ledger_full;
  second_token = M.second_token;
  second_write = M.second_write;
  capacity = M.capacity;
  cell_count = M.cell_count;
}

module _ (M : Machine) (W : Type 0) (effect : M.Tag → W → W → Effect M.Refusal M.Tag W) (signal : W)
    (R : M.Value → W → Type 0) (Alone : M.Refusal → Type 0) where
  abbrev N : Machine
  N = Over M W effect signal

  pub record Related : Type 0 where
    pub effects : (τ : M.Tag) (a b : M.Value) (c d : W) → R a c → R b d → RelatedEffect R Alone (M.effect τ a b) (effect τ c d)
    pub signals : R M.signal signal

  -- the choices, and what is held back, look at nothing in which related states differ; picks look at none of it
  abbrev pub SameChoice : Choice M → Choice N → Type 0
  SameChoice c d = (s : StateOf M) (u : StateOf N) → RelatedState R s u → (pick : ℕ) (a : Activity M.Tag) (more : List (Activity M.Tag)) → c s pick a more ≡ d u pick a more

  abbrev pub SameHeld : Held M → Held N → Type 0
  SameHeld held kept = (s : StateOf M) (u : StateOf N) → RelatedState R s u → (a : Activity M.Tag) → held s a ≡ kept u a

  -- with activities held back, or with none
  abbrev pub RunsInStepOfMachine : Type 0
  RunsInStepOfMachine = (c : Choice M) (d : Choice N) → SameChoice c d → (held : Held M) (kept : Held N) → SameHeld held kept
      → (s : StateOf M) (u : StateOf N) → RelatedState R s u → (budget : ℕ) (picks : List ℕ) (f : ℕ)
      → InStep R Alone (run_bounded M held c budget picks f s) (run_bounded N kept d budget picks f u)
