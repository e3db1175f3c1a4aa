-- 02, R-1: "In an ideal step every activity enabled at its start fires, in ledger order. Each whole step gives one 4-byte record: firings
-- in it, and live plus deferred tokens after it". The run by such steps; what holds of it is stated and proved in proofs/Steps.
-- Assumes nothing.
use Rattle.std.specs.Prelude.{List, [], ◌∷◌, ℕ, zero, suc, ◌+◌, ◌<◌, length}
use Rattle.machine.specs.Machine.{Content, live, spent, deferred, Machine, Activity, End, fired, not_fired, refused, on_list}
use Rattle.machine.specs.Machine.{Ledger, StateOf, FiredOf, EndOf, enabled, fire, end, ending}

-- of a whole step
pub record StepRecord : Type 0 where
  pub firings : ℕ
  -- "live plus deferred tokens after it"
  pub unspent : ℕ

-- the records of the whole steps, and the end, as a run has it
pub record Profile (R T W : Type 0) : Type 0 where
  pub records : List StepRecord
  pub ended : End R T W

-- in all records together
abbrev pub firings_in : List StepRecord → ℕ
firings_in [] = 0
firings_in (r ∷ rs) = r.firings + firings_in rs

abbrev pub EachFires : List StepRecord → Type 0
EachFires [] = Unit {0}
EachFires (r ∷ rs) = (0 < r.firings) × EachFires rs

abbrev pub is_unspent : {W : Type 0} → Content W → ℕ
is_unspent (live v) = 1
is_unspent (spent v) = 0
is_unspent (deferred c) = 1

module _ (M : Machine) where
  abbrev pub ProfileOf : Type 0
  ProfileOf = Profile M.Refusal M.Tag M.Value

  abbrev pub unspent_in : Ledger M → ℕ
  unspent_in [] = 0
  unspent_in (t ∷ ts) = is_unspent t.content + unspent_in ts

  -- ends before the next whole step
  abbrev pub ends_here : EndOf M → ProfileOf
  ends_here e = record { records = []; ended = e }

  abbrev pub after_step : StepRecord → ProfileOf → ProfileOf
  after_step r p = record { records = r ∷ p.records; ended = p.ended }

  -- "A refused firing ends the profile after the last whole step." Ledger, cells and count are those before this firing
  abbrev pub tried : (f : ℕ) → StateOf M → Activity M.Tag → FiredOf M → (StateOf M → ProfileOf) → ProfileOf
  tried f s a (fired x) next = next x
  tried f s a (not_fired r) next = ends_here (end M (refused r a.place) f s)

  -- the activities fire in turn; f firings were done before, and `next` goes on after the last
  abbrev pub fires_in_turn : List (Activity M.Tag) → (f : ℕ) → StateOf M → (next : ℕ → StateOf M → ProfileOf) → ProfileOf
  fires_in_turn [] f s next = next f s
  fires_in_turn (a ∷ more) f s next = tried f s a (fire M s a.tag) (λ x. fires_in_turn more (suc f) x next)

  -- `profile_full` is refusal 18
  module _ (profile_full : M.Refusal) where
    -- `left` records are left. "Refused: 18, profile full, before a step that has no record left."
    unfoldable pub profile : (left : ℕ) → (f : ℕ) → StateOf M → ProfileOf
    profile zero f s = on_list (enabled M s) (ends_here (end M (ending M s) f s)) (λ a more. ends_here (end M (refused profile_full 0) f s))
    profile (suc left) f s =
        on_list (enabled M s) (ends_here (end M (ending M s) f s)) (λ a more.
        fires_in_turn (a ∷ more) f s (λ g x. after_step (record { firings = length (a ∷ more); unspent = unspent_in x.tokens }) (profile left g x)))
