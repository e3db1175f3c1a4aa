-- What a firing may be refused by: by ledger full, second token, second write, or by what an effect refuses (`refused_only`). Assumes nothing.
use mathlib.Core.Path.{◌≡◌}
use mathlib.Core.List.{List}
use mathlib.Core.Option.{Option, none, some}
use mathlib.Core.Bool.{Bool, true, false, cond}
use Rattle.machine.specs.Machine.{Key, Content, live, Cell, absent, waiting, present, Effect, refuse, send, read, write, Machine, fired, not_fired}
use Rattle.machine.specs.Machine.{on_option, cell_at, content_read, if_present, Operands, Ledger, StateOf, EffectOf, FiredOf, look, operands, any_taken, exceeds, admit, commit, fire}

-- an effect refuses by nothing else
abbrev pub RefusesOnly : {R T W : Type 0} → (R → Type 0) → Effect R T W → Type 0
RefusesOnly P (refuse r) = P r
RefusesOnly P (send v keys) = Unit {0}
RefusesOnly P (read c keys) = Unit {0}
RefusesOnly P (write c v keys) = Unit {0}

module _ (M : Machine) (P : M.Refusal → Type 0) (full : P M.ledger_full) (second : P M.second_token) (twice : P M.second_write)
    (effects : (τ : M.Tag) (v w : M.Value) → RefusesOnly P (M.effect τ v w)) where
  abbrev Only : FiredOf M → Type 0
  Only (fired x) = Unit {0}
  Only (not_fired r) = P r

  admitted : (s : StateOf M) (left : Ledger M) (cells : List (Cell M.Value)) (x : Content M.Value) (keys : List (Key M.Tag)) → Only (admit M s left cells x keys)
  unfolding admit
  admitted s left cells x keys = go (exceeds M s.tokens keys) (any_taken M s.tokens keys) _
    where
      go : (p q : Bool) (y : StateOf M) → Only (cond p (not_fired M.ledger_full) (cond q (not_fired M.second_token) (fired y)))
      go true q y = full
      go false true y = second
      go false false y = tt

  committed : (s : StateOf M) (τ : M.Tag) (e : EffectOf M) → RefusesOnly P e → Only (commit M s τ e)
  unfolding commit
  committed s τ (refuse r) h = h
  committed s τ (send v keys) h = admitted s _ s.cells (live v) keys
  committed s τ (read c keys) h = admitted s _ _ (content_read c (cell_at s.cells c)) keys
  committed s τ (write c v keys) h = go (cell_at s.cells c) _ (admitted s _ _ (live M.signal) keys)
    where
      go : (x : Cell M.Value) (y : FiredOf M) → Only y → Only (if_present x (not_fired M.second_write) y)
      go absent y k = k
      go waiting y k = k
      go (present u) y k = twice

  pub refused_only : (s : StateOf M) (τ : M.Tag) (r : M.Refusal) → fire M s τ ≡ not_fired r → P r
  unfolding fire
  refused_only s τ r e = rw e at (go (operands M (look M s) τ))
    where
      go : (q : Option (Operands M.Value)) → Only (on_option q (not_fired M.second_token) (λ p. commit M s τ (M.effect τ p.left p.right)))
      go none = second
      go (some p) = committed s τ (M.effect τ p.left p.right) (effects τ p.left p.right)
