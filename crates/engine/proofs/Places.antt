-- A firing leaves every token at its place, with its key. Assumes nothing.
use Prim.Native.Nat.{ℕ, zero, suc, ◌<◌}
use mathlib.Core.Path.{◌≡◌, refl, subst}
use mathlib.Core.List.{List, [], ◌∷◌, ◌++◌, map}
use mathlib.Core.Bool.{Bool, true, false, cond}
use native.Mathlib.Omega.{arith}
use lib.ListN.{length, get_or, set}
use Rattle.machine.specs.Machine.{Key, Content, live, Token, Cell, absent, waiting, present, refuse, send, read, write, Machine, fired, not_fired}
use Rattle.machine.specs.Machine.{fill, cell_at, cell_read, content_read, if_present, changed, output}
use Rattle.machine.specs.Machine.{Ledger, StateOf, EffectOf, spend_at, any_taken, exceeds, admit, commit}
use Rattle.machine.proofs.Sequences.{fired_same, never_fired}

module _ (M : Machine) where
  abbrev pub Kept : StateOf M → StateOf M → Type 0
  Kept s x = (i : ℕ) (d : Token M.Tag M.Value) → i < length s.tokens → (get_or x.tokens i d).key ≡ (get_or s.tokens i d).key

  key_kept : (f : Key M.Tag → Content M.Value → Content M.Value) (l m : Ledger M) (i : ℕ) (d : Token M.Tag M.Value) → i < length l
      → (get_or (map (changed f) l ++ m) i d).key ≡ (get_or l i d).key
  key_kept f [] m i d h = absurd (omega arith)
  key_kept f (x ∷ xs) m zero d h = refl
  key_kept f (x ∷ xs) m (suc i) d h = key_kept f xs m i d (omega arith)

  admitted : (s : StateOf M) (f : Key M.Tag → Content M.Value → Content M.Value) (cells : List (Cell M.Value)) (c : Content M.Value) (keys : List (Key M.Tag)) (x : StateOf M)
      → admit M s (map (changed f) s.tokens) cells c keys ≡ fired x → Kept s x
  unfolding admit
  admitted s f cells c keys x e = go (exceeds M s.tokens keys) (any_taken M s.tokens keys) e
    where
      go : (p q : Bool) → cond p (not_fired M.ledger_full) (cond q (not_fired M.second_token) (fired (record { tokens = map (changed f) s.tokens ++ map (output c) keys; cells = cells }))) ≡ fired x → Kept s x
      go true q h = never_fired M _ x h
      go false true h = never_fired M _ x h
      go false false h = subst (Kept s) (fired_same M _ x h) (λ i d k. key_kept f s.tokens (map (output c) keys) i d k)

  pub keys_kept : (s : StateOf M) (τ : M.Tag) (e : EffectOf M) (x : StateOf M) → commit M s τ e ≡ fired x → Kept s x
  unfolding commit
  keys_kept s τ (refuse r) x e = never_fired M r x e
  keys_kept s τ (send v keys) x e = admitted s (spend_at M τ) s.cells (live v) keys x e
  keys_kept s τ (read c keys) x e = admitted s (spend_at M τ) (set s.cells c (cell_read (cell_at s.cells c))) (content_read c (cell_at s.cells c)) keys x e
  keys_kept s τ (write c v keys) x e = go (cell_at s.cells c) e
    where
      filled : Key M.Tag → Content M.Value → Content M.Value
      filled k z = fill c v (spend_at M τ k z)

      go : (y : Cell M.Value) → if_present y (not_fired M.second_write) (admit M s (map (changed filled) s.tokens) (set s.cells c (present v)) (live M.signal) keys) ≡ fired x → Kept s x
      go absent h = admitted s filled (set s.cells c (present v)) (live M.signal) keys x h
      go waiting h = admitted s filled (set s.cells c (present v)) (live M.signal) keys x h
      go (present w) h = never_fired M _ x h
