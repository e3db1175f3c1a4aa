-- What an activity asks for is given: it fires as `commit` of it (`fires_asked`), and `commit` of any effect that names cells of the store keeps a state well-formed
-- (`good_committed`). Assumes nothing.
use Prim.Native.Nat.{◌+◌}
use mathlib.Core.Path.{◌≡◌, refl, ◌∙◌}
use mathlib.Core.Option.{Option, none, some}
use Rattle.machine.specs.Machine.{Machine, StateOf, EffectOf, Operands, refuse, send, read, write, fired, not_fired, on_option, look, operands, commit, admit, fire}
use Rattle.machine.specs.Orders.{Lawful, Good, CellsBelow, ReadsForSome, outputs}
use Rattle.machine.proofs.Reached.{reached_good}
use Rattle.fire.specs.Running.{asked}

pub fires_asked : (M : Machine) (s : StateOf M) (τ : M.Tag) → fire M s τ ≡ commit M s τ (asked M s τ)
unfolding fire commit
fires_asked M s τ = go (operands M (look M s) τ)
  where
    go : (q : Option (Operands M.Value)) → on_option q (not_fired M.second_token) (λ p. commit M s τ (M.effect τ p.left p.right)) ≡ commit M s τ (on_option q (refuse M.second_token) (λ p. M.effect τ p.left p.right))
    go none = refl
    go (some p) = refl

-- what is asked for by a lawful instruction set names cells of the store
pub asked_below : (M : Machine) → Lawful M → (s : StateOf M) (τ : M.Tag) → CellsBelow M.cell_count (asked M s τ)
asked_below M law s τ = go (operands M (look M s) τ)
  where
    go : (q : Option (Operands M.Value)) → CellsBelow M.cell_count (on_option q (refuse M.second_token) (λ p. M.effect τ p.left p.right))
    go none = tt
    go (some p) = law.cells_below τ p.left p.right

-- the machine in which every activity asks for e
abbrev asking : (M : Machine) → EffectOf M → Machine
asking M e = record {
  Tag = M.Tag;
  Value = M.Value;
  Refusal = M.Refusal;
  same = M.same;
  arity = M.arity;
  effect = λ τ v w. e;
  signal = M.signal;
  ledger_full = M.ledger_full;
  second_token = M.second_token;
  second_write = M.second_write;
  capacity = M.capacity;
  cell_count = M.cell_count;
}

same_commit : (M : Machine) (d e : EffectOf M) (s : StateOf M) (τ : M.Tag) → commit (asking M d) s τ e ≡ commit M s τ e
unfolding commit admit
same_commit M d (refuse r) s τ = refl
same_commit M d (send v keys) s τ = refl
same_commit M d (read c keys) s τ = refl
same_commit M d (write c v keys) s τ = refl

module _ (M : Machine) (s : StateOf M) (τ : M.Tag) (p : Operands M.Value) (there : operands M (look M s) τ ≡ some p) (e : EffectOf M) where
  fires_there : fire (asking M e) s τ ≡ commit (asking M e) s τ e
  unfolding fire
  fires_there = rw there

  pub good_committed : CellsBelow M.cell_count e → ReadsForSome e → Good M s → (x : StateOf M) → commit M s τ e ≡ fired x → Good M x
  good_committed below some_key good x f =
      let N = asking M e in
      let law : Lawful N = record { cells_below = λ σ v w. below; reads_for_some = λ σ v w. some_key } in
      let first : Good N s = record { distinct = good.distinct; room = good.room; cell_count = good.cell_count } in
      let then = reached_good N law s first 1 (0 + outputs N s τ) x (s, 0, τ, (refl, refl), fires_there ∙ same_commit M e e s τ ∙ f, refl) in
      record { distinct = then.distinct; room = then.room; cell_count = then.cell_count }
