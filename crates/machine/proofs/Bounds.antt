-- How far a run goes: it does no more firings than its budget, its ledger holds no more tokens than the capacity, and the place of a refusal is a position
-- of that ledger (`run_bounded_lem`, for a list of picks `picks_bounded`, with activities held back `held_bounded`); it does no more firings than there are tokens
-- (`picks_firings`). Assumes nothing. The first three take any machine, and of the state that its tokens are no more than the capacity.
use mathlib.Core.Path.{◌≡◌, refl, subst}
use mathlib.Core.List.{List, [], ◌∷◌, map}
use mathlib.Core.Option.{Option, none, some}
use mathlib.Core.Bool.{Bool, true, false}
use Prim.Native.Nat.{ℕ, ◌+◌, ◌≤◌, ◌<◌}
use native.Mathlib.Omega.{arith}
use lib.ListN.{length, set, length-append, length-map}
use borrow.Author.Tests.{ltb-false}
use Rattle.machine.specs.Machine.{Key, Content, live, Cell, absent, waiting, present, refuse, send, read, write, Machine, fired, not_fired}
use Rattle.machine.specs.Machine.{Outcome, completed, hung, budget_spent, refused, on_option, fill, cell_at, content_read, if_present, changed, output, Operands}
use Rattle.machine.specs.Machine.{Ledger, StateOf, EffectOf, FiredOf, EndOf, look, operands, spend_at, any_taken, exceeds, admit, commit, fire, Choice, by_picks, run_by, run}
use Rattle.machine.specs.Orders.{Lawful, Good, LawfulChoice, Says}
use Rattle.machine.specs.Sequences.{Fires, log_of}
use Rattle.machine.specs.Bounded.{Held, run_bounded, log_bounded}
use Rattle.machine.proofs.Enabled.{enabled_place}
use Rattle.machine.proofs.Runs.{ran}
use Rattle.machine.proofs.Orders.{by_picks_lawful}
use Rattle.machine.proofs.Reached.{reached_firings, reached_picks}
use Rattle.machine.proofs.Bounded.{free_once, bounded_logged, SaysFree}

module _ (M : Machine) where
  -- ---- a firing: "used records plus outputs exceed the capacity" is refused

  abbrev Room : FiredOf M → Type 0
  Room (fired x) = length x.tokens ≤ M.capacity
  Room (not_fired r) = Unit {0}

  admitted : (s : StateOf M) (left : Ledger M) (cells : List (Cell M.Value)) (x : Content M.Value) (keys : List (Key M.Tag)) → length left ≡ length s.tokens → Room (admit M s left cells x keys)
  unfolding admit
  admitted s left cells x keys h = go (exceeds M s.tokens keys) (any_taken M s.tokens keys) refl refl
    where
      go : (p q : Bool) → exceeds M s.tokens keys ≡ p → any_taken M s.tokens keys ≡ q → Room (admit M s left cells x keys)
      go true q e f = rw e tt
      go false true e f = rw (e, f) tt
      go false false e f =
          rw (e, f)
          (omega (arith, ltb-false M.capacity (length s.tokens + length keys) e, length-append left (map (output x) keys), length-map keys (output {T = M.Tag} x), h))

  committed : (s : StateOf M) (τ : M.Tag) (e : EffectOf M) → Room (commit M s τ e)
  unfolding commit
  committed s τ (refuse r) = tt
  committed s τ (send v keys) = admitted s (map (changed (spend_at M τ)) s.tokens) s.cells (live v) keys (length-map s.tokens (changed (spend_at M τ)))
  committed s τ (read c keys) = admitted s (map (changed (spend_at M τ)) s.tokens) _ (content_read c (cell_at s.cells c)) keys (length-map s.tokens (changed (spend_at M τ)))
  committed s τ (write c v keys) = go (cell_at s.cells c)
    where
      filled : Key M.Tag → Content M.Value → Content M.Value
      filled k x = fill c v (spend_at M τ k x)

      written : Room (admit M s (map (changed filled) s.tokens) (set s.cells c (present v)) (live M.signal) keys)
      written = admitted s (map (changed filled) s.tokens) (set s.cells c (present v)) (live M.signal) keys (length-map s.tokens (changed filled))

      go : (y : Cell M.Value) → Room (if_present y (not_fired M.second_write) (admit M s (map (changed filled) s.tokens) (set s.cells c (present v)) (live M.signal) keys))
      go absent = written
      go waiting = written
      go (present w) = tt

  fired_room : (s : StateOf M) (τ : M.Tag) → Room (fire M s τ)
  unfolding fire
  fired_room s τ = go (operands M (look M s) τ)
    where
      go : (q : Option (Operands M.Value)) → Room (on_option q (not_fired M.second_token) (λ p. commit M s τ (M.effect τ p.left p.right)))
      go none = tt
      go (some p) = committed s τ (M.effect τ p.left p.right)

  -- ---- a run

  -- "the place is the activity's": "the ledger position of its earliest operand"
  abbrev pub PlaceWithin : Outcome M.Refusal → Ledger M → Type 0
  PlaceWithin completed ts = Unit {0}
  PlaceWithin hung ts = Unit {0}
  PlaceWithin budget_spent ts = Unit {0}
  PlaceWithin (refused r place) ts = place < length ts

  pub record Bounded (most : ℕ) (e : EndOf M) : Type 0 where
    -- "Firings are those done, the refused one not counted."
    pub firings : e.firings ≤ most
    -- "The ledger takes every token"
    pub tokens : length e.state.tokens ≤ M.capacity
    pub place : PlaceWithin e.outcome e.state.tokens

  fires_room : (τs : List M.Tag) (s x : StateOf M) → Fires M s τs x → length s.tokens ≤ M.capacity → length x.tokens ≤ M.capacity
  fires_room [] s x p room = subst (λ (y : StateOf M). length y.tokens ≤ M.capacity) p room
  fires_room (τ ∷ τs) s x (y, e, p) room = fires_room τs y x p (rw e at (fired_room s τ))

  place_within : (o : Outcome M.Refusal) (b n : ℕ) (x : StateOf M) → Says M o b n x → PlaceWithin o x.tokens
  place_within completed b n x h = tt
  place_within hung b n x h = tt
  place_within budget_spent b n x h = tt
  place_within (refused r p) b n x (l, a, m, q, e) = subst (λ (k : ℕ). k < length x.tokens) q (enabled_place M x a m)

  -- f firings were done before; the choice is any that takes one of the enabled
  pub run_bounded_lem : (c : Choice M) → LawfulChoice M c → (budget : ℕ) (picks : List ℕ) (f : ℕ) (s : StateOf M) → length s.tokens ≤ M.capacity → Bounded (f + budget) (run_by M c budget picks f s)
  run_bounded_lem c ok b ps f s room =
      let h = ran M c ok b ps f s in
      record {
        firings = let z = h.logged.firings in let y = h.within in omega arith;
        tokens = fires_room (log_of M c b ps s) s _ h.logged.fires room;
        place = place_within (run_by M c b ps f s).outcome b _ _ h.says;
      }

  -- a run by picks
  pub picks_bounded : (s : StateOf M) → length s.tokens ≤ M.capacity → (budget : ℕ) (picks : List ℕ) → Bounded budget (run M budget picks s)
  picks_bounded s room budget picks =
      let b = run_bounded_lem (by_picks M) (by_picks_lawful M) budget picks 0 s room in
      record { firings = let z = b.firings in omega arith; tokens = b.tokens; place = b.place }

  -- a run with activities held back
  held_within : (held : Held M) (o : Outcome M.Refusal) (b n : ℕ) (x : StateOf M) → SaysFree M held o b n x → PlaceWithin o x.tokens
  held_within held completed b n x h = tt
  held_within held hung b n x h = tt
  held_within held budget_spent b n x h = tt
  held_within held (refused r p) b n x (l, a, m, q, e) = subst (λ (k : ℕ). k < length x.tokens) q (enabled_place M x a (((free_once M held x).exactly a).0 m).0)

  pub held_bounded : (held : Held M) (c : Choice M) → LawfulChoice M c → (budget : ℕ) (picks : List ℕ) (f : ℕ) (s : StateOf M) → length s.tokens ≤ M.capacity → Bounded (f + budget) (run_bounded M held c budget picks f s)
  held_bounded held c ok b ps f s room =
      let h = bounded_logged M held c ok b ps f s in
      record {
        firings = let z = h.logged.firings in let y = h.within in omega arith;
        tokens = fires_room (log_bounded M held c b ps s) s _ h.logged.fires room;
        place = held_within held (run_bounded M held c b ps f s).outcome b _ _ h.says;
      }

  -- "Firings never exceed tokens.": of a run by picks from a well-formed state, where the instruction set is lawful
  pub picks_firings : Lawful M → (s : StateOf M) → Good M s → (budget : ℕ) (picks : List ℕ) → (run M budget picks s).firings ≤ length (run M budget picks s).state.tokens
  picks_firings law s good budget picks =
      let e = reached_picks M s budget picks in
      let done = reached_firings M law s good e.done e.sent _ e.reached in
      let z = e.firings in
      omega arith
