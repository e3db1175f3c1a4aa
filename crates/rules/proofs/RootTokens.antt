-- Tokens at the root: what stands at a port, among inputs and among the outputs of an instruction. `Needs` rests on it. Assumes nothing.
use Prim.Native.Nat.{ℕ}
use mathlib.Core.Path.{◌≡◌, refl, sym, ap}
use mathlib.Core.Logic.{◌⊎◌, inl, inr}
use mathlib.Core.Bool.{Bool, true, ◌&&◌}
use mathlib.Core.List.{List, [], ◌∷◌, map}
use mathlib.Core.Option.{some}
use borrow.Author.Tests.{eqb-true, eq-eqb}
use lib.Dec.{eqb}
use Rattle.record.specs.declared.tag.Tag.{Tag}
use Rattle.record.specs.declared.array.NamedArray.{NamedArray}
use Rattle.record.specs.declared.token.Token.{Token}
use Rattle.record.specs.declared.instruction.Destination.{Destination}
use Rattle.record.specs.declared.instruction.Instruction.{Instruction}
use Rattle.record.specs.Paths.{same_path}
use Rattle.record.specs.TokensAndTags.{root_of, same_tag, stands_at}
use Rattle.record.specs.GraphRecords.{destinations}
use Rattle.record.proofs.Paths.{same_path_lem}
use Rattle.machine.specs.Machine.{Machine, is_there, when, at, find, among, same_key}
use Rattle.machine.proofs.View.{false_true, key_path}
use Rattle.machine.proofs.Kept.{Each}
use Rattle.rules.specs.Check.{any}
use Rattle.rules.specs.InstructionSet.{key_under, machine_of}
use Rattle.rules.specs.Run.{token_held}
use Rattle.rules.specs.Needs.{sends_to}
use Rattle.rules.proofs.Passed.{both}
use Rattle.rules.proofs.Lists.{either, any_own}

-- ---- ports

same_port : Destination → Destination → Bool
same_port d e = eqb e.instruction d.instruction && eqb e.port d.port

own_port : (d : Destination) → same_port d d ≡ true
unfolding same_port
own_port d = rw (eq-eqb d.instruction d.instruction refl) (eq-eqb d.port d.port refl)

-- an instruction sends to each of its destinations
pub sends_own : (r : Instruction) → Each (λ d. sends_to d.instruction d.port r ≡ true) (destinations r)
unfolding sends_to same_port
sends_own r = any_own same_port own_port (destinations r)

-- a token stands where its key says
stands_key : (t : Token) (tag : Tag) (port : ℕ) → stands_at tag port t ≡ true → (token_held t).key ≡ record { tag = tag; port = port }
unfolding stands_at same_tag
stands_key t tag port e =
    let p = both (eqb t.port port) _ e in
    let q = both (same_path t.tag.path tag.path) _ p.1 in
    let s = both (eqb t.tag.iteration tag.iteration) _ q.1 in
    let path = same_path_lem _ _ q.0 in
    let iteration = eqb-true _ _ s.0 in
    let instruction = eqb-true _ _ s.1 in
    let ports = eqb-true _ _ p.0 in
    λ i. record { tag = record { path = path i; iteration = iteration i; instruction = instruction i }; port = ports i }

-- ---- tokens at the root

module _ (g : List Instruction) (table : List NamedArray) (capacity cells : ℕ) (i p : ℕ) where
  abbrev Root : Machine
  Root = machine_of g table capacity cells

  -- an input that stands there is found there
  pub input_there : (us : List Token) → any (stands_at (root_of i) p) us ≡ true → is_there (find Root (at Root (root_of i) p) (map token_held us)) ≡ true
  input_there [] e = false_true e
  input_there (u ∷ us) e = go (same_key Root (at Root (root_of i) p) (token_held u).key) (either (stands_at (root_of i) p u) _ e) (input_there us)
    where
      go : (d : Dec (at Root (root_of i) p ≡ (token_held u).key)) → (stands_at (root_of i) p u ≡ true) ⊎ (any (stands_at (root_of i) p) us ≡ true)
          → (any (stands_at (root_of i) p) us ≡ true → is_there (find Root (at Root (root_of i) p) (map token_held us)) ≡ true)
          → is_there (when d (some (token_held u).content) (find Root (at Root (root_of i) p) (map token_held us))) ≡ true
      go (yes q) h rest = refl
      go (no n) (inl h) rest = absurd (n (sym (stands_key u (root_of i) p h)))
      go (no n) (inr h) rest = rest h

  -- a port that an instruction sends to is among the keys of its outputs
  pub port_among : (j : ℕ) (ds : List Destination) → any (λ d. eqb d.instruction i && eqb d.port p) ds ≡ true → among Root (at Root (root_of i) p) (map (key_under (root_of j)) ds) ≡ true
  port_among j [] e = false_true e
  port_among j (d ∷ ds) e = go (same_key Root (at Root (root_of i) p) (key_under (root_of j) d)) (either (eqb d.instruction i && eqb d.port p) _ e) (port_among j ds)
    where
      here : eqb d.instruction i && eqb d.port p ≡ true → at Root (root_of i) p ≡ key_under (root_of j) d
      here h =
          let q = both (eqb d.instruction i) (eqb d.port p) h in
          key_path (ap root_of (sym (eqb-true d.instruction i q.0))) (sym (eqb-true d.port p q.1))

      go : (k : Dec (at Root (root_of i) p ≡ key_under (root_of j) d)) → (eqb d.instruction i && eqb d.port p ≡ true) ⊎ (any (λ d. eqb d.instruction i && eqb d.port p) ds ≡ true)
          → (any (λ d. eqb d.instruction i && eqb d.port p) ds ≡ true → among Root (at Root (root_of i) p) (map (key_under (root_of j)) ds) ≡ true)
          → when k true (among Root (at Root (root_of i) p) (map (key_under (root_of j)) ds)) ≡ true
      go (yes q) h rest = refl
      go (no n) (inl h) rest = absurd (n (here h))
      go (no n) (inr h) rest = rest h
