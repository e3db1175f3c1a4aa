-- Laws of a table of ports: what it says once a port, the ports of an instruction or of an input are marked. Assumes nothing.
use Rattle.std.proofs.Common.{Ok}
use Prim.Native.Nat.{ℕ, zero, suc, ◌+◌, ◌*◌, ◌/◌, ◌≤◌, ◌<◌}
use native.Mathlib.Omega.{arith}
use native.Mathlib.Decide.{ℕ_discrete}
use mathlib.Core.Path.{◌≡◌, refl, sym, ◌∙◌}
use mathlib.Core.Bool.{Bool, true, false, ◌&&◌, ◌||◌, or-false, and_comm, or_assoc}
use mathlib.Core.List.{List, [], ◌∷◌}
use lib.ListN.{length, get_or, set, drop, replicate, length-set, length-replicate, get_or-replicate}
use lib.Seq.{get_or-set_same, get_or-set_other}
use lib.Dec.{eqb}
use borrow.Author.Tests.{eqb-true, eq-eqb}
use Rattle.record.specs.declared.token.Token.{Token}
use Rattle.record.specs.declared.instruction.Destination.{Destination}
use Rattle.record.specs.declared.instruction.Instruction.{Instruction}
use Rattle.buffer.specs.Rows.{All, all_rows}
use Rattle.record.specs.Paths.{root_path}
use Rattle.record.specs.TokensAndTags.{root_of, same_tag, stands_at, token_at}
use Rattle.record.specs.TokensAndTags as Tokens
use Rattle.record.specs.GraphRecords.{graph_of, in_use, destinations}
use Rattle.record.specs.Widths.{token_width}
use Rattle.record.proofs.Paths.{path_same}
use Rattle.rules.specs.declared.answer.Refusal.TheVariants.{BadInput}
use Rattle.rules.specs.Check.{demand, any, all, in_turn, good_arc, good_input, operands_at, instruction_at, check_graph}
use Rattle.rules.proofs.Lists.{or_right}
use Rattle.rules.proofs.PassedGraph.{two_operands}
use Rattle.check_fields.proofs.Turns.{and_true_left, and_true_right, demanded, each_passed}
use Rattle.buffer.proofs.Tables.{length_rows, get_d_rows}
use Rattle.checks.proofs.Passed.{good_arc_lem, passed_at, passed_length, passed_input}
use Rattle.bounds.specs.Reach.{OnPort, GoodToken, port_entry, Ports, marked}

-- ---- marked ports

pub no_ports : Ports (λ i p. false) (replicate 512 false)
no_ports = record { size = length-replicate 512 false; says = λ i p l. get_or-replicate 512 (port_entry i p) false false (omega (arith, l.low, l.one)) }

pub alike : {f h : ℕ → ℕ → Bool} {table : List Bool} → Ports f table → ((i p : ℕ) → f i p ≡ h i p) → Ports h table
alike k e = record { size = k.size; says = λ i p l. k.says i p l ∙ e i p }

pub mark : {f : ℕ → ℕ → Bool} {table : List Bool} → Ports f table → (j q : ℕ) → OnPort j q → Ports (λ i p. f i p || (eqb j i && eqb q p)) (set table (port_entry j q) true)
mark {f} {table} k j q m = record {
  size = length-set table (port_entry j q) true ∙ k.size;
  says = λ i p l. go i p l (ℕ_discrete (port_entry i p) (port_entry j q)) (eqb j i) (eqb q p) refl refl;
}
  where
    go : (i p : ℕ) → OnPort i p → Dec (port_entry i p ≡ port_entry j q) → (a b : Bool) → eqb j i ≡ a → eqb q p ≡ b → get_or (set table (port_entry j q) true) (port_entry i p) false ≡ f i p || (a && b)
    go i p l (yes e) a b x y =
        let u : j ≡ i = omega (arith, l.one, m.one) in
        let v : q ≡ p = omega (arith, l.one, m.one) in
        rw (e, ← x, ← y, eq-eqb j i u, eq-eqb q p v, or_right (f i p) true refl) (get_or-set_same table (port_entry j q) true false (omega (arith, k.size, m.low, m.one)))
    go i p l (no n) true true x y = absurd (n (rw (eqb-true j i x, eqb-true q p y)))
    go i p l (no n) true false x y = rw or-false (get_or-set_other table (port_entry j q) (port_entry i p) true false n ∙ k.says i p l)
    go i p l (no n) false b x y = rw or-false (get_or-set_other table (port_entry j q) (port_entry i p) true false n ∙ k.says i p l)

abbrev pub InsideAll : List Destination → Type 0
InsideAll ds = All (λ d. OnPort d.instruction d.port) ds

pub mark_all : {f : ℕ → ℕ → Bool} {table : List Bool} → Ports f table → (ds : List Destination) → InsideAll ds
    → Ports (λ i p. f i p || any (λ d. eqb d.instruction i && eqb d.port p) ds) (marked table ds)
mark_all {f} {table} k [] l = alike k (λ i p. sym (or-false (f i p)))
mark_all {f} {table} k (d ∷ ds) l =
    alike (mark_all {f = λ i p. f i p || (eqb d.instruction i && eqb d.port p)} {table = set table (port_entry d.instruction d.port) true} (mark k d.instruction d.port l.0) ds l.1) (λ i p. or_assoc (f i p) (eqb d.instruction i && eqb d.port p) _)

-- the first destination in use, and the second
pub first_inside : (n : ℕ) (d e : Destination) → InsideAll (in_use n d e) → (n ≡ 0 → ⊥) → OnPort d.instruction d.port
first_inside zero d e l h = absurd (h refl)
first_inside (suc zero) d e l h = l.0
first_inside (suc (suc n)) d e l h = l.0

pub second_inside : (n : ℕ) (d e : Destination) → InsideAll (in_use n d e) → (n ≡ 0 → ⊥) → (n ≡ 1 → ⊥) → OnPort e.instruction e.port
second_inside zero d e l h k = absurd (h refl)
second_inside (suc zero) d e l h k = absurd (k refl)
second_inside (suc (suc n)) d e l h k = l.1.0

-- ---- a graph and inputs that passed

port_inside : (g : List Instruction) (i p : ℕ) → length g ≤ 256 → i < length g → p < operands_at g i → OnPort i p
unfolding operands_at
port_inside g i p n l h = record { low = omega arith; one = omega (arith, two_operands (instruction_at g i).code) }

arcs_inside : (g : List Instruction) → length g ≤ 256 → (ds : List Destination) → all (good_arc g) ds ≡ true → InsideAll ds
arcs_inside g n [] e = tt
arcs_inside g n (d ∷ ds) e =
    let (l, h) = good_arc_lem g d (and_true_left (good_arc g d) _ e) in
    (port_inside g d.instruction d.port n l h, arcs_inside g n ds (and_true_right (good_arc g d) _ e))

module _ (graph : List ℕ) (passed : check_graph graph ≡ Ok tt) where
  pub destinations_inside : (i : ℕ) → i < length (graph_of graph) → InsideAll (destinations (instruction_at (graph_of graph) i))
  destinations_inside i h = arcs_inside (graph_of graph) (passed_length graph passed).1 (destinations (instruction_at (graph_of graph) i)) (passed_at graph passed i h).arcs

  pub inputs_inside : (inputs : List ℕ) → in_turn (λ i good. demand good BadInput i) 0 (all_rows token_width (good_input (graph_of graph)) inputs) ≡ Ok tt
      → (i : ℕ) → i < length inputs / token_width → GoodToken (token_at inputs i)
  unfolding Tokens.decode_token
  inputs_inside inputs e i h =
      let g = graph_of graph in
      let n = length inputs / token_width in
      let l = drop (i * token_width) inputs in
      let good = passed_input g l (sym (get_d_rows token_width (good_input g) n i inputs true h) ∙ demanded _ BadInput (0 + i) (each_passed (λ k x. demand x BadInput k) 0 (all_rows token_width (good_input g) inputs) e i (omega (arith, length_rows token_width (good_input g) n inputs)) true)) in
      record {
        root = λ j. record { path = good.path j; iteration = good.iteration j; instruction = (token_at inputs i).tag.instruction };
        inside = port_inside g (token_at inputs i).tag.instruction (token_at inputs i).port (passed_length graph passed).1 good.instruction good.port;
      }

-- ---- inputs

pub stands : (t : Token) → GoodToken t → (i p : ℕ) → stands_at (root_of i) p t ≡ eqb t.tag.instruction i && eqb t.port p
unfolding stands_at same_tag
stands t good i p = rw (good.root, path_same root_path root_path refl) (and_comm (eqb t.port p) (eqb t.tag.instruction i))
