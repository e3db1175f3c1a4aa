-- Demand 3 over the rules, proved: the checks do not look at the picks but for their length, and from inputs that passed the machine's theorem of any
-- two orders holds. Assumes nothing.
use Rattle.std.proofs.Common.{Ok, Err}
use Prim.Native.Nat.{ℕ, ◌/◌, ◌%◌, ◌≤◌}
use mathlib.Core.Path.{◌≡◌, refl, sym, ap, ◌∙◌}
use mathlib.Core.Bool.{Bool, true, false}
use mathlib.Core.List.{List, [], ◌∷◌, map, Permᴰ}
use mathlib.Core.Option.{none, some}
use native.Mathlib.Omega.{arith}
use lib.ListN.{length}
use lib.IntN.{ℤ}
use Rattle.record.specs.declared.tag.Tag.{Tag}
use Rattle.record.specs.declared.array.NamedArray.{NamedArray}
use Rattle.record.specs.declared.token.Token as Record
use Rattle.record.specs.declared.instruction.Instruction.{Instruction}
use Rattle.buffer.specs.Rows.{All, whole}
use Rattle.record.specs.GraphRecords.{graph_of}
use Rattle.record.specs.Arrays.{arrays_of}
use Rattle.record.specs.TokensAndTags.{most_tokens, capacity_of}
use Rattle.record.specs.Widths.{token_width, cell_width}
use Rattle.machine.specs.Machine.{Token, Machine, State, End, when, find, same_key, run}
use Rattle.machine.specs.Orders.{Distinct, Good}
use Rattle.machine.specs.Orders as Ends
use Rattle.machine.proofs.View.{none_some, key_path}
use Rattle.machine.proofs.Orders.{orders, never_spent, refuses}
use Rattle.machine.proofs.Reached.{reached_good, reached_picks}
use Rattle.rules.specs.declared.answer.Refusal.{Refusal}
use Rattle.rules.specs.declared.answer.Refusal.TheVariants.{BadStore}
use Rattle.rules.specs.Check.{check_graph, check_stores, check_arrays, check, most_cells, Checked, fault_at}
use Rattle.rules.specs.InstructionSet.{machine_of}
use Rattle.rules.specs.Run.{token_record, cell_record, first_state, picks_of, Result, refused_at_once, ran_to, unless_failed, result, answer}
use Rattle.rules.specs.Orders.{EachOnce, AlikeResults, ResultsAgree, Allowed, AnyTwoOrdersOfResults}
use Rattle.rules.proofs.Accepted.{whole_bytes, Accepted, accepted, law, good}

-- ---- lists

pub perm_map : {A B : Type 0} (f : A → B) {l m : List A} → Permᴰ l m → Permᴰ (map f l) (map f m)
perm_map f Permᴰ.nil = Permᴰ.nil
perm_map f (Permᴰ.cons e d) = Permᴰ.cons (ap f e) (perm_map f d)
perm_map f (Permᴰ.swap e d) = Permᴰ.swap (ap f e) (ap f d)
perm_map f (Permᴰ.trans d e) = Permᴰ.trans (perm_map f d) (perm_map f e)

-- ---- lengths

pub same_length : (n m : ℕ) → n % token_width ≡ 0 → m % token_width ≡ 0 → n / token_width ≡ m / token_width → n ≡ m
same_length n m p q e = omega arith

pub same_cells_lem : (n m : ℕ) → n % cell_width ≡ 0 → m % cell_width ≡ 0 → n / cell_width ≡ m / cell_width → n ≡ m
same_cells_lem n m p q e = omega arith

-- ---- ends as records

module _ (g : List Instruction) (table : List NamedArray) (capacity cells : ℕ) where
  abbrev M₀ : Machine
  M₀ = machine_of g table capacity cells

  -- keys that differ in the machine differ as records
  others : (t : Token Tag ℤ) (us : List (Token Tag ℤ)) → find M₀ t.key us ≡ none
      → All (λ (u : Record.Token). t.key.tag ≡ u.tag → t.key.port ≡ u.port → ⊥) (map token_record us)
  others t [] e = tt
  others t (u ∷ us) e = go (same_key M₀ t.key u.key) (λ h. others t us h) e
    where
      Apart : Type 0
      Apart = All (λ (v : Record.Token). t.key.tag ≡ v.tag → t.key.port ≡ v.port → ⊥) (map token_record us)

      go : (d : Dec (t.key ≡ u.key)) → (find M₀ t.key us ≡ none → Apart) → when d (some u.content) (find M₀ t.key us) ≡ none
          → (t.key.tag ≡ u.key.tag → t.key.port ≡ u.key.port → ⊥) × Apart
      go (yes p) rest h = none_some (sym h)
      go (no n) rest h = (λ p q. n (key_path p q), rest h)

  once : (ts : List (Token Tag ℤ)) → Distinct M₀ ts → EachOnce (map token_record ts)
  once [] d = tt
  once (t ∷ ts) d = (others t ts d.0, once ts d.1)

  -- of ends that the machine's theorem compares
  pub alike_ends : (d e : End Refusal Tag ℤ) → Distinct M₀ d.state.tokens → Ends.AlikeEnds d e → AlikeResults (ran_to d) (ran_to e)
  unfolding answer
  alike_ends d e distinct z = record {
    firings = z.firings;
    tokens = z.count;
    cells = ap (map cell_record) z.cells;
    same_tokens = perm_map token_record z.tokens;
    each_once = once d.state.tokens distinct;
  }

-- ---- runs from inputs that passed

module _ (graph inputs : List ℕ) (table : List NamedArray) (capacity cells : ℕ) (few : capacity ≤ 2048) (a : Accepted graph inputs capacity) where
  abbrev M : Machine
  M = machine_of (graph_of graph) table capacity cells

  abbrev s : State Tag ℤ
  s = first_state inputs cells

  end : (picks : List ℕ) → Good M (run M 2048 picks s).state
  end picks =
      let e = reached_picks M s 2048 picks in
      reached_good M (law graph inputs table capacity cells a) s (good graph inputs table capacity cells a) e.done e.sent _ e.reached

  agree : (picks picks' : List ℕ) → ResultsAgree (ran_to (run M 2048 picks s)) (ran_to (run M 2048 picks' s))
  agree picks picks' =
      let lawful = law graph inputs table capacity cells a in
      let first = good graph inputs table capacity cells a in
      let same = orders M lawful s first 2048 picks picks' in
      record {
        completes = same.completes;
        hangs = same.hangs;
        alike = λ c. alike_ends (graph_of graph) table capacity cells (run M 2048 picks s) (run M 2048 picks' s) (end picks).distinct (same.alike c);
        refused = refuses M lawful s first 2048 picks picks' few;
        never_spent = never_spent M lawful s first 2048 picks few;
      }

-- ---- whole runs

module _ (graph arrays inputs picks picks' : List ℕ) (ledger cells : ℕ) (a : Allowed picks ledger cells) (b : Allowed picks' ledger cells) where
  -- the checks look at no pick
  same_check : check graph arrays inputs picks ledger cells ≡ check graph arrays inputs picks' ledger cells
  unfolding check check_stores
  same_check = rw (a.allowed_picks, b.allowed_picks)

  unfolded : (c : Checked) → check graph arrays inputs picks ledger cells ≡ c → ResultsAgree (result graph arrays inputs picks 2048 ledger cells) (result graph arrays inputs picks' 2048 ledger cells)
  unfolding result unless_failed check
  unfolded (Err fault) e =
      let e' = sym same_check ∙ e in
      rw (e, e') (record { completes = (λ h. h, λ h. h); hangs = (λ h. h, λ h. h); alike = λ h. absurd h; refused = (λ h. h, λ h. h); never_spent = λ h. h })
  unfolded (Ok _) e =
      let e' = sym same_check ∙ e in
      let few = (whole_bytes token_width most_tokens ledger a.allowed_ledger).1 in
      rw (e, e') (agree graph inputs (arrays_of arrays) (capacity_of ledger) (cells / cell_width) few (accepted graph inputs (capacity_of ledger) (check_stores (length inputs) (length picks) ledger cells) (check_arrays (graph_of graph) (cells / cell_width) arrays) e).1.1 (picks_of picks) (picks_of picks'))

-- with picks, ledger and cells of allowed length
allowed_orders : (graph arrays inputs picks picks' : List ℕ) (ledger ledger' cells cells' : ℕ) → Allowed picks ledger cells → Allowed picks' ledger' cells'
    → capacity_of ledger ≡ capacity_of ledger' → cells / cell_width ≡ cells' / cell_width
    → ResultsAgree (result graph arrays inputs picks 2048 ledger cells) (result graph arrays inputs picks' 2048 ledger' cells')
allowed_orders graph arrays inputs picks picks' ledger ledger' cells cells' a b c d =
    let l = same_length ledger ledger' (whole_bytes token_width most_tokens ledger a.allowed_ledger).0 (whole_bytes token_width most_tokens ledger' b.allowed_ledger).0 c in
    let k = same_cells_lem cells cells' (whole_bytes cell_width most_cells cells a.allowed_cells).0 (whole_bytes cell_width most_cells cells' b.allowed_cells).0 d in
    let b' : Allowed picks' ledger cells = rw (l, k) b in
    rw (← l, ← k) (unfolded graph arrays inputs picks picks' ledger cells a b' (check graph arrays inputs picks ledger cells) refl)

-- two runs that are refused before any firing
pub both_refused_lem : {x y : Result} (q r : Refusal) (m n : ℕ) → x ≡ refused_at_once q m → y ≡ refused_at_once r n → ResultsAgree x y
both_refused_lem q r m n e f = rw (e, f) (record { completes = (λ h. h, λ h. h); hangs = (λ h. h, λ h. h); alike = λ h. absurd h; refused = (λ h. h, λ h. h); never_spent = λ h. h })

-- a graph that fails its check is refused whatever else is lent, and so are inputs that are not whole records
graph_refused : (graph arrays inputs picks : List ℕ) (ledger cells : ℕ) (r : Refusal) (p : ℕ) → check_graph graph ≡ Err (fault_at r p) → result graph arrays inputs picks 2048 ledger cells ≡ refused_at_once r p
unfolding result check unless_failed
graph_refused graph arrays inputs picks ledger cells r p e = rw e

inputs_refused : (graph arrays inputs picks : List ℕ) (ledger cells : ℕ) → check_graph graph ≡ Ok tt → whole token_width most_tokens (length inputs) ≡ false → result graph arrays inputs picks 2048 ledger cells ≡ refused_at_once BadStore 0
unfolding result check check_stores unless_failed
inputs_refused graph arrays inputs picks ledger cells e w = rw (e, w)

pub any_two_orders : AnyTwoOrdersOfResults
any_two_orders graph arrays inputs picks picks' ledger ledger' cells cells' a b c d = go (check_graph graph) refl (whole token_width most_tokens (length inputs)) refl
  where
    go : (x : Checked) → check_graph graph ≡ x → (w : Bool) → whole token_width most_tokens (length inputs) ≡ w
        → ResultsAgree (result graph arrays inputs picks 2048 ledger cells) (result graph arrays inputs picks' 2048 ledger' cells')
    go (Err fault) e w f = both_refused_lem fault.refusal fault.refusal fault.place fault.place (graph_refused graph arrays inputs picks ledger cells fault.refusal fault.place e) (graph_refused graph arrays inputs picks' ledger' cells' fault.refusal fault.place e)
    go (Ok _) e false f = both_refused_lem BadStore BadStore 0 0 (inputs_refused graph arrays inputs picks ledger cells e f) (inputs_refused graph arrays inputs picks' ledger' cells' e f)
    go (Ok _) e true f = allowed_orders graph arrays inputs picks picks' ledger ledger' cells cells' (a e f) (b e f) c d
