-- The graph of an expression by recursion on a falling record number is the whole graph (`graphs_put`): each call puts the right instruction at its record's
-- number, whatever stands there, and every record is named from the last one down. `put_variable` and `put_operation` are the laws of one call. Assumes nothing.
use Prim.Native.Nat.{ℕ, zero, suc, ◌+◌, ◌-◌, ◌≤◌, ◌<◌}
use mathlib.Core.Path.{◌≡◌, refl, sym, ap, ◌∙◌, subst}
use mathlib.Core.Bool.{Bool, true, false, cond}
use mathlib.Core.List.{List, []}
use mathlib.Core.Logic.{◌⊎◌, inl, inr}
use native.Mathlib.Decide.{ℕ_discrete, dec_le}
use native.Mathlib.Omega.{arith}
use lib.ListN.{length, set, length-set}
use lib.Seq.{ext_get_or, get_or-set_same, get_or-set_other}
use borrow.Author.Tests.{not-true}
use Rattle.record.specs.declared.instruction.Destination.{Destination}
use Rattle.record.specs.declared.instruction.Instruction.{Instruction}
use Rattle.record.specs.GraphRecords as Graph
use Rattle.record.specs.declared.term.Term.{Term}
use Rattle.record.specs.ExpressionRecords.{decode_term, expression_of}
use Rattle.rules.specs.Check.{instruction_at}
use Rattle.rules.specs.Expression.{term_at, is_variable, is_operation, count, instruction_for, out_for, goes_to, code_for, sending, out, graph_for, put_below, put_at, put_graph}
use Rattle.rules.specs.Expression.{OfEvery}
use Rattle.rules.proofs.ExpressionPassed.{OperationAt, Proper, named_by, passed}
use Rattle.rules.proofs.ExpressionGraph.{counted, count_both, length_graph, at_record, at_out, variable_number_lem, operation_number, number_low}
use Rattle.rules.proofs.ExpressionTree.{goes_side, goes_last}

-- ---- the claims

-- put into whatever has as many records, it is the whole graph
abbrev pub GraphsPut : Type 0
GraphsPut = OfEvery (λ ts. (g : List Instruction) → length g ≡ suc (length ts) → put_graph ts g ≡ graph_for ts)

-- ---- the proofs

pub length_put : (bound : ℕ) (ts : List Term) (i : ℕ) (d : Destination) (g : List Instruction) → length (put_below bound ts i d g) ≡ length g
unfolding put_below
length_put zero ts i d g = refl
length_put (suc bound) ts i d g = go (is_variable (term_at ts i)) (λ j e x. length_put bound ts j e x)
  where
    m : ℕ
    m = instruction_for ts i

    first : List Instruction
    first = set g m (sending (code_for (term_at ts i)) d)

    go : (b : Bool) → ((j : ℕ) (e : Destination) (x : List Instruction) → length (put_below bound ts j e x) ≡ length x)
        → length (cond b first (put_below bound ts (term_at ts i).right (record { instruction = m; port = 1 }) (put_below bound ts (term_at ts i).left (record { instruction = m; port = 0 }) first))) ≡ length g
    go true rest = length-set g m (sending (code_for (term_at ts i)) d)
    go false rest = rest _ _ _ ∙ rest _ _ _ ∙ length-set g m (sending (code_for (term_at ts i)) d)

module _ (ts : List Term) (ok : Proper ts) where
  abbrev n : ℕ
  n = length ts

  -- entry m is that of the graph
  abbrev Right : List Instruction → (m : ℕ) → Type 0
  Right g m = instruction_at g m ≡ instruction_at (graph_for ts) m

  -- ---- one record

  module _ (i : ℕ) (low : i < n) (d : Destination) (to : goes_to ts i ≡ d) (g : List Instruction) (size : length g ≡ suc n) where
    abbrev own : List Instruction
    own = set g (instruction_for ts i) (sending (code_for (term_at ts i)) d)

    own_right : Right own (instruction_for ts i)
    unfolding instruction_at
    own_right =
        get_or-set_same g (instruction_for ts i) (sending (code_for (term_at ts i)) d) (Graph.decode_instruction []) (let z = number_low ts i low in omega arith)
        ∙ ap (sending (code_for (term_at ts i))) (sym to) ∙ sym (at_record ts i low)

    own_keeps : (m : ℕ) → Right g m → Right own m
    unfolding instruction_at
    own_keeps m e = go (ℕ_discrete m (instruction_for ts i))
      where
        go : Dec (m ≡ instruction_for ts i) → Right own m
        go (yes q) = subst (Right own) (sym q) own_right
        go (no q) = get_or-set_other g (instruction_for ts i) m (sending (code_for (term_at ts i)) d) (Graph.decode_instruction []) q ∙ e

  -- ---- a greater bound is of no account, so that the laws of `put_at` name none

  stable : (b c i : ℕ) → i < b → i < c → i < n → (d : Destination) (g : List Instruction) → put_below b ts i d g ≡ put_below c ts i d g
  unfolding put_below
  stable zero c i l k low d g = absurd (omega arith)
  stable (suc b) zero i l k low d g = absurd (omega arith)
  stable (suc b) (suc c) i l k low d g = go (is_variable (term_at ts i)) refl (λ j lj lk h e x. stable b c j lj lk h e x)
    where
      m : ℕ
      m = instruction_for ts i

      first : List Instruction
      first = set g m (sending (code_for (term_at ts i)) d)

      go : (v : Bool) → is_variable (term_at ts i) ≡ v → ((j : ℕ) → j < b → j < c → j < n → (e : Destination) (x : List Instruction) → put_below b ts j e x ≡ put_below c ts j e x)
          → cond v first (put_below b ts (term_at ts i).right (record { instruction = m; port = 1 }) (put_below b ts (term_at ts i).left (record { instruction = m; port = 0 }) first))
          ≡ cond v first (put_below c ts (term_at ts i).right (record { instruction = m; port = 1 }) (put_below c ts (term_at ts i).left (record { instruction = m; port = 0 }) first))
      go true v rest = refl
      go false v rest =
          let o = ok.operation i low v in
          let left = o.left in
          let right = o.right in
          ap (put_below b ts (term_at ts i).right (record { instruction = m; port = 1 })) (rest (term_at ts i).left (omega arith) (omega arith) (omega arith) (record { instruction = m; port = 0 }) first)
          ∙ rest (term_at ts i).right (omega arith) (omega arith) (omega arith) (record { instruction = m; port = 1 }) (put_below c ts (term_at ts i).left (record { instruction = m; port = 0 }) first)

  pub put_variable : (i : ℕ) → is_variable (term_at ts i) ≡ true → (d : Destination) (g : List Instruction) → put_at ts i d g ≡ set g (instruction_for ts i) (sending (code_for (term_at ts i)) d)
  unfolding put_below
  put_variable i v d g = rw v

  pub put_operation : (i : ℕ) → i < n → is_variable (term_at ts i) ≡ false → (d : Destination) (g : List Instruction)
      → put_at ts i d g
      ≡ put_at ts (term_at ts i).right (record { instruction = instruction_for ts i; port = 1 })
      (put_at ts (term_at ts i).left (record { instruction = instruction_for ts i; port = 0 }) (set g (instruction_for ts i) (sending (code_for (term_at ts i)) d)))
  unfolding put_below
  put_operation i low v d g =
      let t = term_at ts i in
      let m = instruction_for ts i in
      let o = ok.operation i low v in
      let left = o.left in
      let right = o.right in
      let first = set g m (sending (code_for t) d) in
      let below : List Instruction = put_below i ts t.right (record { instruction = m; port = 1 }) (put_below i ts t.left (record { instruction = m; port = 0 }) first) in
      ap (λ (b : Bool). cond b first below) v
      ∙ ap (put_below i ts t.right (record { instruction = m; port = 1 })) (stable i (suc t.left) t.left left (omega arith) (omega arith) (record { instruction = m; port = 0 }) first)
      ∙ stable i (suc t.right) t.right right (omega arith) (omega arith) (record { instruction = m; port = 1 }) (put_at ts t.left (record { instruction = m; port = 0 }) first)

  -- ---- a record and those that it names, and so on

  -- record j is one of them
  abbrev Under : (bound i j : ℕ) → Type 0
  Under zero i j = ⊥
  Under (suc bound) i j = (j ≡ i) ⊎ ((is_variable (term_at ts i) ≡ false) × (Under bound (term_at ts i).left j ⊎ Under bound (term_at ts i).right j))

  record Puts (bound i : ℕ) (g x : List Instruction) : Type 0 where
    size : length x ≡ suc n
    keeps : (m : ℕ) → Right g m → Right x m
    puts : (j : ℕ) → Under bound i j → Right x (instruction_for ts j)

  put : (bound i : ℕ) → i < bound → i < n → (d : Destination) → goes_to ts i ≡ d → (g : List Instruction) → length g ≡ suc n → Puts bound i g (put_below bound ts i d g)
  unfolding put_below
  put zero i l low d to g size = absurd (omega arith)
  put (suc bound) i l low d to g size =
      go (is_variable (term_at ts i)) refl (λ j lj k e to' h size'. put bound j lj k e to' h size')
    where
      m : ℕ
      m = instruction_for ts i

      start : List Instruction
      start = own i low d to g size

      start_size : length start ≡ suc n
      start_size = length-set g m (sending (code_for (term_at ts i)) d) ∙ size

      go : (b : Bool) → is_variable (term_at ts i) ≡ b
          → ((j : ℕ) → j < bound → j < n → (e : Destination) → goes_to ts j ≡ e → (h : List Instruction) → length h ≡ suc n → Puts bound j h (put_below bound ts j e h))
          → Puts (suc bound) i g (cond b start
          (put_below bound ts (term_at ts i).right (record { instruction = m; port = 1 }) (put_below bound ts (term_at ts i).left (record { instruction = m; port = 0 }) start)))
      go true v rest = record { size = start_size; keeps = own_keeps i low d to g size; puts = under }
        where
          under : (j : ℕ) → Under (suc bound) i j → Right start (instruction_for ts j)
          under j (inl q) = subst (λ (k : ℕ). Right start (instruction_for ts k)) (sym q) (own_right i low d to g size)
          under j (inr (w, h)) = let z : ◌≡◌ {A = ℕ} 0 1 = cc in absurd (omega arith)
      go false v rest = record {
        size = right.size;
        keeps = λ k e. right.keeps k (left.keeps k (own_keeps i low d to g size k e));
        puts = under;
      }
        where
          left_to : ((term_at ts i).left < i) × (goes_to ts (term_at ts i).left ≡ record { instruction = m; port = 0 })
          left_to = goes_side ts ok i 0 low v (omega arith)

          right_to : ((term_at ts i).right < i) × (goes_to ts (term_at ts i).right ≡ record { instruction = m; port = 1 })
          right_to = goes_side ts ok i 1 low v (omega arith)

          middle : List Instruction
          middle = put_below bound ts (term_at ts i).left (record { instruction = m; port = 0 }) start

          left : Puts bound (term_at ts i).left start middle
          left = let z = left_to.0 in rest (term_at ts i).left (omega arith) (omega arith) (record { instruction = m; port = 0 }) left_to.1 start start_size

          right : Puts bound (term_at ts i).right middle (put_below bound ts (term_at ts i).right (record { instruction = m; port = 1 }) middle)
          right = let z = right_to.0 in rest (term_at ts i).right (omega arith) (omega arith) (record { instruction = m; port = 1 }) right_to.1 middle left.size

          under : (j : ℕ) → Under (suc bound) i j → Right (put_below bound ts (term_at ts i).right (record { instruction = m; port = 1 }) middle) (instruction_for ts j)
          under j (inl q) = subst (λ (k : ℕ). Right (put_below bound ts (term_at ts i).right (record { instruction = m; port = 1 }) middle) (instruction_for ts k)) (sym q)
              (right.keeps m (left.keeps m (own_right i low d to g size)))
          under j (inr (w, inl h)) = right.keeps (instruction_for ts j) (left.puts j h)
          under j (inr (w, inr h)) = right.puts j h

  -- ---- all records are under the last

  self : (bound j : ℕ) → j < bound → Under bound j j
  self zero j l = absurd (omega arith)
  self (suc bound) j l = inl refl

  -- what a record under i names is under i
  deeper : (bound i k j : ℕ) → i < bound → i < n → Under bound i k → is_variable (term_at ts k) ≡ false → ((term_at ts k).left ≡ j) ⊎ ((term_at ts k).right ≡ j) → Under bound i j
  deeper zero i k j l low u v s = u
  deeper (suc bound) i k j l low (inl q) v s = inr (w, side s)
    where
      w : is_variable (term_at ts i) ≡ false
      w = subst (λ (m : ℕ). is_variable (term_at ts m) ≡ false) q v

      o : OperationAt ts i
      o = ok.operation i low w

      side : ((term_at ts k).left ≡ j) ⊎ ((term_at ts k).right ≡ j) → Under bound (term_at ts i).left j ⊎ Under bound (term_at ts i).right j
      side (inl e) = inl (subst (Under bound (term_at ts i).left) (ap (λ (m : ℕ). (term_at ts m).left) (sym q) ∙ e) (self bound (term_at ts i).left (let z = o.left in omega arith)))
      side (inr e) = inr (subst (Under bound (term_at ts i).right) (ap (λ (m : ℕ). (term_at ts m).right) (sym q) ∙ e) (self bound (term_at ts i).right (let z = o.right in omega arith)))
  deeper (suc bound) i k j l low (inr (w, inl u)) v s = let z = (ok.operation i low w).left in inr (w, inl (deeper bound (term_at ts i).left k j (omega arith) (omega arith) u v s))
  deeper (suc bound) i k j l low (inr (w, inr u)) v s = let z = (ok.operation i low w).right in inr (w, inr (deeper bound (term_at ts i).right k j (omega arith) (omega arith) u v s))

  abbrev UnderLast : (j : ℕ) → Type 0
  UnderLast j = Under (suc (n - 1)) (n - 1) j

  all_under_lem : (steps j : ℕ) → n ≤ j + steps → j < n → UnderLast j
  all_under_lem zero j b l = absurd (omega arith)
  all_under_lem (suc steps) j b l = go (dec_le (suc (suc j)) n) (λ i later low. all_under_lem steps i (omega arith) low)
    where
      before : (i : ℕ) → i < n → is_variable (term_at ts i) ≡ false → ((term_at ts i).left ≡ j) ⊎ ((term_at ts i).right ≡ j) → j < i
      before i low v (inl q) = let z = (ok.operation i low v).left in omega arith
      before i low v (inr q) = let z = (ok.operation i low v).right in omega arith

      go : Dec (suc j < n) → ((i : ℕ) → j < i → i < n → UnderLast i) → UnderLast j
      go (no h) rest = inl (omega arith)
      go (yes h) rest =
          let (i, low, e) = ok.named j h in
          let (v, s) = named_by j (term_at ts i) e in
          deeper (suc (n - 1)) (n - 1) i j (omega arith) (omega arith) (rest i (before i low v s) low) v s

  -- ---- the whole graph

  -- each number below that of OUT is that of a record
  numbered : (m : ℕ) → m < n → (j : ℕ) × (j < n) × (instruction_for ts j ≡ m)
  unfolding term_at
  numbered m l = go (dec_le (suc m) (count is_variable ts))
    where
      go : Dec (m < count is_variable ts) → (j : ℕ) × (j < n) × (instruction_for ts j ≡ m)
      go (yes h) = let (j, low, v, e) = counted is_variable (decode_term []) ts m h in (j, low, variable_number_lem ts j v ∙ e)
      go (no h) =
          let (j, low, v, e) = counted is_operation (decode_term []) ts (m - count is_variable ts) (omega (arith, count_both ts)) in
          let number = operation_number ts j (not-true (is_variable (term_at ts j)) v) in
          (j, low, omega arith)

  put_graph_lem : (g : List Instruction) → length g ≡ suc n → put_graph ts g ≡ graph_for ts
  unfolding put_graph instruction_at
  put_graph_lem g size = ext_get_or (Graph.decode_instruction []) (put_graph ts g) (graph_for ts) (all.size ∙ sym (length_graph ts)) (λ m l. entry m (let z = all.size in omega arith) (ℕ_discrete m n))
    where
      start : List Instruction
      start = set g (out_for ts) out

      all : Puts (suc (n - 1)) (n - 1) start (put_graph ts g)
      all = let some = ok.some in put (suc (n - 1)) (n - 1) (omega arith) (omega arith) (record { instruction = out_for ts; port = 0 }) (goes_last ts ok) start (length-set g (out_for ts) out ∙ size)

      entry : (m : ℕ) → m < suc n → Dec (m ≡ n) → Right (put_graph ts g) m
      entry m l (yes q) = subst (Right (put_graph ts g)) (sym q) (all.keeps n (get_or-set_same g (out_for ts) out (Graph.decode_instruction []) (omega arith) ∙ sym (at_out ts)))
      entry m l (no q) =
          let (j, low, e) = numbered m (omega arith) in
          subst (Right (put_graph ts g)) e (all.puts j (all_under_lem n j (omega arith) low))

pub graphs_put : GraphsPut
graphs_put expression e = put_graph_lem (expression_of expression) (passed expression e)
