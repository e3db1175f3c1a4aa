-- A firing over the lists of tokens and cells is a firing over the view (`commit_result`), it keeps keys
-- different and activities at their places. Assumes nothing.
use mathlib.Core.Path.{◌≡◌, refl, sym, ap, subst, ◌∙◌, fun_ext}
use mathlib.Core.List.{List, [], ◌∷◌, ◌++◌, map}
use mathlib.Core.Option.{Option, none, some}
use mathlib.Core.Bool.{Bool, true, false, ◌||◌, cond}
use Prim.Native.Nat.{ℕ, suc, ◌+◌, ◌<◌}
use native.Mathlib.Decide.{ℕ_discrete}
use native.Mathlib.Omega.{arith}
use lib.ListN.{length, set, length-append, length-map, length-set}
use lib.Seq.{get_or-set_same, get_or-set_other}
use borrow.Author.Tests.{ltb-true, ltb-false}
use Rattle.machine.specs.Machine.{Key, Content, live, spent, deferred, Token, Cell, absent, waiting, present, refuse, send, read, write, Machine, fired, not_fired}
use Rattle.machine.specs.Machine.{when, is_there, fill, cell_at, cell_read, content_read, if_present, changed, output}
use Rattle.machine.specs.Machine.{Ledger, StateOf, EffectOf, FiredOf, Contents, same_key, find, look, is_operand_of, place_of, spend_at, among, any_taken, exceeds, admit, commit}
use Rattle.machine.specs.Orders.{CellsBelow, Distinct}
use Rattle.machine.proofs.View.{when_yes, none_some, false_true, omap, or_else, given, value, resolve, settle, only_at, cell_step, NotPresent, Unwritten, cell_after}
use Rattle.machine.proofs.View.{View, DeltaOf, delta_of, Fresh, Allowed, change, apply, fresh_get, fresh_change}

-- ---- contents

module _ {W : Type 0} where
  settle_none : (y : Content W) → y ≡ settle (λ c. none) y
  settle_none (live v) = refl
  settle_none (spent v) = refl
  settle_none (deferred c) = refl

  fill_settle : (c : ℕ) (v : W) (y : Content W) → fill c v y ≡ settle (only_at c (some v) none) y
  fill_settle c v (live u) = refl
  fill_settle c v (spent u) = refl
  fill_settle c v (deferred i) = go (ℕ_discrete i c) refl
    where
      go : (d : Dec (i ≡ c)) → ℕ_discrete i c ≡ d → fill c v (deferred i) ≡ settle (only_at c (some v) none) (deferred i)
      go (yes p) e = rw e
      go (no n) e = rw e

  -- ---- cells

  read_cells : (cells : List (Cell W)) (c : ℕ) → c < length cells → (i : ℕ) → cell_at (set cells c (cell_read (cell_at cells c))) i ≡ cell_step none (only_at c true false i) (cell_at cells i)
  read_cells cells c h i = go (ℕ_discrete i c)
    where
      go : (d : Dec (i ≡ c)) → cell_at (set cells c (cell_read (cell_at cells c))) i ≡ cell_step none (when d true false) (cell_at cells i)
      go (yes p) = rw p (get_or-set_same cells c (cell_read (cell_at cells c)) absent h)
      go (no n) = get_or-set_other cells c i (cell_read (cell_at cells c)) absent n

  write_cells : (cells : List (Cell W)) (c : ℕ) (v : W) → c < length cells → (i : ℕ) → cell_at (set cells c (present v)) i ≡ cell_step (only_at c (some v) none i) false (cell_at cells i)
  write_cells cells c v h i = go (ℕ_discrete i c)
    where
      go : (d : Dec (i ≡ c)) → cell_at (set cells c (present v)) i ≡ cell_step (when d (some v) none) false (cell_at cells i)
      go (yes p) = rw p (get_or-set_same cells c (present v) absent h)
      go (no n) = get_or-set_other cells c i (present v) absent n

  only_there : (cell : ℕ → Cell W) (c : ℕ) (v : W) → NotPresent (cell c) → Unwritten cell (only_at c (some v) none)
  only_there cell c v h i w = go (ℕ_discrete i c)
    where
      go : (d : Dec (i ≡ c)) → when d (some v) none ≡ some w → NotPresent (cell i)
      go (yes p) e = rw p h
      go (no n) e = none_some e

  -- a read sends the same before and after it marks the cell
  read_twice : (c : ℕ) (x : Cell W) → content_read c x ≡ content_read c (cell_read x)
  read_twice c absent = refl
  read_twice c waiting = refl
  read_twice c (present v) = refl

  read_content : (c : ℕ) (x : Cell W) → content_read c x ≡ content_read c (cell_step none (only_at c true false c) x)
  read_content c x = read_twice c x ∙ ap (λ b. content_read c (cell_step none b x)) (sym (when_yes (ℕ_discrete c c) true false refl))

module _ (M : Machine) where
  -- ---- the tokens by key

  pub find_append : (k : Key M.Tag) (l m : Ledger M) → find M k (l ++ m) ≡ or_else (find M k l) (find M k m)
  find_append k [] m = refl
  find_append k (x ∷ xs) m = go (same_key M k x.key) (find_append k xs m)
    where
      go : (d : Dec (k ≡ x.key)) → find M k (xs ++ m) ≡ or_else (find M k xs) (find M k m)
          → when d (some x.content) (find M k (xs ++ m)) ≡ or_else (when d (some x.content) (find M k xs)) (find M k m)
      go (yes p) h = refl
      go (no n) h = h

  pub find_changed : (f : Key M.Tag → Content M.Value → Content M.Value) (k : Key M.Tag) (l : Ledger M) → find M k (map (changed f) l) ≡ omap (f k) (find M k l)
  find_changed f k [] = refl
  find_changed f k (x ∷ xs) = go (same_key M k x.key) (find_changed f k xs)
    where
      go : (d : Dec (k ≡ x.key)) → find M k (map (changed f) xs) ≡ omap (f k) (find M k xs)
          → when d (some (f x.key x.content)) (find M k (map (changed f) xs)) ≡ omap (f k) (when d (some x.content) (find M k xs))
      go (yes p) h = ap (λ j. some (f j x.content)) (sym p)
      go (no n) h = h

  pub find_outputs : (y : Content M.Value) (k : Key M.Tag) (ks : List (Key M.Tag)) → find M k (map (output y) ks) ≡ given (among M k ks) y
  find_outputs y k [] = refl
  find_outputs y k (j ∷ js) = go (same_key M k j) (find_outputs y k js)
    where
      go : (d : Dec (k ≡ j)) → find M k (map (output y) js) ≡ given (among M k js) y → when d (some y) (find M k (map (output y) js)) ≡ given (when d true (among M k js)) y
      go (yes p) h = refl
      go (no n) h = h

  pub find_head : (x : Token M.Tag M.Value) (xs : Ledger M) → find M x.key (x ∷ xs) ≡ some x.content
  find_head x xs = when_yes (same_key M x.key x.key) _ _ refl

  not_head : (k : Key M.Tag) (x : Token M.Tag M.Value) (xs : Ledger M) → find M k (x ∷ xs) ≡ none → find M k xs ≡ none
  not_head k x xs = go (same_key M k x.key)
    where
      go : (d : Dec (k ≡ x.key)) → when d (some x.content) (find M k xs) ≡ none → find M k xs ≡ none
      go (yes p) h = none_some (sym h)
      go (no n) h = h

  -- ---- keys pairwise different

  distinct_outputs : (y : Content M.Value) (tok : Contents M) (ks : List (Key M.Tag)) → Fresh M tok ks → Distinct M (map (output y) ks)
  distinct_outputs y tok [] f = tt
  distinct_outputs y tok (k ∷ ks) f = (find_outputs y k ks ∙ ap (λ b. given b y) f.1, distinct_outputs y tok ks f.2)

  pub distinct_append : (f : Key M.Tag → Content M.Value → Content M.Value) (y : Content M.Value) (l : Ledger M) (ks : List (Key M.Tag))
      → Distinct M l → Fresh M (λ k. find M k l) ks → Distinct M (map (changed f) l ++ map (output y) ks)
  distinct_append f y [] ks d h = distinct_outputs y (λ k. none) ks h
  distinct_append f y (x ∷ xs) ks d h = (here (among M x.key ks) refl, distinct_append f y xs ks d.1 (fresh_change M (λ k. find M k (x ∷ xs)) (λ k. find M k xs) ks (λ k e. not_head k x xs) h))
    where
      here : (q : Bool) → among M x.key ks ≡ q → find M x.key (map (changed f) xs ++ map (output y) ks) ≡ none
      here false e = rw (find_append, find_changed, find_outputs, d.0, e)
      here true e = none_some (sym (fresh_get M (λ k. find M k (x ∷ xs)) ks x.key h e) ∙ find_head x xs)

  -- what the firing tests is that the keys are fresh
  pub fresh_of : (ts : Ledger M) (ks : List (Key M.Tag)) → any_taken M ts ks ≡ false → Fresh M (λ k. find M k ts) ks
  fresh_of ts [] e = tt
  fresh_of ts (k ∷ ks) e = go (find M k ts) (among M k ks) refl refl e (λ h. fresh_of ts ks h)
    where
      go : (x : Option (Content M.Value)) (b : Bool) → find M k ts ≡ x → among M k ks ≡ b → is_there x || b || any_taken M ts ks ≡ false
          → (any_taken M ts ks ≡ false → Fresh M (λ j. find M j ts) ks) → Fresh M (λ j. find M j ts) (k ∷ ks)
      go none false f g h rec = (f, g, rec h)
      go none true f g h rec = false_true (sym h)
      go (some y) b f g h rec = false_true (sym h)

  pub taken_of : (ts : Ledger M) (ks : List (Key M.Tag)) → Fresh M (λ k. find M k ts) ks → any_taken M ts ks ≡ false
  taken_of ts [] f = refl
  taken_of ts (k ∷ ks) f = rw (f.0, f.1) (taken_of ts ks f.2)

  -- ---- places

  -- tokens keep their keys, and more come behind them
  place_kept_lem : (f : Key M.Tag → Content M.Value → Content M.Value) (τ : M.Tag) (l m : Ledger M) → place_of M τ l < length l → place_of M τ (map (changed f) l ++ m) ≡ place_of M τ l
  place_kept_lem f τ [] m h = absurd (omega arith)
  place_kept_lem f τ (x ∷ xs) m h = go (is_operand_of M τ x.key) h (λ i. place_kept_lem f τ xs m i)
    where
      go : (b : Bool) → cond b 0 (suc (place_of M τ xs)) < suc (length xs) → (place_of M τ xs < length xs → place_of M τ (map (changed f) xs ++ m) ≡ place_of M τ xs)
          → cond b 0 (suc (place_of M τ (map (changed f) xs ++ m))) ≡ cond b 0 (suc (place_of M τ xs))
      go true i rec = refl
      go false i rec = ap suc (rec (omega arith))

  -- ---- a firing

  -- a state by key and by cell
  abbrev pub view : StateOf M → View M
  view s = record { tok = look M s; cell = cell_at s.cells; used = length s.tokens }

  -- x is what the firing of t makes of s
  pub record After (s : StateOf M) (t : M.Tag) (d : DeltaOf M) (x : StateOf M) : Type 0 where
    pub allowed : Allowed M (view s) d
    pub seen : apply M t d (view s) ≡ view x
    pub distinct : Distinct M x.tokens
    pub cell_count : length x.cells ≡ length s.cells
    -- its tokens one by one: those of s changed, and behind them the outputs, all with one content
    pub sent : Content M.Value
    pub sent_from : sent ≡ resolve (cell_after d (cell_at s.cells)) d.source
    pub listed : x.tokens ≡ map (changed (change M t d)) s.tokens ++ map (output sent) d.keys

  -- an activity with an operand in the ledger keeps its place
  pub placed : (s : StateOf M) (t : M.Tag) (d : DeltaOf M) (x : StateOf M) → After s t d x → (τ : M.Tag) → place_of M τ s.tokens < length s.tokens → place_of M τ x.tokens ≡ place_of M τ s.tokens
  placed s t d x a τ h = ap (place_of M τ) a.listed ∙ place_kept_lem (change M t d) τ s.tokens (map (output a.sent) d.keys) h

  abbrev pub Result : StateOf M → M.Tag → DeltaOf M → FiredOf M → Type 0
  Result s t d (not_fired r) = ¬ (Allowed M (view s) d)
  Result s t d (fired x) = After s t d x

  after_admit : (s : StateOf M) (t : M.Tag) (d : DeltaOf M) (cells : List (Cell M.Value)) (y : Content M.Value) → Distinct M s.tokens → Allowed M (view s) d
      → cell_at cells ≡ cell_after d (cell_at s.cells) → y ≡ resolve (cell_after d (cell_at s.cells)) d.source → length cells ≡ length s.cells
      → After s t d (record { tokens = map (changed (change M t d)) s.tokens ++ map (output y) d.keys; cells = cells })
  after_admit s t d cells y ds al c v l = record {
    allowed = al;
    seen = λ i. record { tok = λ k. sym (toks k) i; cell = sym c i; used = sym lengths i };
    distinct = distinct_append (change M t d) y s.tokens d.keys ds al.fresh;
    cell_count = l;
    sent = y;
    sent_from = v;
    listed = refl;
  }
    where
      toks : (k : Key M.Tag) → find M k (map (changed (change M t d)) s.tokens ++ map (output y) d.keys) ≡ (apply M t d (view s)).tok k
      toks k = rw (find_append, find_changed, find_outputs) (ap (λ x. or_else (omap (change M t d k) (find M k s.tokens)) (given (among M k d.keys) x)) v)

      lengths : length (map (changed (change M t d)) s.tokens ++ map (output y) d.keys) ≡ length s.tokens + length d.keys
      lengths = simp (length-append, length-map)

  admit_result : (s : StateOf M) (t : M.Tag) (d : DeltaOf M) (f : Key M.Tag → Content M.Value → Content M.Value) (cells : List (Cell M.Value)) (y : Content M.Value)
      → Distinct M s.tokens → f ≡ change M t d → cell_at cells ≡ cell_after d (cell_at s.cells) → y ≡ resolve (cell_after d (cell_at s.cells)) d.source
      → length cells ≡ length s.cells → Unwritten (cell_at s.cells) d.writes → Result s t d (admit M s (map (changed f) s.tokens) cells y d.keys)
  unfolding admit
  admit_result s t d f cells y ds e c v l u = go (exceeds M s.tokens d.keys) (any_taken M s.tokens d.keys) refl refl
    where
      go : (p q : Bool) → exceeds M s.tokens d.keys ≡ p → any_taken M s.tokens d.keys ≡ q → Result s t d (admit M s (map (changed f) s.tokens) cells y d.keys)
      go true q h g = rw h (λ al. let z = ltb-true M.capacity (length s.tokens + length d.keys) h in let r = al.room in omega arith)
      go false true h g = rw (h, g) (λ al. false_true (sym (taken_of s.tokens d.keys al.fresh) ∙ g))
      go false false h g = rw (h, g, e) (after_admit s t d cells y ds (record { room = ltb-false M.capacity (length s.tokens + length d.keys) h; fresh = fresh_of s.tokens d.keys g; unwritten = u }) c v l)

  abbrev pub Answer : StateOf M → M.Tag → Option (DeltaOf M) → FiredOf M → Type 0
  Answer s t none (not_fired r) = Unit {0}
  Answer s t none (fired x) = ⊥
  Answer s t (some d) y = Result s t d y

  pub commit_result : (s : StateOf M) (t : M.Tag) (e : EffectOf M) → Distinct M s.tokens → CellsBelow (length s.cells) e → Answer s t (delta_of M e) (commit M s t e)
  unfolding commit
  commit_result s t (refuse r) ds b = tt
  commit_result s t (send v keys) ds b = admit_result s t _ (spend_at M t) s.cells (live v) ds (fun_ext (λ k. fun_ext (λ y. settle_none (spend_at M t k y)))) refl refl refl (λ c v e. none_some e)
  commit_result s t (read c keys) ds b = admit_result s t _ (spend_at M t) (set s.cells c (cell_read (cell_at s.cells c))) (content_read c (cell_at s.cells c)) ds
      (fun_ext (λ k. fun_ext (λ y. settle_none (spend_at M t k y)))) (fun_ext (read_cells s.cells c b)) (read_content c (cell_at s.cells c)) (length-set s.cells c _) (λ c v e. none_some e)
  commit_result s t (write c v keys) ds b = go (cell_at s.cells c) refl
    where
      d : DeltaOf M
      d = record { keys = keys; source = value M.signal; writes = only_at c (some v) none; reads = λ c. false }

      filled : Key M.Tag → Content M.Value → Content M.Value
      filled k x = fill c v (spend_at M t k x)

      granted : NotPresent (cell_at s.cells c) → Result s t d (admit M s (map (changed filled) s.tokens) (set s.cells c (present v)) (live M.signal) keys)
      granted h = admit_result s t d filled (set s.cells c (present v)) (live M.signal) ds (fun_ext (λ k. fun_ext (λ y. fill_settle c v (spend_at M t k y))))
          (fun_ext (write_cells s.cells c v b)) refl (length-set s.cells c _) (only_there (cell_at s.cells) c v h)

      go : (x : Cell M.Value) → cell_at s.cells c ≡ x → Result s t d (if_present x (not_fired M.second_write) (admit M s (map (changed filled) s.tokens) (set s.cells c (present v)) (live M.signal) keys))
      go absent e = granted (rw e tt)
      go waiting e = granted (rw e tt)
      go (present w) e = λ al. subst NotPresent e (al.unwritten c v (when_yes (ℕ_discrete c c) _ _ refl))
