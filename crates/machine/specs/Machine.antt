-- 01, "Tokens and tags", "Firing" and "The answer and the refusals": the tagged-token machine over any tags, any values and
-- any instruction set. Holds tokens, cells, effects, the enabled activities, the firing and the run. Assumes nothing.
--
-- The machine is cut in two. `effect` is the instruction set: it does not look at the state. `commit` spends, defers, fills,
-- writes and appends: it does not look at the instruction. Whatever refusal depends on the state is in `commit`.
use Rattle.std.proofs.Common.{ap}
use Rattle.std.specs.Prelude.{List, [], ◌∷◌, ◌++◌, map, Bool, true, false, ◌&&◌, ◌||◌, cond, ℕ, zero, suc, ◌+◌, ◌%◌, ltb, eqb, length, get_or, set}
use Rattle.std.proofs.Math.Option.{Option, none, some}
use Rattle.std.proofs.Math.Decide.{ℕ_discrete}

-- ---- tokens, cells, effects

-- a port of a tag; in a whole run it receives one token at most
pub record Key (T : Type 0) : Type 0 where
  pub tag : T
  pub port : ℕ

-- a token's state and value. A spent token keeps its value; a deferred one has the number of its cell instead
pub data Content (W : Type 0) : Type 0 where
  live : W → Content W
  spent : W → Content W
  deferred : (cell : ℕ) → Content W

pub record Token (T W : Type 0) : Type 0 where
  pub key : Key T
  pub content : Content W

-- "A cell is absent, waiting or present."
pub data Cell (W : Type 0) : Type 0 where
  absent waiting : Cell W
  present : W → Cell W

-- what an instruction asks for, once its operands are there
pub data Effect (R T W : Type 0) : Type 0 where
  refuse : R → Effect R T W
  -- a value to each key
  send : W → List (Key T) → Effect R T W
  -- the cell's value to each key, now or once it is written
  read : (cell : ℕ) → List (Key T) → Effect R T W
  -- a value to a cell, and a signal to each key
  write : (cell : ℕ) → W → List (Key T) → Effect R T W

pub record Machine : Type 1 where
  pub Tag : Type 0
  pub Value : Type 0
  pub Refusal : Type 0
  pub same : Discrete Tag
  -- how many operands an activity waits for: the ports below it; 0 for a result, which never fires
  pub arity : Tag → ℕ
  -- of the tag and of the values of ports 0 and 1, without a look at the state
  pub effect : Tag → Value → Value → Effect Refusal Tag Value
  -- what a write sends
  pub signal : Value
  -- the refusals that depend on the state
  pub ledger_full : Refusal
  pub second_token : Refusal
  pub second_write : Refusal
  pub capacity : ℕ
  pub cell_count : ℕ

-- the ledger, its tokens in order of arrival, and the cells
pub record State (T W : Type 0) : Type 0 where
  pub tokens : List (Token T W)
  pub cells : List (Cell W)

-- an activity is known by its tag; its place is the ledger position of its earliest operand
pub record Activity (T : Type 0) : Type 0 where
  pub place : ℕ
  pub tag : T

-- what comes of one firing
pub data Fired (R T W : Type 0) : Type 0 where
  fired : State T W → Fired R T W
  not_fired : R → Fired R T W

pub data Outcome (R : Type 0) : Type 0 where
  completed hung budget_spent : Outcome R
  refused : R → (place : ℕ) → Outcome R

-- how a run ends, after how many firings, and what it leaves
pub record End (R T W : Type 0) : Type 0 where
  pub outcome : Outcome R
  pub firings : ℕ
  pub state : State T W

-- ---- by cases

abbrev pub when {ℓ κ} : {P : Type ℓ} {A : Type κ} → Dec P → A → A → A
when (yes p) a b = a
when (no n) a b = b

abbrev pub on_option {ℓ κ} : {A : Type ℓ} {B : Type κ} → Option A → B → (A → B) → B
on_option none b f = b
on_option (some a) b f = f a

abbrev pub on_list {ℓ κ} : {A : Type ℓ} {B : Type κ} → List A → B → (A → List A → B) → B
on_list [] b f = b
on_list (x ∷ xs) b f = f x xs

-- a conjunction is decided by its parts
unfoldable pub decide_both : {P Q R : Type 0} → (P → Q → R) → (R → P) → (R → Q) → Dec P → Dec Q → Dec R
decide_both f g h (yes p) (yes q) = yes (f p q)
decide_both f g h (yes p) (no n) = no (λ r. n (h r))
decide_both f g h (no n) q = no (λ r. n (g r))

-- keys are equal if their tags and their ports are
unfoldable pub same_key_by : {T : Type 0} → Discrete T → Discrete (Key T)
same_key_by same a b = decide_both (λ p q. λ i. record { tag = p i; port = q i }) (λ e. ap (λ k. k.tag) e) (λ e. ap (λ k. k.port) e)
    (same a.tag b.tag) (ℕ_discrete a.port b.port)

-- ---- contents and cells

abbrev pub live_value : {W : Type 0} → Option (Content W) → Option W
live_value none = none
live_value (some (live v)) = some v
live_value (some (spent v)) = none
live_value (some (deferred c)) = none

abbrev pub is_live : {W : Type 0} → Content W → Bool
is_live (live v) = true
is_live (spent v) = false
is_live (deferred c) = false

-- a token that a completed run may leave, by its tag's arity: a spent one, or a live result
abbrev pub is_proper : {W : Type 0} → (arity : ℕ) → Content W → Bool
is_proper arity (live v) = eqb arity 0
is_proper arity (spent v) = true
is_proper arity (deferred c) = false

-- there is a token, in any state
abbrev pub is_there : {W : Type 0} → Option (Content W) → Bool
is_there none = false
is_there (some x) = true

-- "A firing spends its operands, whose values stay"
abbrev pub spend : {W : Type 0} → Content W → Content W
spend (live v) = spent v
spend (spent v) = spent v
spend (deferred c) = deferred c

-- what a write of v to the cell c makes of a token: if it is deferred on c, it has the value and is live
abbrev pub fill : {W : Type 0} → (cell : ℕ) → W → Content W → Content W
fill c v (live w) = live w
fill c v (spent w) = spent w
fill c v (deferred d) = when (ℕ_discrete d c) (live v) (deferred d)

-- a cell number past the count reads as absent; a lawful instruction set names none
abbrev pub cell_at : {W : Type 0} → List (Cell W) → ℕ → Cell W
cell_at cells c = get_or cells c absent

-- what a read leaves of a cell: without a value it is waiting
abbrev pub cell_read : {W : Type 0} → Cell W → Cell W
cell_read absent = waiting
cell_read waiting = waiting
cell_read (present v) = present v

-- what a read of the cell c sends: the value of a present cell, else outputs that are deferred on it
abbrev pub content_read : {W : Type 0} → (cell : ℕ) → Cell W → Content W
content_read c absent = deferred c
content_read c waiting = deferred c
content_read c (present v) = live v

abbrev pub if_present : {W A : Type 0} → Cell W → A → A → A
if_present absent a b = b
if_present waiting a b = b
if_present (present v) a b = a

-- each token with another content, by a rule of its key and its content
abbrev pub changed : {T W : Type 0} → (Key T → Content W → Content W) → Token T W → Token T W
changed f t = record { key = t.key; content = f t.key t.content }

abbrev pub output : {T W : Type 0} → Content W → Key T → Token T W
output x k = record { key = k; content = x }

-- the values of ports 0 and 1; where one operand is waited for, its value twice
pub record Operands (W : Type 0) : Type 0 where
  pub left : W
  pub right : W

-- all ports below n have a value
abbrev pub all_there : {W : Type 0} → (ℕ → Option W) → (n : ℕ) → Bool
all_there value zero = true
all_there value (suc n) = on_option (value n) false (λ v. all_there value n)

abbrev pub two_values : {W : Type 0} → (n : ℕ) → Option W → Option W → Option (Operands W)
two_values zero x y = none
two_values (suc zero) x y = on_option x none (λ v. some (record { left = v; right = v }))
two_values (suc (suc n)) x y = on_option x none (λ v. on_option y none (λ w. some (record { left = v; right = w })))

-- ---- picks

-- "of e enabled activities a pick takes number (pick mod e), counted from 0"
abbrev pub picked_number : (pick e : ℕ) → ℕ
picked_number pick e = pick % e

-- "Once picks run out, the first is taken": pick 0
abbrev pub first_pick : List ℕ → ℕ
first_pick [] = 0
first_pick (p ∷ ps) = p

abbrev pub later_picks : List ℕ → List ℕ
later_picks [] = []
later_picks (p ∷ ps) = ps

module _ (M : Machine) where
  abbrev pub Ledger : Type 0
  Ledger = List (Token M.Tag M.Value)

  abbrev pub StateOf : Type 0
  StateOf = State M.Tag M.Value

  abbrev pub EffectOf : Type 0
  EffectOf = Effect M.Refusal M.Tag M.Value

  abbrev pub FiredOf : Type 0
  FiredOf = Fired M.Refusal M.Tag M.Value

  abbrev pub EndOf : Type 0
  EndOf = End M.Refusal M.Tag M.Value

  -- what each key has
  abbrev pub Contents : Type 0
  Contents = Key M.Tag → Option (Content M.Value)

  -- ---- matching: tokens by key

  abbrev pub same_key : Discrete (Key M.Tag)
  same_key = same_key_by M.same

  abbrev pub at : M.Tag → (port : ℕ) → Key M.Tag
  at τ p = record { tag = τ; port = p }

  -- the content of the first token with this key
  abbrev pub find : Key M.Tag → Ledger → Option (Content M.Value)
  find k [] = none
  find k (t ∷ ts) = when (same_key k t.key) (some t.content) (find k ts)

  abbrev pub look : StateOf → Contents
  look s k = find k s.tokens

  -- the key is one of the ports that the tag's activity waits for
  abbrev pub is_operand_of : M.Tag → Key M.Tag → Bool
  is_operand_of τ k = when (M.same τ k.tag) (ltb k.port (M.arity τ)) false

  abbrev pub live_at : Contents → M.Tag → (port : ℕ) → Option M.Value
  live_at content τ p = live_value (content (at τ p))

  abbrev pub all_live : Contents → M.Tag → Bool
  all_live content τ = all_there (live_at content τ) (M.arity τ)

  -- the operands of a tag, if all of them are live; none for a result
  abbrev pub operands : Contents → M.Tag → Option (Operands M.Value)
  operands content τ = cond (all_live content τ) (two_values (M.arity τ) (live_at content τ 0) (live_at content τ 1)) none

  -- ---- the enabled activities

  -- the ledger position of the tag's earliest operand
  abbrev pub place_of : M.Tag → Ledger → ℕ
  place_of τ [] = 0
  place_of τ (t ∷ ts) = cond (is_operand_of τ t.key) 0 (suc (place_of τ ts))

  -- "An activity is enabled when all operands of its tag are live": its place is position i if the token t there is an operand of
  -- its tag, all operands are live (t's own content is looked at first, to compute less), and t is the earliest. So each activity
  -- is counted once. A result has no operands: "OUT never is"
  abbrev pub is_place : StateOf → ℕ → Token M.Tag M.Value → Bool
  is_place s i t = is_live t.content && is_operand_of t.key.tag t.key && all_live (look s) t.key.tag && eqb (place_of t.key.tag s.tokens) i

  -- those whose place is in the rest of the ledger from position i on
  abbrev pub enabled_from : StateOf → ℕ → Ledger → List (Activity M.Tag)
  enabled_from s i [] = []
  enabled_from s i (t ∷ ts) = cond (is_place s i t) (record { place = i; tag = t.key.tag } ∷ enabled_from s (suc i) ts) (enabled_from s (suc i) ts)

  -- "Enabled activities stand in order of place, each counted once."
  unfoldable pub enabled : StateOf → List (Activity M.Tag)
  enabled s = enabled_from s 0 s.tokens

  -- ---- a firing

  -- the firing of τ spends its operands and leaves other tokens
  abbrev pub spend_at : M.Tag → Key M.Tag → Content M.Value → Content M.Value
  spend_at τ k x = cond (is_operand_of τ k) (spend x) x

  abbrev pub among : Key M.Tag → List (Key M.Tag) → Bool
  among k [] = false
  among k (j ∷ js) = when (same_key k j) true (among k js)

  -- by a token in any state
  abbrev pub key_taken : Key M.Tag → Ledger → Bool
  key_taken k ts = is_there (find k ts)

  -- "an output's tag and port taken, by a spent token or this firing's other output too"; the firing's own operands are tokens of
  -- the ledger
  abbrev pub any_taken : Ledger → List (Key M.Tag) → Bool
  any_taken ts [] = false
  any_taken ts (k ∷ ks) = key_taken k ts || among k ks || any_taken ts ks

  -- "used records plus outputs exceed the capacity"
  abbrev pub exceeds : Ledger → List (Key M.Tag) → Bool
  exceeds ts keys = ltb M.capacity (length ts + length keys)

  -- the outputs, destination 1 first, go into the ledger behind the tokens as the firing leaves them; or it is refused
  unfoldable pub admit : StateOf → (left : Ledger) → List (Cell M.Value) → Content M.Value → List (Key M.Tag) → FiredOf
  admit s left cells x keys =
      cond (exceeds s.tokens keys) (not_fired M.ledger_full)
      (cond (any_taken s.tokens keys) (not_fired M.second_token)
      (fired (record { tokens = left ++ map (output x) keys; cells = cells })))

  -- the refusals by the state in their order: second write, ledger full, second token
  unfoldable pub commit : StateOf → M.Tag → EffectOf → FiredOf
  commit s τ (refuse r) = not_fired r
  commit s τ (send v keys) = admit s (map (changed (spend_at τ)) s.tokens) s.cells (live v) keys
  commit s τ (read c keys) =
      admit s (map (changed (spend_at τ)) s.tokens) (set s.cells c (cell_read (cell_at s.cells c))) (content_read c (cell_at s.cells c)) keys
  commit s τ (write c v keys) =
      if_present (cell_at s.cells c) (not_fired M.second_write)
      (admit s (map (changed (λ k x. fill c v (spend_at τ k x))) s.tokens) (set s.cells c (present v)) (live M.signal) keys)

  -- matching, operation, then tags and outputs. Only enabled activities fire, so that nothing depends on what is said of the others
  unfoldable pub fire : StateOf → M.Tag → FiredOf
  fire s τ = on_option (operands (look s) τ) (not_fired M.second_token) (λ p. commit s τ (M.effect τ p.left p.right))

  -- ---- a run

  -- the enabled are a ∷ more
  abbrev pub pick_of : (pick : ℕ) → Activity M.Tag → List (Activity M.Tag) → Activity M.Tag
  pick_of pick a more = get_or (a ∷ more) (picked_number pick (length (a ∷ more))) a

  -- a way to choose one of the enabled, a ∷ more, by the state and by the next pick
  abbrev pub Choice : Type 0
  Choice = StateOf → (pick : ℕ) → Activity M.Tag → List (Activity M.Tag) → Activity M.Tag

  -- the choice by picks looks at the pick alone
  abbrev pub by_picks : Choice
  by_picks s = pick_of

  abbrev pub end : Outcome M.Refusal → ℕ → StateOf → EndOf
  end o f s = record { outcome = o; firings = f; state = s }

  -- a refused firing leaves the state as before it and ends the run, with its activity's place
  abbrev pub after : (firings : ℕ) → StateOf → Activity M.Tag → FiredOf → (StateOf → EndOf) → EndOf
  after f s a (fired x) next = next x
  after f s a (not_fired r) next = end (refused r a.place) f s

  abbrev pub all_proper : Ledger → Bool
  all_proper [] = true
  all_proper (t ∷ ts) = is_proper (M.arity t.key.tag) t.content && all_proper ts

  -- the outcome where nothing is enabled. R-2: "completed only if every live token is at an OUT and none is deferred. Otherwise the
  -- answer is hung"
  unfoldable pub ending : StateOf → Outcome M.Refusal
  ending s = cond (all_proper s.tokens) completed hung

  -- f firings were done before. "Spent: the budget's firings are done and one is still enabled. Completed is tried first", and hung
  unfoldable pub run_by : Choice → (budget : ℕ) → (picks : List ℕ) → (f : ℕ) → StateOf → EndOf
  run_by choose zero picks f s = on_list (enabled s) (end (ending s) f s) (λ a more. end budget_spent f s)
  run_by choose (suc budget) picks f s =
      on_list (enabled s) (end (ending s) f s) (λ a more.
      let b = choose s (first_pick picks) a more in
      after f s b (fire s b.tag) (λ x. run_by choose budget (later_picks picks) (suc f) x))

  abbrev pub run : (budget : ℕ) → (picks : List ℕ) → StateOf → EndOf
  run budget picks s = run_by by_picks budget picks 0 s

-- a computed proof with the line `unfolding machine` computes with all of this
unfoldable pub machine : Unit {0}
unfolding decide_both same_key_by ℕ_discrete enabled admit commit fire ending run_by
machine = tt
