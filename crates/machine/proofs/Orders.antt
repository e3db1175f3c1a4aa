-- Any two orders of firing end alike (`orders_by`, with two budgets `budgets_by`, and for lists of picks `orders`, `never_spent`, `completes`, `hangs`, `refuses`).
-- Assumes nothing. Each theorem takes the machine, then that its instruction set is lawful, and of the state that it is
-- well-formed; `start_good` gives this of inputs.
use mathlib.Core.Path.{◌≡◌, refl, ap, subst, ◌∙◌}
use mathlib.Core.List.Memᴰ
use mathlib.Core.List.{List, [], ◌∷◌, Memᴰ}
use mathlib.Core.Logic.{◌⊎◌, inl, inr, ◌↔◌}
use Prim.Native.Nat.{ℕ, zero, suc, ◌≤◌}
use native.Mathlib.Omega.{arith}
use lib.ListN.{length, get_or, length-replicate}
use Rattle.machine.specs.Machine.{absent, Machine, Outcome, completed, hung, budget_spent, refused, picked_number}
use Rattle.machine.specs.Machine.{StateOf, pick_of, Choice, by_picks, run_by, run}
use Rattle.machine.specs.Orders.{Lawful, Good, Start, LawfulChoice, Completed, Hung, Quiescent, Spent, Refused, AlikeEnds, EndsAgree, AnyTwoOrdersOfMachine, AnyTwoBudgetsOfMachine, NeverSpent, AllRefused, Says}
use Rattle.machine.specs.Sequences.{Fires, log_of}
use Rattle.machine.proofs.Sequences.{shorter}
use Rattle.machine.proofs.Ending.{rested}
use Rattle.machine.proofs.Runs.{ran, one_tells_all}

get_or_mem : {A : Type 0} (l : List A) (i : ℕ) (d : A) → Memᴰ (get_or l i d) (d ∷ l)
get_or_mem [] i d = Memᴰ.head refl
get_or_mem (x ∷ xs) zero d = Memᴰ.tail (Memᴰ.head refl)
get_or_mem (x ∷ xs) (suc i) d = step (Memᴰ.cases_cons (get_or_mem xs i d))
  where
    step : (get_or xs i d ≡ d) ⊎ Memᴰ (get_or xs i d) xs → Memᴰ (get_or xs i d) (d ∷ x ∷ xs)
    step (inl e) = Memᴰ.head e
    step (inr m) = Memᴰ.tail (Memᴰ.tail m)

module _ (M : Machine) where
  -- a pick takes one of the enabled
  pub by_picks_lawful : LawfulChoice M (by_picks M)
  by_picks_lawful s p a more = step (Memᴰ.cases_cons (get_or_mem (a ∷ more) (picked_number p (length (a ∷ more))) a))
    where
      step : (pick_of M p a more ≡ a) ⊎ Memᴰ (pick_of M p a more) (a ∷ more) → Memᴰ (pick_of M p a more) (a ∷ more)
      step (inl e) = Memᴰ.head e
      step (inr m) = m

  pub start_good : (s : StateOf M) → Start M s → Good M s
  start_good s h = record { distinct = h.distinct; room = h.room; cell_count = ap length h.absent_cells ∙ length-replicate M.cell_count absent }

  -- ---- the theorems, for any two lawful choices

  -- one that completes and one that hangs are told apart by the outcome
  kinds : (o q : Outcome M.Refusal) → (Quiescent o → o ≡ q) → (Completed o → Completed q) × (Hung o → Hung q)
  kinds completed q k = (λ c. subst Completed (k tt) c, λ c. absurd c)
  kinds hung q k = (λ c. absurd c, λ c. subst Hung (k tt) c)
  kinds budget_spent q k = (λ c. absurd c, λ c. absurd c)
  kinds (refused r p) q k = (λ c. absurd c, λ c. absurd c)

  refused_too : (o q : Outcome M.Refusal) → (Completed q → Completed o) → (Hung q → Hung o) → ¬ (Spent q) → Refused o → Refused q
  refused_too completed q h k e c = absurd c
  refused_too hung q h k e c = absurd c
  refused_too budget_spent q h k e c = absurd c
  refused_too (refused r p) completed h k e c = h tt
  refused_too (refused r p) hung h k e c = k tt
  refused_too (refused r p) budget_spent h k e c = absurd (e tt)
  refused_too (refused r p) (refused r' p') h k e c = tt

  module _ (law : Lawful M) where
    -- if one completes or hangs, the other does too, and they are alike
    pub budgets_by : AnyTwoBudgetsOfMachine M
    budgets_by c d lc ld s g b b' ps qs f h l =
        let r = ran M c lc b ps f s in
        let (rest, said) = rested M (run_by M c b ps f s).outcome b (length (log_of M c b ps s)) (run_by M c b ps f s).state h r.says in
        one_tells_all M law s g f (log_of M c b ps s) (run_by M c b ps f s) r.logged rest said d ld b' (omega (arith, r.logged.firings)) qs

    told : (c d : Choice M) → LawfulChoice M c → LawfulChoice M d → (s : StateOf M) → Good M s → (b : ℕ) (ps qs : List ℕ) (f : ℕ) → Quiescent (run_by M c b ps f s).outcome
        → AlikeEnds (run_by M c b ps f s) (run_by M d b qs f s)
    told c d lc ld s g b ps qs f h = let r = ran M c lc b ps f s in budgets_by c d lc ld s g b b ps qs f h (omega (arith, r.logged.firings, r.within))

    pub orders_by : AnyTwoOrdersOfMachine M
    orders_by c d lc ld s g b ps qs f =
        let to = kinds (run_by M c b ps f s).outcome (run_by M d b qs f s).outcome (λ h. (told c d lc ld s g b ps qs f h).outcome) in
        let fro = kinds (run_by M d b qs f s).outcome (run_by M c b ps f s).outcome (λ h. (told d c ld lc s g b qs ps f h).outcome) in
        record { completes = (to.0, fro.0); hangs = (to.1, fro.1); alike = told c d lc ld s g b ps qs f }

    pub never_spent_by : NeverSpent M
    never_spent_by c lc s g b ps f h =
        let r = ran M c lc b ps f s in
        go (log_of M c b ps s) (run_by M c b ps f s).state (run_by M c b ps f s).outcome r.logged.fires r.says
      where
        go : (τs : List M.Tag) (x : StateOf M) (o : Outcome M.Refusal) → Fires M s τs x → Says M o b (length τs) x → ¬ (Spent o)
        go τs x completed p t i = i
        go τs x hung p t i = i
        go τs x budget_spent p (n, a, m) i = let z = shorter M law s g τs x p a m in omega arith
        go τs x (refused r q) p t i = i

    pub refuses_by : AllRefused M
    refuses_by c d lc ld s g b ps qs f h =
        let z = orders_by c d lc ld s g b ps qs f in
        let o = (run_by M c b ps f s).outcome in
        let q = (run_by M d b qs f s).outcome in
        (refused_too o q z.completes.1 z.hangs.1 (never_spent_by d ld s g b qs f h), refused_too q o z.completes.0 z.hangs.0 (never_spent_by c lc s g b ps f h))

    -- ---- and for any two lists of picks

    pub orders : (s : StateOf M) → Good M s → (budget : ℕ) (picks picks' : List ℕ) → EndsAgree (run M budget picks s) (run M budget picks' s)
    orders s g b ps qs = orders_by (by_picks M) (by_picks M) by_picks_lawful by_picks_lawful s g b ps qs 0

    pub never_spent : (s : StateOf M) → Good M s → (budget : ℕ) (picks : List ℕ) → M.capacity ≤ budget → ¬ (Spent (run M budget picks s).outcome)
    never_spent s g b ps h = never_spent_by (by_picks M) by_picks_lawful s g b ps 0 h

    pub completes : (s : StateOf M) → Good M s → (budget : ℕ) (picks picks' : List ℕ) → Completed (run M budget picks s).outcome ↔ Completed (run M budget picks' s).outcome
    completes s g b ps qs = (orders s g b ps qs).completes

    pub hangs : (s : StateOf M) → Good M s → (budget : ℕ) (picks picks' : List ℕ) → Hung (run M budget picks s).outcome ↔ Hung (run M budget picks' s).outcome
    hangs s g b ps qs = (orders s g b ps qs).hangs

    pub refuses : (s : StateOf M) → Good M s → (budget : ℕ) (picks picks' : List ℕ) → M.capacity ≤ budget → Refused (run M budget picks s).outcome ↔ Refused (run M budget picks' s).outcome
    refuses s g b ps qs h = refuses_by (by_picks M) (by_picks M) by_picks_lawful by_picks_lawful s g b ps qs 0 h
