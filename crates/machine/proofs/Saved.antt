-- R-13: the states that a run leaves can be saved (`saved_start`, `saved_run`); of each of them the orders theorem holds (`saved_orders`), and its firings
-- are the tags with spent operands, each counted once (`saved_tags`). Assumes nothing. Takes a machine with a lawful instruction set.
use mathlib.Core.Path.{◌≡◌, sym, ap, subst, ◌∙◌}
use mathlib.Core.List.{List}
use Prim.Native.Nat.{ℕ, ◌+◌, ◌≤◌, ◌<◌}
use native.Mathlib.Decide.{dec_lt}
use native.Mathlib.Omega.{arith}
use lib.ListN.{length, get_or-eq_default}
use Rattle.machine.specs.Machine.{absent, waiting, Machine, cell_at, StateOf, Choice, run_by}
use Rattle.machine.specs.Orders.{Lawful, Good, LawfulChoice, EndsAgree, Reached}
use Rattle.machine.specs.Sequences.{spent_tags}
use Rattle.machine.specs.Saved.{Saved, StartSaved, RunsSave}
use Rattle.machine.proofs.Store.{view}
use Rattle.machine.proofs.Tags.{SpentTagsOnce, tags_length, start_unspent, tags_once_lem}
use Rattle.machine.proofs.Orders.{start_good, orders_by}
use Rattle.machine.proofs.Reached.{absent_waiting, HoldsIn, kept_start, carried, reached_run}

-- ---- the claims

module _ (M : Machine) where
  abbrev pub SavedTags : Type 0
  SavedTags = (f : ℕ) (s : StateOf M) → Saved M f s → SpentTagsOnce M s.tokens

-- ---- the proofs

module _ (M : Machine) where
  -- ---- what a run leaves can be saved

  kept : (f : ℕ) (s : StateOf M) → Saved M f s → HoldsIn M (view M s)
  kept f s h = record {
    deferred_waits = λ k c e. (h.waits_exactly c).1 (k, e);
    waiting_defers = λ c e. (h.waits_exactly c).0 e;
    spent_together = h.spent_together;
    others_unspent = h.others_unspent;
  }

  -- a cell that waits is one of the store
  pub in_store : (s : StateOf M) (c : ℕ) → cell_at s.cells c ≡ waiting → c < length s.cells
  in_store s c e = go (dec_lt c (length s.cells))
    where
      go : Dec (c < length s.cells) → c < length s.cells
      go (yes l) = l
      go (no n) = let z : cell_at s.cells c ≡ absent = get_or-eq_default s.cells absent (omega arith) in absent_waiting (sym z ∙ e)

  saved : (f : ℕ) (s : StateOf M) → Good M s → HoldsIn M (view M s) → f ≡ length (spent_tags M s.tokens) → Saved M f s
  saved f s g k e = record {
    good = g;
    spent_together = k.spent_together;
    others_unspent = k.others_unspent;
    cell_named = λ j c h. let z = in_store s c (k.deferred_waits j c h) in let w = g.cell_count in omega arith;
    waits_exactly = λ c. (λ h. k.waiting_defers c h, λ (j, h). k.deferred_waits j c h);
    firings = e;
  }

  pub saved_start : StartSaved M
  saved_start s h = saved 0 s (start_good M s h) (kept_start M s h) (ap length (sym (start_unspent M s.tokens h.all_live)))

  pub saved_tags : SavedTags M
  saved_tags f s h = tags_once_lem M s.tokens h.good.distinct h.spent_together h.others_unspent

  -- "Firings never exceed tokens."
  pub saved_firings : (f : ℕ) (s : StateOf M) → Saved M f s → f ≤ length s.tokens
  saved_firings f s h = let e = h.firings in let l = tags_length M s.tokens in omega arith

  module _ (law : Lawful M) where
    pub saved_reached : (f : ℕ) (s : StateOf M) → Saved M f s → (n o : ℕ) (x : StateOf M) → Reached M s n o x → Saved M (f + n) x
    saved_reached f s h n o x r =
        let c = carried M law s h.good n o x r in
        let e = h.firings in
        let w = c.spending in
        saved (f + n) x c.good (c.kept (kept f s h)) (omega arith)

    pub saved_run : RunsSave M
    saved_run c ok f s h budget picks =
        let e = reached_run M c ok s budget picks f in
        subst (λ (n : ℕ). Saved M n (run_by M c budget picks f s).state) (sym e.firings) (saved_reached f s h e.done e.sent _ e.reached)

    -- "For any state taken, the same orders theorem applies from there"
    pub saved_orders : (c d : Choice M) → LawfulChoice M c → LawfulChoice M d → (f : ℕ) (s : StateOf M) → Saved M f s → (budget : ℕ) (picks picks' : List ℕ)
        → EndsAgree (run_by M c budget picks f s) (run_by M d budget picks' f s)
    saved_orders c d lc ld f s h budget ps qs = orders_by M law c d lc ld s h.good budget ps qs f
