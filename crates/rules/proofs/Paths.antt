-- 02, R-13: the test of a path says that its sites have an ENTER and its levels are unbroken (`path_made_lem`, `path_in_lem`). Assumes nothing.
use Rattle.std.proofs.Common.{Ok}
use Prim.Native.Nat.{ℕ, zero, suc, ◌/◌, ◌%◌, ◌<◌, ◌≤◌}
use mathlib.Core.Path.{◌≡◌, refl, sym, ◌∙◌}
use mathlib.Core.Bool.{Bool, true, false, cond, ◌||◌}
use mathlib.Core.List.{List, [], ◌∷◌}
use native.Mathlib.Omega.{arith}
use borrow.Author.Tests.{eqb-true, eqb-false, leb-true}
use lib.ListN.{length, get_or}
use lib.Dec.{eqb, leb}
use lib.IntN.{pos}
use Rattle.record.specs.declared.tag.Tag.{Tag}
use Rattle.record.specs.declared.tag.Caller.{Caller}
use Rattle.std.specs.Prelude.{Option, Some, None}
use Rattle.record.specs.declared.instruction.Instruction.{Instruction}
use Rattle.buffer.specs.Rows.{All}
use Rattle.record.specs.Paths.{path_number, path_words, is_root}
use Rattle.record.specs.Calls.{most_levels, leave_of, Call, path_of}
use Rattle.record.specs.GraphRecords.{graph_of}
use Rattle.record.specs.GraphRecords as Graph
use Rattle.record.proofs.Paths.{number_words}
use Rattle.record.proofs.Calls.{left_path_lem}
use Rattle.arithmetic.proofs.Ranged.{eq_z_true}
use Rattle.arithmetic.specs.Arithmetic.{eq_z}
use Rattle.machine.proofs.View.{false_true}
use Rattle.rules.specs.Check.{any, instruction_at, within, enters_site, check_graph}
use Rattle.rules.specs.Callers.{HasEnter, CallIn, PathIn}
use Rattle.rules.specs.Saved.{path_made}
use Rattle.rules.proofs.Passed.{both}
use Rattle.rules.proofs.PassedGraph.{of_graph, enter_named}

-- one that passes stands somewhere
any_index : {A : Type 0} (f : A → Bool) (d : A) (xs : List A) → any f xs ≡ true → (i : ℕ) × (i < length xs) × (f (get_or xs i d) ≡ true)
any_index f d [] e = false_true e
any_index f d (x ∷ xs) e = go (f x) refl e (λ h. any_index f d xs h)
  where
    go : (b : Bool) → f x ≡ b → b || any f xs ≡ true → (any f xs ≡ true → (i : ℕ) × (i < length xs) × (f (get_or xs i d) ≡ true)) → (i : ℕ) × (i < length (x ∷ xs)) × (f (get_or (x ∷ xs) i d) ≡ true)
    go true h k rec = (0, omega arith, h)
    go false h k rec = let (i, l, g) = rec k in (suc i, omega arith, g)

-- ---- LEAVE finds the newest level of a path

no_caller : (τ : Tag) → path_number τ.path ≡ 0 → leave_of τ ≡ None
unfolding leave_of is_root
no_caller τ e = rw e

-- where a path of this number came from
abbrev caller_of : (path instruction : ℕ) → Tag
caller_of path instruction = record { path = path_words (path / 65536); iteration = path % 256; instruction = instruction }

a_caller : (τ : Tag) → ¬ (path_number τ.path ≡ 0) → leave_of τ ≡ Some (record { site = path_number τ.path / 256 % 256; tag = caller_of (path_number τ.path) τ.instruction })
unfolding leave_of is_root
a_caller τ n = go (eqb (path_number τ.path) 0) refl
  where
    go : (b : Bool) → eqb (path_number τ.path) 0 ≡ b
        → cond {A = Option Caller} b None (Some (record { site = path_number τ.path / 256 % 256; tag = caller_of (path_number τ.path) τ.instruction }))
        ≡ Some (record { site = path_number τ.path / 256 % 256; tag = caller_of (path_number τ.path) τ.instruction })
    go true e = absurd (n (eqb-true _ _ e))
    go false e = refl

module _ (g : List Instruction) where
  -- ---- a path of calls passes

  made : (cs : List Call) → All (CallIn g) cs → (n : ℕ) → length cs ≤ n → (τ : Tag) → path_number τ.path ≡ path_of cs → path_made g n τ ≡ true
  made [] h zero l τ e = rw (no_caller τ e)
  made [] h (suc n) l τ e = rw (no_caller τ e)
  made (c ∷ cs) h zero l τ e = absurd (omega arith)
  made (c ∷ cs) h (suc n) l τ e =
      rw (left_path_lem τ c cs h.0.fits e, h.0.enter)
      (made cs h.1 n (omega arith) (record { path = path_words (path_of cs); iteration = c.iteration; instruction = τ.instruction }) (number_words (path_of cs)))

  pub path_made_lem : (τ : Tag) → PathIn g (path_number τ.path) → path_made g most_levels τ ≡ true
  path_made_lem τ p = made p.calls p.each most_levels p.levels τ p.made

-- ---- and what passes is a path of calls, where the graph passed its check

module _ (graph : List ℕ) (passed : check_graph graph ≡ Ok tt) where
  abbrev g : List Instruction
  g = graph_of graph

  -- no ENTER has site 0
  pub some_site : (site : ℕ) → HasEnter g site → 0 < site
  unfolding instruction_at enters_site within
  some_site site e =
      let (i, l, h) = any_index (enters_site (pos site)) (Graph.decode_instruction []) g e in
      let r = instruction_at g i in
      let (code, same) = both (eqb r.code 8) (eq_z r.constant (pos site)) h in
      let z : r.constant ≡ pos site = eq_z_true r.constant (pos site) same in
      let w : within 1 255 r.constant ≡ true = (enter_named (of_graph graph passed i l) code).0 in
      leb-true 1 site (both (leb 1 site) (leb site 255) (rw z at w)).0

  record Calls (n path : ℕ) : Type 0 where
    calls : List Call
    each : All (CallIn g) calls
    levels : length calls ≤ n
    whole : path ≡ path_of calls

  of_root : (n path : ℕ) → path ≡ 0 → Calls n path
  of_root n path e = record { calls = []; each = tt; levels = omega arith; whole = e }

  calls_of : (n : ℕ) (τ : Tag) → path_made g n τ ≡ true → Calls n (path_number τ.path)
  calls_of zero τ e = go (eqb (path_number τ.path) 0) refl
    where
      go : (b : Bool) → eqb (path_number τ.path) 0 ≡ b → Calls 0 (path_number τ.path)
      go true f = of_root 0 _ (eqb-true _ _ f)
      go false f = false_true (rw (a_caller τ (eqb-false _ _ f)) at e)
  calls_of (suc n) τ e = go (eqb (path_number τ.path) 0) refl (λ υ h. calls_of n υ h)
    where
      go : (b : Bool) → eqb (path_number τ.path) 0 ≡ b → ((υ : Tag) → path_made g n υ ≡ true → Calls n (path_number υ.path)) → Calls (suc n) (path_number τ.path)
      go true f rec = of_root (suc n) _ (eqb-true _ _ f)
      go false f rec =
          let path = path_number τ.path in
          let υ : Tag = caller_of path τ.instruction in
          let (here, later) = both (any (enters_site (pos (path / 256 % 256))) g) (path_made g n υ) (rw (a_caller τ (eqb-false _ _ f)) at e) in
          let c = rec υ later in
          let w : path / 65536 ≡ path_of c.calls = sym (number_words (path / 65536)) ∙ c.whole in
          record {
            calls = record { site = path / 256 % 256; iteration = path % 256 } ∷ c.calls;
            each = (record { fits = record { some = some_site (path / 256 % 256) here; site = omega arith; iteration = omega arith }; enter = here }, c.each);
            levels = let l = c.levels in omega arith;
            whole = rw (← w) (omega arith);
          }

  pub path_in_lem : (τ : Tag) → path_made g most_levels τ ≡ true → PathIn g (path_number τ.path)
  path_in_lem τ e = let c = calls_of most_levels τ e in record { calls = c.calls; each = c.each; levels = c.levels; made = c.whole }
