-- 02, R-6, proved: where the site of each level of every path has an ENTER, a firing keeps that (`callers_kept`), and what LEAVE finds there is the return of
-- every ENTER of the site (`caller_found`); so it is of every state that a run from inputs reaches (`callers_known`). Assumes nothing.
use Rattle.std.proofs.Common.{Ok}
use Prim.Native.Nat.{ℕ, zero, suc, ◌-◌, ◌^◌, ◌<◌, ◌≤◌}
use mathlib.Core.Path.{◌≡◌, refl, sym, ◌∙◌, subst}
use mathlib.Core.Bool.{Bool, true, false, cond}
use mathlib.Core.List.{List, [], ◌∷◌, map}
use native.Mathlib.Omega.{arith}
use native.Mathlib.Nat.{pow-le-pow_right}
use native.Mathlib.Decide.{dec_le}
use borrow.Author.Tests.{leb-true, eqb-true, not-false}
use lib.ListN.{length, get_or, take}
use lib.Dec.{eqb, leb}
use lib.IntN.{ℤ, pos, negsuc, nat_abs}
use Rattle.record.specs.declared.tag.Tag.{Tag}
use Rattle.record.specs.declared.array.NamedArray.{NamedArray}
use Rattle.record.specs.declared.tag.Caller.{Caller}
use Rattle.std.specs.Prelude.{Option, Some, None}
use Rattle.record.specs.declared.instruction.Destination.{Destination}
use Rattle.record.specs.declared.instruction.Instruction.{Instruction}
use Rattle.record.specs.declared.operation.Operation.TheVariants.{Enter, Unknown}
use Rattle.buffer.specs.Rows.{All}
use Rattle.record.specs.Paths.{path_number, is_root}
use Rattle.record.specs.Calls.{most_levels, entered, leave_of, Call, CallFits, path_of}
use Rattle.record.specs.GraphRecords.{operation_of, destinations, graph_of}
use Rattle.record.specs.GraphRecords as Graph
use Rattle.record.proofs.Paths.{number_words, root_number}
use Rattle.record.proofs.Calls.{same_caller, at_least, entered_path_lem, left_path_lem}
use Rattle.arithmetic.proofs.Ranged.{eq_eq_z, eq_z_true}
use Rattle.machine.specs.Machine.{Key, Content, live, spent, deferred, Token, Cell, absent, waiting, present, State, Machine, fire, fired}
use Rattle.machine.proofs.Kept.{Each, each_map, OfContent, OfCell, OfToken, OfState, Keeps, fired_keeps, reached_keeps}
use Rattle.rules.specs.Check.{any, instruction_at, within, enters_site, other_return, check_graph}
use Rattle.rules.specs.InstructionSet.{key_under, return_of, machine_of}
use Rattle.rules.specs.Callers.{HasEnter, CallIn, PathIn, ReturnsTo, CallerIn, TokenIn, CallerFound, CallersKnown}
use Rattle.rules.proofs.Passed.{both, get_d_past}
use Rattle.rules.proofs.PassedGraph.{past_operation, of_graph, enter_code, enter_named}
use Rattle.rules.proofs.Lists.{neither, any_at, each_all}
use Rattle.rules.proofs.Inputs.{start_keys}
use Rattle.rules.proofs.Effects.{later, Asked, keeps_asked}

-- ---- the claims

-- a firing keeps it of all tokens, from any state that has it
abbrev pub CallersKept : Type 0
CallersKept = (graph : List ℕ) (table : List NamedArray) (capacity cells : ℕ) → check_graph graph ≡ Ok tt → (s x : State Tag ℤ) (τ : Tag)
    → All (TokenIn (graph_of graph)) s.tokens → fire (machine_of (graph_of graph) table capacity cells) s τ ≡ fired x → All (TokenIn (graph_of graph)) x.tokens

-- ---- the return of a site

-- the first ENTER of the site has the return of a later one, where no earlier one has another
first_returns : (site : ℕ) (d r : Instruction) → enters_site (pos site) r ≡ true → (rs : List Instruction) (k : ℕ) → k < length rs → get_or rs k d ≡ r → any (other_return r) (take k rs) ≡ false
    → r.second.instruction ≡ return_of site rs
unfolding return_of other_return enters_site
first_returns site d r h [] k l e n = absurd (omega arith)
first_returns site d r h (x ∷ xs) zero l e n = rw (e, h)
first_returns site d r h (x ∷ xs) (suc k) l e n =
    let parts = neither (other_return r x) _ n in
    go (enters_site (pos site) x) refl parts.0 (first_returns site d r h xs k (omega arith) e parts.1)
  where
    named : r.constant ≡ pos site
    named = eq_z_true r.constant (pos site) (both (eqb r.code 8) _ h).1

    go : (b : Bool) → enters_site (pos site) x ≡ b → other_return r x ≡ false → r.second.instruction ≡ return_of site xs
        → r.second.instruction ≡ cond b x.second.instruction (return_of site xs)
    go false f m rest = rest
    go true f m rest = sym (eqb-true _ _ (not-false _ (rw (named, f) at m)))

-- ---- paths

module _ (g : List Instruction) where
  fitting : (cs : List Call) → All (CallIn g) cs → All CallFits cs
  fitting [] h = tt
  fitting (c ∷ cs) h = (h.0.fits, fitting cs h.1)

  pub root_path_lem : PathIn g 0
  root_path_lem = record { calls = []; each = tt; levels = omega arith; made = refl }

  -- a path below 65,536 to the most levels less 1 has a level to spare
  spare : (cs : List Call) → All CallFits cs → path_of cs < 65536 ^ (most_levels - 1) → length cs < most_levels
  spare [] f h = omega arith
  spare (c ∷ cs) f h = go (dec_le (most_levels - 1) (length cs))
    where
      go : Dec (most_levels - 1 ≤ length cs) → suc (length cs) < most_levels
      go (no n) = omega arith
      go (yes p) =
          let powers : 65536 ^ (most_levels - 1) ≤ 65536 ^ length cs = pow-le-pow_right {n = 65536} (omega arith) {i = most_levels - 1} {j = length cs} p in
          absurd (omega (arith, at_least c cs f))

  -- ENTER makes a call more, of its site
  enter_path : (τ : Tag) (site : ℕ) → PathIn g (path_number τ.path) → CallIn g (record { site = site; iteration = τ.iteration }) → path_number τ.path < 65536 ^ (most_levels - 1) → PathIn g (path_number (entered τ site).path)
  enter_path τ site p c h = record {
    calls = record { site = site; iteration = τ.iteration } ∷ p.calls;
    each = (c, p.each);
    levels = spare p.calls (fitting p.calls p.each) (subst (λ (n : ℕ). n < 65536 ^ (most_levels - 1)) p.made h);
    made = entered_path_lem τ site p.calls p.made;
  }

  -- what LEAVE finds is the newest call
  record Found (site : ℕ) (caller : Tag) : Type 0 where
    path : PathIn g (path_number caller.path)
    low : caller.iteration < 256
    enter : HasEnter g site

  found : (τ : Tag) (site : ℕ) (caller : Tag) → PathIn g (path_number τ.path) → leave_of τ ≡ Some (record { site = site; tag = caller }) → Found site caller
  unfolding leave_of is_root
  found τ site caller p e = go p.calls p.each p.levels p.made
    where
      no_caller : path_number τ.path ≡ 0 → leave_of τ ≡ None
      no_caller h = rw h

      go : (cs : List Call) → All (CallIn g) cs → length cs ≤ most_levels → path_number τ.path ≡ path_of cs → Found site caller
      go [] each levels made = let z : ◌≡◌ {A = ℕ} 0 1 = cc (no_caller made, e) in absurd (omega arith)
      go (c ∷ cs) each levels made =
          let f = left_path_lem τ c cs each.0.fits made in
          let same = same_caller (sym f ∙ e) in
          subst (λ (t : Tag). Found site t) same.1
          (record { path = record { calls = cs; each = each.1; levels = omega arith; made = number_words (path_of cs) }; low = each.0.fits.iteration; enter = rw (← same.0) each.0.enter })

-- ---- of a graph that passed

between : (k : ℤ) → within 1 255 k ≡ true → (k ≡ pos (nat_abs k)) × (0 < nat_abs k) × (nat_abs k < 256)
unfolding within
between (pos n) e =
    let p = both (leb 1 n) (leb n 255) e in
    (refl, leb-true 1 n p.0, omega (arith, leb-true n 255 p.1))
between (negsuc n) e = let z : ◌≡◌ {A = ℕ} 0 1 = cc in absurd (omega arith)

module _ (graph : List ℕ) (passed : check_graph graph ≡ Ok tt) where
  abbrev g : List Instruction
  g = graph_of graph

  -- past the graph there is no ENTER
  past_none : (i : ℕ) → ¬ (i < length g) → (site : ℤ) → enters_site site (instruction_at g i) ≡ false
  unfolding instruction_at Graph.decode_instruction enters_site
  past_none i n site = rw (get_d_past g i (Graph.decode_instruction []) (omega arith))

  pub returns : (site : ℕ) → ReturnsTo g site (return_of site g)
  unfolding instruction_at enters_site
  returns site k e = go (dec_le (suc k) (length g))
    where
      r : Instruction
      r = instruction_at g k

      go : Dec (suc k ≤ length g) → r.second.instruction ≡ return_of site g
      go (no n) = let z : ◌≡◌ {A = ℕ} 0 1 = cc (past_none k n (pos site), e) in absurd (omega arith)
      go (yes h) = first_returns site (Graph.decode_instruction []) r e g k h refl (enter_named (of_graph graph passed k h) (both (eqb r.code 8) _ e).0).1

  -- an ENTER's own site
  pub enters : (i iteration : ℕ) → iteration < 256 → operation_of (instruction_at g i).code ≡ Enter → CallIn g (record { site = nat_abs (instruction_at g i).constant; iteration = iteration })
  unfolding instruction_at enters_site
  enters i n low e = go (dec_le (suc i) (length g))
    where
      r : Instruction
      r = instruction_at g i

      go : Dec (suc i ≤ length g) → CallIn g (record { site = nat_abs r.constant; iteration = n })
      go (no h) = let z : Unknown ≡ Enter = sym (past_operation g i (omega arith)) ∙ e in let y : ◌≡◌ {A = ℕ} 0 1 = cc in absurd (omega arith)
      go (yes h) =
          let good = of_graph graph passed i h in
          let (same, least, most) = between r.constant (enter_named good (enter_code good e)).0 in
          record {
            fits = record { some = least; site = most; iteration = low };
            enter = any_at (enters_site (pos (nat_abs r.constant))) g (Graph.decode_instruction []) i h (rw (enter_code good e) (eq_eq_z same));
          }

  -- ---- what a run keeps

  -- ENTER makes a call of the iteration, so that is a byte too
  abbrev pub Called : Key Tag → Type 0
  Called k = PathIn g (path_number k.tag.path) × (k.tag.iteration < 256)

  abbrev Any : {A : Type 0} → A → Type 0
  Any x = Unit {0}

  module _ (table : List NamedArray) (capacity cells : ℕ) where
    abbrev M : Machine
    M = machine_of g table capacity cells

    under_all : (τ : Tag) → PathIn g (path_number τ.path) × (τ.iteration < 256) → (ds : List Destination) → Each Called (map (key_under τ) ds)
    under_all τ h ds = each_map (λ d. Unit {0}) Called (key_under τ) (λ d k. h) ds (each_all (λ d. Unit {0}) (λ d. tt) ds)

    asked : (τ : Tag) → PathIn g (path_number τ.path) → τ.iteration < 256 → Asked g table capacity cells Called Any Any τ (instruction_at g τ.instruction)
    asked τ p low =
        let r = instruction_at g τ.instruction in
        record {
          all = under_all τ (p, low) (destinations r);
          sides = λ e. ((p, low), (p, low));
          next = λ e h. under_all (later τ) (p, omega arith) (destinations r);
          enter = λ e h. (enter_path g τ (nat_abs r.constant) p (enters τ.instruction τ.iteration low e) h, omega arith);
          leave = λ e site caller h i l. let f = found g τ site caller p h in (f.path, f.low);
          fetch = λ e c h. tt;
          constant = tt;
          computed = λ o a b v e. tt;
        }

    pub keeps : Keeps M Called Any Any
    keeps = keeps_asked g table capacity cells Called Any Any (λ τ (waits, keys). asked τ (keys 0 waits).0 (keys 0 waits).1) tt

    -- ---- of every token

    pub known : (ts : List (Token Tag ℤ)) → Each (OfToken M Called Any Any) ts → All (TokenIn g) ts
    known [] h = tt
    known (t ∷ ts) h = (record { path = h.0.0.0; iteration = h.0.0.1 }, known ts h.1)

    -- whatever the contents and the cells are
    any_content : (x : Content ℤ) → OfContent M Called Any Any x
    any_content (live v) = tt
    any_content (spent v) = tt
    any_content (deferred c) = tt

    any_cell : (x : Cell ℤ) → OfCell M Called Any Any x
    any_cell absent = tt
    any_cell waiting = tt
    any_cell (present v) = tt

    called : (ts : List (Token Tag ℤ)) → All (TokenIn g) ts → Each (OfToken M Called Any Any) ts
    called [] h = tt
    called (t ∷ ts) h = (((h.0.path, h.0.iteration), any_content t.content), called ts h.1)

    kept : (s x : State Tag ℤ) (τ : Tag) → All (TokenIn g) s.tokens → fire M s τ ≡ fired x → All (TokenIn g) x.tokens
    kept s x τ h e =
        let all : OfState M Called Any Any s = record { tokens = called s.tokens h; cells = each_all (OfCell M Called Any Any) any_cell s.cells } in
        known x.tokens (fired_keeps M Called Any Any keeps s τ x all e).tokens

  found_known : (t : Token Tag ℤ) → TokenIn g t → CallerIn g (leave_of t.key.tag)
  found_known t h = go (leave_of t.key.tag) refl
    where
      go : (l : Option Caller) → leave_of t.key.tag ≡ l → CallerIn g l
      go None e = tt
      go (Some k) e = ((found g t.key.tag k.site k.tag h.path e).enter, returns k.site)

pub callers_kept : CallersKept
callers_kept graph table capacity cells passed s x τ h e = kept graph passed table capacity cells s x τ h e

pub caller_found : CallerFound
caller_found graph passed t h = found_known graph passed t h

pub callers_known : CallersKnown
callers_known graph inputs table capacity cells passed accepted f o x r =
    let g = graph_of graph in
    let first = start_keys g table capacity cells (Called graph passed) (λ c. Unit {0}) inputs (λ t e l h. rw (e, root_number) (root_path_lem g, omega arith)) accepted in
    known graph passed table capacity cells x.tokens (reached_keeps (machine_of g table capacity cells) (Called graph passed) (λ v. Unit {0}) (λ c. Unit {0}) (keeps graph passed table capacity cells) _ first f o x r).tokens
