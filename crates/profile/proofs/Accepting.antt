-- A profile that passed its checks: it may begin (`accepted_by`), all its tokens are live then (`all_live`), and its end is 02's, said of the buffers as lent
-- (`as_profile`). Assumes nothing.
use Rattle.std.proofs.Common.{Ok}
use Prim.Native.Nat.{ℕ, ◌/◌}
use mathlib.Core.Path.{◌≡◌, refl, sym, ap, ◌∙◌, subst}
use mathlib.Core.List.{List, [], ◌∷◌}
use mathlib.Core.Option.{some}
use native.Mathlib.Omega.{arith}
use lib.ListN.{length}
use lib.IntN.{ℤ}
use Rattle.record.specs.declared.tag.Tag.{Tag}
use Rattle.record.specs.declared.array.NamedArray.{NamedArray}
use Rattle.record.specs.GraphRecords.{graph_of}
use Rattle.record.specs.Arrays.{arrays_of}
use Rattle.record.specs.TokensAndTags.{most_tokens}
use Rattle.record.specs.Widths.{token_width, cell_width, step_width}
use Rattle.machine.specs.Machine.{Machine, State, Ledger, Content, live, spent, deferred}
use Rattle.machine.specs.Orders as Orders
use Rattle.machine.specs.Steps.{Profile, is_unspent, unspent_in, profile}
use Rattle.machine.proofs.Steps.{every_profile}
use Rattle.rules.specs.declared.answer.Refusal.{Refusal}
use Rattle.rules.specs.declared.answer.Refusal.TheVariants.{ProfileFull}
use Rattle.rules.specs.declared.answer.Profiled.{Profiled}
use Rattle.rules.specs.Check.{most_cells}
use Rattle.rules.specs.InstructionSet.{machine_of}
use Rattle.rules.specs.Run.{first_state}
use Rattle.rules.specs.Profile.{check_profile}
use Rattle.rules.proofs.Accepted.{whole_bytes, law, begins, good}
use Rattle.rules.proofs.Accepted as Rules
use Rattle.rules.proofs.Profile.{wholes}
use Rattle.checks.proofs.Passed.{passed_arrays}
use Rattle.start.specs.Begun.{machine_lent, Accepted, Begun}
use Rattle.start.proofs.Starting.{from_start, as_lent}
use Rattle.profile.specs.Steps.{unspent_at, profile_from, ProfiledTo}
use Rattle.profile.proofs.Stepping.{held_size}

pub accepted_by : (graph arrays inputs : List ℕ) (ledger cells lent : ℕ) → check_profile graph arrays inputs ledger cells lent ≡ Ok tt → Accepted graph arrays inputs ledger cells
accepted_by graph arrays inputs ledger cells lent e =
    let (w, (named, a)) = wholes graph arrays inputs ledger cells lent e in
    record {
      graph_passed = a.graph_passed;
      few_arrays = passed_arrays (graph_of graph) (cells / cell_width) arrays named;
      inputs_passed = a.inputs_passed;
      few = (whole_bytes token_width most_tokens ledger w.whole_ledger).1;
      cell_records = whole_bytes cell_width most_cells cells w.whole_cells;
    }

live_one : (x : Content ℤ) → Orders.Live (some x) → is_unspent x ≡ 1
live_one (live v) h = refl
live_one (spent v) h = let z : ◌≡◌ {A = ℕ} 0 1 = cc h.1 in absurd (omega arith)
live_one (deferred c) h = refl

all_unspent : (M : Machine) (ts : Ledger M) → Orders.AllLive M ts → ((x : Content M.Value) → Orders.Live (some x) → is_unspent x ≡ 1) → unspent_in M ts ≡ length ts
all_unspent M [] a one = refl
all_unspent M (t ∷ ts) a one = omega (arith, one t.content a.0, all_unspent M ts a.1 one)

module _ (graph arrays inputs ledger cells : List ℕ) (lent : ℕ) (e : check_profile graph arrays inputs (length ledger) (length cells) lent ≡ Ok tt)
    {tables links flags ledger₁ cells₁ : List ℕ} {used : ℕ} (b : Begun graph arrays inputs tables links flags ledger ledger₁ cells cells₁ used) where
  abbrev M : Machine
  M = machine_lent graph arrays ledger cells

  abbrev s₀ : State Tag ℤ
  s₀ = first_state inputs (length cells / cell_width)

  allowed : Rules.Accepted graph inputs (length ledger / token_width)
  allowed = (wholes graph arrays inputs (length ledger) (length cells) lent e).1.1

  pub all_live_lem : used ≡ unspent_at (graph_of graph) tables ledger₁ cells₁ used
  all_live_lem =
      let lives = (begins graph inputs (arrays_of arrays) (length ledger / token_width) (length cells / cell_width) allowed).all_live in
      let all : unspent_in M s₀.tokens ≡ length s₀.tokens = all_unspent M s₀.tokens lives live_one in
      let first : unspent_at (graph_of graph) tables ledger₁ cells₁ used ≡ unspent_in M s₀.tokens =
      from_start graph arrays inputs ledger cells (accepted_by graph arrays inputs (length ledger) (length cells) lent e) b (λ t p q x. unspent_in (machine_of (graph_of graph) t p q) x.tokens) in
      sym (first ∙ all ∙ sym (ap (λ (x : State Tag ℤ). length x.tokens) b.state) ∙ held_size used ledger₁)

  abbrev ends : List NamedArray → (capacity count : ℕ) → State Tag ℤ → Profile Refusal Tag ℤ
  ends table capacity count s = profile (machine_of (graph_of graph) table capacity count) ProfileFull (lent / step_width) 0 s

  pub as_profile : (r : Profiled) (profile₀ ledger' cells' profile' : List ℕ) → ProfiledTo (profile_from (graph_of graph) (lent / step_width) 0 tables ledger₁ cells₁ used) r ledger₁ cells₁ profile₀ ledger' cells' profile'
      → ProfiledTo (ends (arrays_of arrays) (length ledger / token_width) (length cells / cell_width) s₀) r ledger cells profile₀ ledger' cells' profile'
  as_profile r profile₀ ledger' cells' profile' h =
      let a = accepted_by graph arrays inputs (length ledger) (length cells) lent e in
      let p = ends (arrays_of arrays) (length ledger / token_width) (length cells / cell_width) s₀ in
      let k = subst (λ (x : Profile Refusal Tag ℤ). ProfiledTo x r ledger₁ cells₁ profile₀ ledger' cells' profile') (from_start graph arrays inputs ledger cells a b ends) h in
      let every = every_profile M (law graph inputs (arrays_of arrays) (length ledger / token_width) (length cells / cell_width) allowed) ProfileFull s₀ (good graph inputs (arrays_of arrays) (length ledger / token_width) (length cells / cell_width) allowed) (lent / step_width) 0 in
      record {
        ended = as_lent graph arrays inputs ledger cells a b p.ended every.log every.logged.fires r.answer ledger' cells' k.ended;
        counted = k.counted;
        profile_left = k.profile_left;
      }
