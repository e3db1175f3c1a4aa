-- Working definition: no public promise cites it.
-- The operation over ranges is one for a firing: its step is the operation and then the new tags (`ranges_in_turn`), what it asks for is sound (`ranges_sound`), and it adds one
-- range at most, and none that no output takes (`ranges_fit`). Assumes nothing.
use Rattle.std.proofs.Common.{Ok}
use Prim.Native.Nat.{ℕ, ◌+◌, ◌/◌, ◌≤◌, ◌<◌, zero-le}
use mathlib.Core.Path.{◌≡◌, refl, sym, ap, subst, ◌∙◌}
use mathlib.Core.List.{List, ◌++◌, map, append-nil}
use mathlib.Core.Option.{Option, none, some}
use native.Mathlib.Omega.{arith}
use lib.ListN.{length, length-append, length-map}
use lib.IntN.{ℤ}
use Rattle.std.specs.Prelude.{None, Some, Result}
use Rattle.std.specs.Prelude as code
use Rattle.record.specs.declared.array.NamedArray.{NamedArray}
use Rattle.record.specs.declared.tag.Tag.{Tag}
use Rattle.record.specs.declared.instruction.Instruction.{Instruction}
use Rattle.record.specs.declared.operation.Operation.{Operation}
use Rattle.record.specs.declared.operation.Operation.TheVariants as Operations
use Rattle.record.specs.GraphRecords.{graph_of, instruction_in, operation_of}
use Rattle.record.specs.TokensAndTags.{tokens}
use Rattle.record.specs.TokensAndTags as Tokens
use Rattle.record.specs.Widths.{token_width, cell_width, graph_width}
use Rattle.buffer.proofs.Tables.{length_rows}
use Rattle.arithmetic.specs.declared.Range.{Range}
use Rattle.arithmetic.specs.Ranges.{single, range_of}
use Rattle.machine.specs.Machine.{Key, Machine, StateOf, EffectOf, Effect, Operands, refuse, fired, output, changed, on_option, look, operands, commit}
use Rattle.machine.specs.Orders.{CellsBelow, Distinct, effect_keys}
use Rattle.machine.proofs.View.{DeltaOf, delta_of, change}
use Rattle.machine.proofs.Store.{Answer, commit_result}
use Rattle.machine.proofs.Reached.{keys_known}
use Rattle.rules.specs.declared.answer.Refusal.{Refusal}
use Rattle.rules.specs.declared.answer.Refusal.TheVariants.{SecondToken}
use Rattle.rules.specs.Check.{instruction_at, check_graph}
use Rattle.rules.specs.InstructionSet.{all_under}
use Rattle.rules.specs.Run.{token_held}
use Rattle.rules.specs.RangeHandles.{StepHere, as_is, meaning, send_new, range_step, step_in}
use Rattle.rules.proofs.RangeHandles.{steps_add_few}
use Rattle.abstraction.specs.Tables.{arrays_in}
use Rattle.fire_effect.specs.Effects.{new_tags_of, then_tags}
use Rattle.fire_effect.proofs.Passed.{in_bytes}
use Rattle.fire.specs.Running.{machine_over, state_in, Running, Went}
use Rattle.fire.specs.Operating.{Asks, Keeps, asked_by, kept_by, InTurn, AllSound, FitsAfter}
use Rattle.range_effect.specs.Asked.{ask_of}
use Rattle.range_effect.proofs.Laws.{step_parted, asked_fine}
use Rattle.range_fire.specs.Tried.{step_at}

-- ---- in turn

-- what a step over handles asks for, and the table after it
abbrev pub ranges_ask : List Range → Asks
ranges_ask t g named cells τ a b = (step_in g named cells t τ a b).asked

abbrev pub ranges_keep : List Range → Keeps (List Range)
ranges_keep t g named cells τ a b = t ++ (step_in g named cells t τ a b).added

module _ (t : List Range) where
  in_two : (graph : List ℕ) (named : List NamedArray) (cells : ℕ) (τ : Tag) (a b : ℤ) → τ.instruction < length graph / graph_width
      → step_in (graph_of graph) named cells t τ a b
      ≡ (let r = instruction_in graph τ.instruction in
      let o = operation_of r.code in
      record { added = (ask_of o named r.constant cells t a b).added; asked = then_tags (ask_of o named r.constant cells t a b).operated (new_tags_of o (graph_of graph) τ r (meaning t b).low) })
  unfolding step_in
  in_two graph named cells τ a b inside =
      let r = instruction_in graph τ.instruction in
      rw (in_bytes graph τ.instruction inside) (step_parted (operation_of r.code) (graph_of graph) named cells t τ r a b)

  pub ranges_in_turn : InTurn (λ o named k cells a b. (ask_of o named k cells t a b).operated) (λ o named k cells a b. t ++ (ask_of o named k cells t a b).added) (λ b. (meaning t b).low) (ranges_ask t) (ranges_keep t)
  ranges_in_turn = record {
    asked = λ graph named cells τ a b inside. ap (λ (x : StepHere). x.asked) (in_two graph named cells τ a b inside);
    kept = λ graph named cells τ a b inside. ap (λ (x : StepHere). t ++ x.added) (in_two graph named cells τ a b inside);
  }

  pub ranges_sound : AllSound (ranges_ask t)
  ranges_sound graph passed named cells τ a b =
      let f = asked_fine graph passed named cells τ t a b in
      record { arrives = f.arrives; cells_below = f.cells_below; reads_for_some = f.reads_for_some }

-- ---- a firing adds few

-- a firing adds as many tokens as the effect has outputs
counted : (M : Machine) (s : StateOf M) (τ : M.Tag) (e : EffectOf M) (x : StateOf M) → Distinct M s.tokens → CellsBelow (length s.cells) e → commit M s τ e ≡ fired x
    → length x.tokens ≡ length s.tokens + length (effect_keys M e)
counted M s τ e x distinct below h = go (delta_of M e) refl (rw h at (commit_result M s τ e distinct below))
  where
    go : (q : Option (DeltaOf M)) → delta_of M e ≡ q → Answer M s τ q (fired x) → length x.tokens ≡ length s.tokens + length (effect_keys M e)
    go none f a = absurd a
    go (some d) f a =
        let olds = map (changed (change M τ d)) s.tokens in
        let outs = map (output a.sent) d.keys in
        ap length a.listed ∙ length-append olds outs
        ∙ omega (arith, length-map s.tokens (changed (change M τ d)), length-map d.keys (output a.sent), ap length (keys_known M e d f))

-- ---- what a step over handles adds

one_new : (t : List Range) (q : code.Option Range) (keys : List (Key Tag)) → length (send_new t q keys).added ≤ 1
unfolding send_new
one_new t None keys = zero-le
one_new t (Some r) keys = omega arith

one_of : (o : Operation) (g : List Instruction) (named : List NamedArray) (cells : ℕ) (t : List Range) (τ : Tag) (r : Instruction) (a b : ℤ) (keys : List (Key Tag)) → length (range_step o g named cells t τ r a b keys).added ≤ 1
unfolding range_step
one_of Operations.Copy g named cells t τ r a b keys = zero-le
one_of Operations.Sink g named cells t τ r a b keys = zero-le
one_of Operations.Out g named cells t τ r a b keys = zero-le
one_of Operations.Const g named cells t τ r a b keys = one_new t (Some (single r.constant)) keys
one_of Operations.Switch g named cells t τ r a b keys = zero-le
one_of Operations.Gate g named cells t τ r a b keys = zero-le
one_of Operations.Next g named cells t τ r a b keys = zero-le
one_of Operations.Enter g named cells t τ r a b keys = zero-le
one_of Operations.Leave g named cells t τ r a b keys = zero-le
one_of Operations.Fetch g named cells t τ r a b keys = zero-le
one_of Operations.Store g named cells t τ r a b keys = zero-le
one_of (Operations.OnTwo o) g named cells t τ r a b keys = one_new t (range_of o (meaning t a) (meaning t b)) keys
one_of (Operations.OnConstant o) g named cells t τ r a b keys = one_new t (range_of o (meaning t a) (single r.constant)) keys
one_of Operations.Unknown g named cells t τ r a b keys = zero-le

module _ (graph : List ℕ) (passed : check_graph graph ≡ Ok tt) (tables ledger cells : List ℕ) (used : ℕ) (t : List Range) (τ : Tag) where
  abbrev g : List Instruction
  g = graph_of graph

  abbrev found : Option (Operands ℤ)
  found = let M = machine_over (graph_of graph) tables ledger cells in operands M (look M (state_in ledger cells used)) τ

  abbrev of : Option (Operands ℤ) → StepHere
  of q = on_option q (as_is (refuse SecondToken)) (λ p. step_in (graph_of graph) (arrays_in tables) (length cells / cell_width) t τ p.left p.right)

  pub step_below : CellsBelow (length cells / cell_width) (step_at (graph_of graph) tables ledger cells used t τ).asked
  step_below = go found
    where
      go : (q : Option (Operands ℤ)) → CellsBelow (length cells / cell_width) (of q).asked
      go none = tt
      go (some p) = (asked_fine graph passed (arrays_in tables) (length cells / cell_width) τ t p.left p.right).cells_below

  pub step_one : length (step_at (graph_of graph) tables ledger cells used t τ).added ≤ 1
  unfolding step_in
  step_one = go found
    where
      go : (q : Option (Operands ℤ)) → length (of q).added ≤ 1
      go none = zero-le
      go (some p) = let r = instruction_at (graph_of graph) τ.instruction in one_of (operation_of r.code) (graph_of graph) (arrays_in tables) (length cells / cell_width) t τ r p.left p.right (all_under τ r)

  step_few : length (step_at (graph_of graph) tables ledger cells used t τ).added ≤ length (effect_keys (machine_over (graph_of graph) tables ledger cells) (step_at (graph_of graph) tables ledger cells used t τ).asked)
  step_few = go found
    where
      go : (q : Option (Operands ℤ)) → length (of q).added ≤ length (effect_keys (machine_over (graph_of graph) tables ledger cells) (of q).asked)
      go none = zero-le
      go (some p) = steps_add_few graph passed (arrays_in tables) (length cells / cell_width) t τ p.left p.right

  -- a firing that left n tokens
  pub went_few : {links flags links' flags' ledger' cells' : List ℕ} {n : ℕ} → Running (graph_of graph) tables links flags ledger cells used
      → Went (graph_of graph) τ (step_at (graph_of graph) tables ledger cells used t τ).asked tables links' flags' ledger' cells' n used ledger cells
      → used + length (step_at (graph_of graph) tables ledger cells used t τ).added ≤ n
  went_few {ledger' = ledger'} {cells' = cells'} {n = n} now w =
      let M = machine_over (graph_of graph) tables ledger cells in
      let e = (step_at (graph_of graph) tables ledger cells used t τ).asked in
      let all = counted M (state_in ledger cells used) τ e (state_in ledger' cells' n) now.good.distinct (rw now.good.cell_count step_below) w.step in
      let before : length (map token_held (tokens used ledger)) ≡ used = length-map (tokens used ledger) token_held ∙ length_rows token_width Tokens.decode_token used ledger in
      let after : length (map token_held (tokens n ledger')) ≡ n = length-map (tokens n ledger') token_held ∙ length_rows token_width Tokens.decode_token n ledger' in
      omega (arith, all, before, after, step_few)

-- ---- what is kept

module _ (g : List Instruction) (tables ledger cells : List ℕ) (used : ℕ) (t : List Range) (τ : Tag) where
  abbrev its_operands : Option (Operands ℤ)
  its_operands = let M = machine_over g tables ledger cells in operands M (look M (state_in ledger cells used)) τ

  abbrev steps : Operands ℤ → StepHere
  steps p = step_in g (arrays_in tables) (length cells / cell_width) t τ p.left p.right

  pub asked_there : asked_by (ranges_ask t) g tables ledger cells used τ ≡ (step_at g tables ledger cells used t τ).asked
  asked_there = go its_operands
    where
      go : (q : Option (Operands ℤ)) → on_option q (refuse SecondToken) (λ p. (steps p).asked) ≡ (on_option q (as_is (refuse SecondToken)) steps).asked
      go none = refl
      go (some p) = refl

  pub kept_there : kept_by t (ranges_keep t) g tables ledger cells used τ ≡ t ++ (step_at g tables ledger cells used t τ).added
  kept_there = go its_operands
    where
      go : (q : Option (Operands ℤ)) → on_option q t (λ p. t ++ (steps p).added) ≡ t ++ (on_option q (as_is (refuse SecondToken)) steps).added
      go none = sym (append-nil t)
      go (some p) = refl

pub ranges_fit : (t : List Range) → FitsAfter (λ l used. length l ≤ used + 1) t (ranges_ask t) (ranges_keep t)
ranges_fit t graph passed tables links flags ledger cells links' flags' ledger' cells' used n τ now went fits =
    let g = graph_of graph in
    let few = went_few graph passed tables ledger cells used t τ now (subst (λ (e : Effect Refusal Tag ℤ). Went g τ e tables links' flags' ledger' cells' n used ledger cells) (asked_there g tables ledger cells used t τ) went) in
    omega (arith, fits, few, ap length (kept_there g tables ledger cells used t τ), length-append t (step_at g tables ledger cells used t τ).added)
