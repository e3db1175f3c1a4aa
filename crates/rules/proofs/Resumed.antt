-- 02, R-13, proved: from any saved state any two orders agree (`orders_from`). Assumes nothing.
use Rattle.std.proofs.Common.{Ok, Err}
use Prim.Native.Nat.{ℕ, ◌*◌, ◌/◌, ◌≤◌}
use mathlib.Core.Path.{◌≡◌, refl, sym, ap, ◌∙◌}
use mathlib.Core.Bool.{◌&&◌}
use mathlib.Core.List.{List, [], map}
use lib.ListN.{length, take}
use lib.IntN.{ℤ}
use Rattle.record.specs.declared.tag.Tag.{Tag}
use Rattle.record.specs.declared.array.NamedArray.{NamedArray}
use Rattle.record.specs.declared.token.Token as Record
use Rattle.record.specs.declared.instruction.Instruction.{Instruction}
use Rattle.buffer.specs.Rows.{rows, all_rows}
use Rattle.record.specs.GraphRecords.{graph_of}
use Rattle.record.specs.Arrays.{arrays_of}
use Rattle.record.specs.TokensAndTags as Tokens
use Rattle.record.specs.TokensAndTags.{most_tokens, capacity_of}
use Rattle.record.specs.Calls.{most_levels}
use Rattle.record.specs.Cells as Cells
use Rattle.record.specs.Widths.{token_width, cell_width}
use Rattle.record.proofs.Records.{token_front, own}
use Rattle.record.proofs.Allowed.{allowed_front}
use Rattle.machine.specs.Machine.{Machine, State, by_picks, run_by}
use Rattle.machine.specs.Orders.{Good}
use Rattle.machine.specs.Saved.{is_saved}
use Rattle.machine.proofs.Orders.{by_picks_lawful, orders_by, never_spent_by, refuses_by}
use Rattle.machine.proofs.Reached.{reached_run, reached_good}
use Rattle.rules.specs.declared.answer.Refusal.{Refusal}
use Rattle.rules.specs.declared.answer.Refusal.TheVariants.{DamagedState}
use Rattle.rules.specs.Check.{all, demand, ◌and_then◌, check_graph, check_stores, check_arrays, Checked, fault_at}
use Rattle.rules.specs.InstructionSet.{machine_of}
use Rattle.rules.specs.Run.{token_held, cell_held, picks_of, refused_at_once, ran_to, unless_failed}
use Rattle.rules.specs.Orders.{ResultsAgree, Allowed}
use Rattle.rules.specs.Saved.{state_saved, machine_saved, token_allowed, cell_allowed, path_made, state_taken, check_saved, carried}
use Rattle.rules.specs.Parts.{AnyTwoOrdersFrom}
use Rattle.rules.proofs.Passed.{demand_passed, and_then_passed}
use Rattle.rules.proofs.Lawful.{lawful}
use Rattle.rules.proofs.Accepted.{whole_bytes}
use Rattle.rules.proofs.Orders.{alike_ends, both_refused_lem}
use Rattle.rules.proofs.Rows.{rows_own, all_rows_lem}
use Rattle.rules.proofs.Saved.{saved_under}

-- ---- from a state that is well-formed

module _ (graph : List ℕ) (passed : check_graph graph ≡ Ok tt) (table : List NamedArray) (capacity cells : ℕ) (few : capacity ≤ 2048) (f : ℕ) (s : State Tag ℤ) (good : Good (machine_of (graph_of graph) table capacity cells) s) where
  abbrev M : Machine
  M = machine_of (graph_of graph) table capacity cells

  agree_from : (picks picks' : List ℕ) → ResultsAgree (ran_to (run_by M (by_picks M) 2048 picks f s)) (ran_to (run_by M (by_picks M) 2048 picks' f s))
  agree_from picks picks' =
      let law = lawful graph passed table capacity cells in
      let c = by_picks M in
      let lc = by_picks_lawful M in
      let same = orders_by M law c c lc lc s good 2048 picks picks' f in
      let e = reached_run M c lc s 2048 picks f in
      let there = reached_good M law s good e.done e.sent _ e.reached in
      record {
        completes = same.completes;
        hangs = same.hangs;
        alike = λ q. alike_ends (graph_of graph) table capacity cells (run_by M c 2048 picks f s) (run_by M c 2048 picks' f s) there.distinct (same.alike q);
        refused = refuses_by M law c c lc lc s good 2048 picks picks' f few;
        never_spent = never_spent_by M law c lc s good 2048 picks f few;
      }

-- ---- 24 and the run look at the state's records alone

module _ (graph ledger ledger' cells : List ℕ) (n : ℕ) (size : length ledger ≡ length ledger') (same : take (n * token_width) ledger ≡ take (n * token_width) ledger') where
  allowed_own : (g : List Instruction) (l : List ℕ) → token_allowed g (take token_width l) ≡ token_allowed g l
  unfolding token_allowed
  allowed_own g l = rw (token_front l, allowed_front l)

  fields_same : all (token_allowed (graph_of graph)) (rows token_width (λ l. l) n ledger) ≡ all (token_allowed (graph_of graph)) (rows token_width (λ l. l) n ledger')
  fields_same =
      all_rows_lem token_width (token_allowed (graph_of graph)) n ledger
      ∙ ap (all (λ b. b)) (rows_own token_width (token_allowed (graph_of graph)) (own token_width (token_allowed (graph_of graph)) (allowed_own (graph_of graph))) n ledger ledger' same)
      ∙ sym (all_rows_lem token_width (token_allowed (graph_of graph)) n ledger')

  tokens_same : Tokens.tokens n ledger ≡ Tokens.tokens n ledger'
  tokens_same = rows_own token_width Tokens.decode_token (own token_width Tokens.decode_token token_front) n ledger ledger' same

  state_same : state_saved ledger cells n ≡ state_saved ledger' cells n
  unfolding state_saved
  state_same = λ i. record { tokens = map token_held (tokens_same i); cells = map cell_held (all_rows cell_width Cells.decode_cell cells) }

  taken_same_lem : (firings : ℕ) → state_taken graph ledger cells firings n ≡ state_taken graph ledger' cells firings n
  unfolding state_taken
  taken_same_lem firings = λ i.
      fields_same i
      && (all (λ (t : Record.Token). path_made (graph_of graph) most_levels t.tag) (tokens_same i)
      && (all cell_allowed (all_rows cell_width (λ l. l) cells)
      && is_saved (machine_of (graph_of graph) [] (capacity_of (size i)) (length cells / cell_width)) firings (state_same i)))

  -- both in one ledger
  carried_same : (arrays picks : List ℕ) (budget firings : ℕ) → carried graph arrays picks budget ledger cells firings n ≡ carried graph arrays picks budget ledger' cells firings n
  unfolding carried check_saved
  carried_same arrays picks budget firings = λ i.
      let M = machine_of (graph_of graph) (arrays_of arrays) (capacity_of (size i)) (length cells / cell_width) in
      unless_failed (check_graph graph and_then check_stores 0 (length picks) (size i) (length cells) and_then check_arrays (graph_of graph) (length cells / cell_width) arrays and_then demand (taken_same_lem firings i) DamagedState 0)
      (ran_to (run_by M (by_picks M) budget (picks_of picks) firings (state_same i)))

-- ---- in one ledger

module _ (graph arrays ledger cells : List ℕ) (firings n : ℕ) (passed : check_graph graph ≡ Ok tt) where
  abbrev named : Checked
  named = check_arrays (graph_of graph) (length cells / cell_width) arrays

  abbrev whether : Checked
  whether = demand (state_taken graph ledger cells firings n) DamagedState 0

  after_stores : (picks : List ℕ) → Allowed picks (length ledger) (length cells) → check_saved graph arrays picks ledger cells firings n ≡ named and_then whether
  unfolding check_saved check_stores
  after_stores picks a = rw (passed, a.allowed_picks, a.allowed_ledger, a.allowed_cells)

  refused_so : (picks : List ℕ) (r : Refusal) (p : ℕ) → Allowed picks (length ledger) (length cells) → named and_then whether ≡ Err (fault_at r p)
      → carried graph arrays picks 2048 ledger cells firings n ≡ refused_at_once r p
  unfolding carried unless_failed
  refused_so picks r p a e = rw (after_stores picks a, e)

  goes_on_lem : (picks : List ℕ) → Allowed picks (length ledger) (length cells) → named and_then whether ≡ Ok tt
      → carried graph arrays picks 2048 ledger cells firings n
      ≡ ran_to (run_by (machine_saved graph (arrays_of arrays) ledger cells) (by_picks (machine_saved graph (arrays_of arrays) ledger cells)) 2048 (picks_of picks) firings (state_saved ledger cells n))
  unfolding carried unless_failed
  goes_on_lem picks a e = rw (after_stores picks a, e)

  both_run : (picks picks' : List ℕ) → Allowed picks (length ledger) (length cells) → Allowed picks' (length ledger) (length cells) → (c : Checked) → named and_then whether ≡ c
      → ResultsAgree (carried graph arrays picks 2048 ledger cells firings n) (carried graph arrays picks' 2048 ledger cells firings n)
  both_run picks picks' a a' (Err fault) e = both_refused_lem fault.refusal fault.refusal fault.place fault.place (refused_so picks fault.refusal fault.place a e) (refused_so picks' fault.refusal fault.place a' e)
  both_run picks picks' a a' (Ok _) e =
      let few = (whole_bytes token_width most_tokens (length ledger) a.allowed_ledger).1 in
      let t = demand_passed (state_taken graph ledger cells firings n) DamagedState 0 (and_then_passed named whether e).1 in
      let good = (saved_under graph (arrays_of arrays) ledger cells firings n t).good in
      rw (goes_on_lem picks a e, goes_on_lem picks' a' e)
      (agree_from graph passed (arrays_of arrays) (capacity_of (length ledger)) (length cells / cell_width) few firings (state_saved ledger cells n) good (picks_of picks) (picks_of picks'))

graph_refused : (graph arrays picks ledger cells : List ℕ) (firings n : ℕ) (r : Refusal) (p : ℕ) → check_graph graph ≡ Err (fault_at r p) → carried graph arrays picks 2048 ledger cells firings n ≡ refused_at_once r p
unfolding carried check_saved unless_failed
graph_refused graph arrays picks ledger cells firings n r p e = rw e

pub orders_from : AnyTwoOrdersFrom
orders_from graph arrays picks picks' ledger ledger' cells firings n a a' size same = go (check_graph graph) refl
  where
    go : (c : Checked) → check_graph graph ≡ c → ResultsAgree (carried graph arrays picks 2048 ledger cells firings n) (carried graph arrays picks' 2048 ledger' cells firings n)
    go (Err fault) e = both_refused_lem fault.refusal fault.refusal fault.place fault.place (graph_refused graph arrays picks ledger cells firings n fault.refusal fault.place e) (graph_refused graph arrays picks' ledger' cells firings n fault.refusal fault.place e)
    go (Ok _) e =
        let b : Allowed picks' (length ledger) (length cells) = rw size (a' e) in
        rw (← carried_same graph ledger ledger' cells n size same arrays picks' 2048 firings) (both_run graph arrays ledger cells firings n e picks picks' (a e) b (named graph arrays ledger cells firings n e and_then whether graph arrays ledger cells firings n e) refl)
