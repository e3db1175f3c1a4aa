-- A small program under two orders, computed: the runs end alike, and their ledgers are different lists; a run that hangs; its
-- ideal steps, logs and replays, a smaller ledger, a run in parts, an activity held back; and how the theorems are cited for it. Assumes nothing.
use mathlib.Core.Path.{◌≡◌, refl}
use mathlib.Core.List.{[], ◌∷◌}
use mathlib.Core.Option.{none, some}
use mathlib.Core.Bool.{true, false}
use Prim.Native.Nat.{ℕ, zero, suc, ◌+◌}
use native.Mathlib.Decide.{ℕ_discrete}
use native.Mathlib.Omega.{arith}
use lib.Dec.{eqb}
use Rattle.machine.specs.Machine.{Key, Token, Effect, refuse, send, read, write, Machine, State, live, spent, deferred, absent, waiting, present}
use Rattle.machine.specs.Machine.{completed, hung, budget_spent, refused, End, by_picks, run, machine}
use Rattle.machine.specs.Orders.{CellsBelow, ReadsForSome, Lawful, Start, EndsAgree, Invariants}
use Rattle.machine.specs.Sequences.{log_of}
use Rattle.machine.specs.Steps.{profile}
use Rattle.machine.specs.Replay.{replay}
use Rattle.machine.specs.Saved.{in_parts, is_saved}
use Rattle.machine.specs.Choosers.{run_from}
use Rattle.machine.specs.Bounded.{run_bounded}
use Rattle.machine.proofs.Orders.{start_good, orders}
use Rattle.machine.proofs.Cut.{cut_runs}
use Rattle.machine.proofs.Reached.{reached_invariants, reached_picks}
use Rattle.machine.proofs.Capacity.{with_capacity}

abbrev key : ℕ → ℕ → Key ℕ
key τ p = record { tag = τ; port = p }

abbrev token : ℕ → ℕ → ℕ → Token ℕ ℕ
token τ p v = record { key = key τ p; content = live v }

abbrev used : ℕ → ℕ → ℕ → Token ℕ ℕ
used τ p v = record { key = key τ p; content = spent v }

-- 0 fetches cell 0 for port 0 of 2; 1 stores its operand in cell 0 and signals to port 1 of 2; 2 adds and sends to 9, a result
abbrev ports : ℕ → ℕ
ports zero = 1
ports (suc zero) = 1
ports (suc (suc zero)) = 2
ports (suc (suc (suc n))) = 0

abbrev does : ℕ → ℕ → ℕ → Effect ℕ ℕ ℕ
does zero v w = read 0 (key 2 0 ∷ [])
does (suc zero) v w = write 0 v (key 2 1 ∷ [])
does (suc (suc zero)) v w = send (v + w) (key 9 0 ∷ [])
does (suc (suc (suc n))) v w = refuse 1

abbrev small : Machine
small = record {
  Tag = ℕ;
  Value = ℕ;
  Refusal = ℕ;
  same = ℕ_discrete;
  arity = ports;
  effect = does;
  signal = 0;
  ledger_full = 8;
  second_token = 9;
  second_write = 11;
  capacity = 8;
  cell_count = 1;
}

abbrev start : State ℕ ℕ
start = record { tokens = token 0 0 5 ∷ token 1 0 7 ∷ []; cells = absent ∷ [] }

first : run small 65535 [] start ≡ record {
  outcome = completed;
  firings = 3;
  state = record { tokens = used 0 0 5 ∷ used 1 0 7 ∷ used 2 0 7 ∷ used 2 1 0 ∷ token 9 0 7 ∷ []; cells = present 7 ∷ [] };
}
unfolding machine
first = refl

second : run small 65535 (1 ∷ []) start ≡ record {
  outcome = completed;
  firings = 3;
  state = record { tokens = used 0 0 5 ∷ used 1 0 7 ∷ used 2 1 0 ∷ used 2 0 7 ∷ token 9 0 7 ∷ []; cells = present 7 ∷ [] };
}
unfolding machine
second = refl

-- ---- R-2: a read that nobody answers hangs

unanswered : run small 65535 [] (record { tokens = token 0 0 5 ∷ []; cells = absent ∷ [] }) ≡ record {
  outcome = hung;
  firings = 1;
  state = record { tokens = used 0 0 5 ∷ record { key = key 2 0; content = deferred 0 } ∷ []; cells = waiting ∷ [] };
}
unfolding machine
unanswered = refl

-- ---- R-1: 0 and 1 fire in the first step, 2 in the second

steps : profile small 18 8 0 start ≡ record { records = record { firings = 2; unspent = 2 } ∷ record { firings = 1; unspent = 1 } ∷ []; ended = run small 65535 [] start }
unfolding machine profile
steps = refl

-- a token that is deferred is counted
deferred_step : (profile small 18 8 0 (record { tokens = token 0 0 5 ∷ []; cells = absent ∷ [] })).records ≡ record { firings = 1; unspent = 1 } ∷ []
unfolding machine profile
deferred_step = refl

no_record : (profile small 18 1 0 start).ended.outcome ≡ refused 18 0
unfolding machine profile
no_record = refl

-- ---- R-7: logs and their replay

logs : (log_of small (by_picks small) 65535 [] start ≡ 0 ∷ 1 ∷ 2 ∷ []) × (log_of small (by_picks small) 65535 (1 ∷ []) start ≡ 1 ∷ 0 ∷ 2 ∷ [])
unfolding machine log_of
logs = (refl, refl)

again : replay small 20 (some 1 ∷ some 0 ∷ some 2 ∷ []) 0 start ≡ run small 65535 (1 ∷ []) start
unfolding machine replay
again = refl

-- 2 has no operands yet, a log may end early, and a record may name nothing
not_enabled : (replay small 20 (some 0 ∷ some 2 ∷ []) 0 start).outcome ≡ refused 20 1
unfolding machine replay
not_enabled = refl

early : (replay small 20 (some 0 ∷ []) 0 start).outcome ≡ budget_spent
unfolding machine replay
early = refl

unread : replay small 20 (none ∷ some 0 ∷ []) 0 start ≡ record { outcome = refused 20 0; firings = 0; state = start }
unfolding machine replay
unread = refl

-- ---- R-12: the run has 5 tokens, and a ledger of 4 is too small

fits : run (with_capacity small 5) 65535 [] start ≡ run small 65535 [] start
unfolding machine
fits = refl

overflows : (run (with_capacity small 4) 65535 [] start).outcome ≡ refused 8 2
unfolding machine
overflows = refl

-- ---- R-13: a run in parts, and a state that can be saved

-- in three parts
cut : in_parts small (by_picks small) 1 (1 ∷ 5 ∷ []) (1 ∷ []) 0 start ≡ run small 7 (1 ∷ []) start
cut = cut_runs small (by_picks small) 1 (1 ∷ 5 ∷ []) (1 ∷ []) 0 start

-- what is left can be saved with its three firings, and with no other number
takes : is_saved small 3 (run small 65535 [] start).state ≡ true
unfolding machine is_saved
takes = refl

refuses_others : is_saved small 4 (run small 65535 [] start).state ≡ false
unfolding machine is_saved
refuses_others = refl

-- ---- R-9: with 1 held back, 0 fires and nothing else does; with a budget of 1 too the run hangs, and with a budget of 0 it is spent

abbrev store_held : (budget : ℕ) → End ℕ ℕ ℕ
store_held budget = run_bounded small (λ s a. eqb a.tag 1) (by_picks small) budget (1 ∷ []) 0 start

hangs : ((store_held 0).outcome ≡ budget_spent) × ((store_held 1).outcome ≡ hung) × ((store_held 8).outcome ≡ hung) × ((store_held 8).firings ≡ 1)
unfolding machine run_from
hangs = (refl, refl, refl, refl)

-- ---- the theorems' hypotheses hold here

below : (τ v w : ℕ) → CellsBelow 1 (does τ v w)
below zero v w = omega arith
below (suc zero) v w = omega arith
below (suc (suc zero)) v w = tt
below (suc (suc (suc n))) v w = tt

for_some : (τ v w : ℕ) → ReadsForSome (does τ v w)
for_some zero v w = omega arith
for_some (suc zero) v w = tt
for_some (suc (suc zero)) v w = tt
for_some (suc (suc (suc n))) v w = tt

lawful : Lawful small
lawful = record { cells_below = below; reads_for_some = for_some }

inputs : Start small start
unfolding machine
inputs = record { distinct = (refl, (refl, tt)); room = omega arith; all_live = ((5, refl), ((7, refl), tt)); absent_cells = refl }

applied : EndsAgree (run small 8 [] start) (run small 8 (1 ∷ []) start)
applied = orders small lawful start (start_good small start inputs) 8 [] (1 ∷ [])

at_the_end : Invariants small start (reached_picks small start 8 []).done (reached_picks small start 8 []).sent (run small 8 [] start).state
at_the_end = let e = reached_picks small start 8 [] in reached_invariants small lawful start inputs e.done e.sent (run small 8 [] start).state e.reached
