-- One machine with another instruction set or another capacity. R-5 of 02 speaks of two such machines, and proofs/Agreement says when they have the same
-- runs. Assumes nothing.
use Rattle.std.specs.Prelude.{ℕ}
use Rattle.machine.specs.Machine.{Machine, EffectOf}

module _ (M : Machine) (arity : M.Tag → ℕ) (effect : M.Tag → M.Value → M.Value → EffectOf M) where
  -- one machine with another instruction set and another capacity: all else is equal
  abbrev pub machine_with : (capacity : ℕ) → Machine
  machine_with n = record {
    Tag = M.Tag;
    Value = M.Value;
    Refusal = M.Refusal;
    same = M.same;
    arity = arity;
    effect = effect;
    signal = M.signal;
    ledger_full = M.ledger_full;
    second_token = M.second_token;
    second_write = M.second_write;
    capacity = n;
    cell_count = M.cell_count;
  }

  abbrev pub with_instructions : Machine
  with_instructions = machine_with M.capacity
