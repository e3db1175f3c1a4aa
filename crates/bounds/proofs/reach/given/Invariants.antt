-- `bounds::reach::sent_by_inputs` meets its contract. The invariant: the table has the ports of the first i inputs. Assumes nothing.
use Prim.Native.Nat.{◌≤◌, ◌/◌}
use lib.ListN.{length, take}
use Rattle.record.specs.Widths.{token_width}
use Rattle.rules.specs.Needs.{inputs_of}
use Rattle.bounds.specs.Reach.{Ports, sent_by_inputs}
use Rattle.bounds.proofs.reach.given.Given as goal

abbrev pub invariant-loop-i : goal.invariant-loop-i
invariant-loop-i l = (l.i ≤ length l.inputs / token_width) × Ports (sent_by_inputs (take l.i (inputs_of l.inputs))) l.sent
