-- `saved::path_made` meets its contract. The invariant: the levels that are left decide of the path that is left. Assumes nothing.
use Prim.Native.Nat.{◌-◌}
use mathlib.Core.List.{List}
use mathlib.Core.Path.{◌≡◌}
use Rattle.record.specs.declared.instruction.Instruction.{Instruction}
use Rattle.record.specs.Calls.{most_levels}
use Rattle.rules.specs.Saved.{path_made}
use Rattle.saved.specs.Passes.{EnteredSites}
use Rattle.saved.proofs.path_made.Given as goal

abbrev pub invariant-loop : goal.invariant-loop
invariant-loop l = (g : List Instruction) → EnteredSites g l.sites → path_made g most_levels l.initial.at ≡ path_made g (most_levels - l.counter) l.at
