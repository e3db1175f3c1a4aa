-- What a firing by the operation over ranges promises is the step over handles. Assumes nothing.
use Prim.Native.Nat.{ℕ}
use mathlib.Core.Path.{◌≡◌, subst, ◌∙◌}
use mathlib.Core.List.{List}
use lib.IntN.{ℤ}
use Rattle.std.specs.Prelude.{Result}
use Rattle.record.specs.declared.tag.Tag.{Tag}
use Rattle.record.specs.declared.instruction.Instruction.{Instruction}
use Rattle.arithmetic.specs.declared.Range.{Range}
use Rattle.machine.specs.Machine.{Effect}
use Rattle.rules.specs.declared.answer.Refusal.{Refusal}
use Rattle.fire.specs.Running.{Stepped}
use Rattle.fire.specs.Operating.{asked_by, kept_by}
use Rattle.range_fire.specs.Tried.{step_at, TriedAs}
use Rattle.range_fire.specs.Ranges.{ranges_ask, ranges_keep, asked_there, kept_there}

pub tried : (r : Result ℕ Refusal) (g : List Instruction) (τ : Tag) {tables links flags ledger' cells' : List ℕ} (table' : List Range) {used : ℕ} {ledger cells : List ℕ} (table : List Range)
    → Stepped r g τ (asked_by (ranges_ask table) g tables ledger cells used τ) tables links flags ledger' cells' used ledger cells
    → table' ≡ kept_by table (ranges_keep table) g tables ledger cells used τ
    → TriedAs r g τ (step_at g tables ledger cells used table τ) tables links flags ledger' cells' table' used ledger cells table
tried r g τ {tables} {links} {flags} {ledger'} {cells'} table' {used} {ledger} {cells} table s k = record {
  stepped = subst (λ (e : Effect Refusal Tag ℤ). Stepped r g τ e tables links flags ledger' cells' used ledger cells) (asked_there g tables ledger cells used table τ) s;
  held = k ∙ kept_there g tables ledger cells used table τ;
}
