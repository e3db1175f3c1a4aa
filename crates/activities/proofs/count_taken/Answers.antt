-- `activities::count_taken` meets its contract: a state that is not taken is refused, and the flags of one that is are counted. Assumes nothing.
use mathlib.Core.Path.{refl, sym, ap, ◌∙◌}
use Prim.Native.Nat.{ℕ, ◌-◌}
use native.Mathlib.Omega.{arith}
use Rattle.fire.specs.Running.{Prepared}
use Rattle.activities.specs.Counts.{held_back_in}
use Rattle.activities.proofs.Counting.{ready, found_enabled, free_few, found_held, found_none, is_counted, is_damaged}
use Rattle.activities.proofs.count_taken.Goals as goal

pub make-requires : goal.make-requires
make-requires c = (c.requires.0.graph_passed, omega arith)

pub take-requires : goal.take-requires
take-requires c =
    let prepared : Prepared c.args.graph.now c.make.new.out = record { passed = c.requires.0.graph_passed; returns_right = c.make.ensures.returns; arities_right = c.make.ensures.arities } in
    (prepared, c.requires.0.few, c.requires.0.cell_records.0, c.requires.0.cell_records.1, c.new-store.ensures.0, c.new-store.ensures.1)

pub returns-then-not-take : goal.returns-then-not-take
returns-then-not-take c =
    let a = c.args in
    rw c.at.ensures (is_damaged a.graph.now a.ledger.now a.cells.now a.bound a.firings a.used (sym c.if-not-take.true ∙ c.take.ensures.value))

pub returns-then-bound-eq0 : goal.returns-then-bound-eq0
returns-then-bound-eq0 c =
    let prepared : Prepared c.args.graph.now c.make.new.out = record { passed = c.requires.0.graph_passed; returns_right = c.make.ensures.returns; arities_right = c.make.ensures.arities } in
    let a = c.args in
    let t = c.if-not-take.false in
    let r = ready prepared (c.take.ensures.running t) in
    is_counted a.graph.now a.ledger.now a.cells.now a.bound a.firings a.used (sym t ∙ c.take.ensures.value) _ _
    (c.count-enabled.ensures.value ∙ found_enabled a.graph.now r a.cells.now)
    (found_none a.graph.now a.ledger.now a.cells.now a.used ∙ ap (λ (b : ℕ). held_back_in a.graph.now b a.ledger.now a.cells.now a.used) (sym c.if-bound-eq0.true))

pub count_free-free-requires : goal.count_free-free-requires
count_free-free-requires c =
    let prepared : Prepared c.args.graph.now c.make.new.out = record { passed = c.requires.0.graph_passed; returns_right = c.make.ensures.returns; arities_right = c.make.ensures.arities } in
    let a = c.args in
    let t = c.if-not-take.false in
    let r = ready prepared (c.take.ensures.running t) in
    (r, omega (arith, c.if-bound-eq0.false), c.requires.1)

pub overflow_sub-result : goal.overflow_sub-result
overflow_sub-result c =
    let prepared : Prepared c.args.graph.now c.make.new.out = record { passed = c.requires.0.graph_passed; returns_right = c.make.ensures.returns; arities_right = c.make.ensures.arities } in
    let a = c.args in
    let t = c.if-not-take.false in
    let r = ready prepared (c.take.ensures.running t) in
    omega (arith, c.count-enabled.ensures.value, free_few a.graph.now r a.cells.now a.bound c.count_free-free.result c.count_free-free.ensures)

pub returns : goal.returns
returns c =
    let prepared : Prepared c.args.graph.now c.make.new.out = record { passed = c.requires.0.graph_passed; returns_right = c.make.ensures.returns; arities_right = c.make.ensures.arities } in
    let a = c.args in
    let t = c.if-not-take.false in
    let r = ready prepared (c.take.ensures.running t) in
    is_counted a.graph.now a.ledger.now a.cells.now a.bound a.firings a.used (sym t ∙ c.take.ensures.value) _ _
    (c.count-enabled.ensures.value ∙ found_enabled a.graph.now r a.cells.now)
    (ap (λ (n : ℕ). n - c.count_free-free.result) c.count-enabled.ensures.value ∙ found_held a.graph.now r a.cells.now a.bound c.count_free-free.result c.count_free-free.ensures)
