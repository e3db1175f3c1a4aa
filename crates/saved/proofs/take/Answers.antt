-- `saved::take` meets its contract: the passes in turn (proofs/Taking). Assumes nothing.
use Prim.Native.Nat.{◌/◌, ◌≤◌}
use mathlib.Core.Path.{sym, ◌∙◌}
use native.Mathlib.Omega.{arith}
use lib.ListN.{length}
use Rattle.record.specs.GraphRecords.{graph_of}
use Rattle.record.specs.Widths.{token_width, cell_width}
use Rattle.machine.proofs.View.{false_true}
use Rattle.store.proofs.Laws.{matching_start}
use Rattle.saved.proofs.Taking.{too_many, not_taken, passes, decides, goes_on_lem}
use Rattle.saved.proofs.Together.{entered, enters}
use Rattle.saved.proofs.take.Goals as goal

pub returns-then-ledger-used : goal.returns-then-ledger-used
returns-then-ledger-used c = let a = c.args in record { value = too_many a.graph.now a.ledger.now a.cells.now a.tables.now a.firings a.used c.requires.0.arities_right c.if-ledger-used.true; running = (λ h. false_true h) }

pub enter-requires : goal.enter-requires
enter-requires c = (rw (c.requires.4, c.requires.5) (matching_start c.args.tables.now c.args.ledger.now), omega (arith, c.if-ledger-used.false), c.requires.1, c.requires.3, c.find_sites-sites.ensures, c.requires.0.arities_right)

pub returns-then-not-enter : goal.returns-then-not-enter
returns-then-not-enter c =
    let a = c.args in record {
      value = not_taken a.graph.now a.ledger.now a.cells.now a.tables.now a.firings a.used c.requires.0.arities_right
          (λ p. false_true (sym (c.if-not-enter.true) ∙ c.enter.ensures.value
          ∙ enters (graph_of a.graph.now) a.tables.now a.ledger.now (length a.cells.now / cell_width) a.firings a.used c.requires.3 (record { arrive = p.arrive; partnered = p.partnered; counted = p.counted })));
      running = (λ h. false_true h);
    }

pub returns : goal.returns
returns c =
    let room : c.args.used ≤ length c.args.ledger.now / token_width = omega (arith, c.if-ledger-used.false) in
    let a = c.args in
    let yes = c.if-not-enter.false in
    let m = c.enter.ensures.cases yes in
    let t = entered (graph_of a.graph.now) a.tables.now a.ledger.now (length a.cells.now / cell_width) a.firings a.used c.requires.3 (sym c.enter.ensures.value ∙ yes) in
    let q = c.cells_right.ensures.by_index a.tables.now _ a.ledger.now a.used m in
    let right = c.requires.0.arities_right in record {
      value = decides a.graph.now a.ledger.now a.cells.now a.tables.now a.firings a.used right (room) t.arrive t.partnered t.counted c.cells_right.result q;
      running = (λ h. goes_on_lem a.graph.now a.ledger.now a.cells.now a.tables.now a.firings a.used right (room)
          (passes a.graph.now a.ledger.now a.cells.now a.tables.now a.firings a.used right (room) t.arrive t.partnered t.counted (sym q ∙ h))
          _ _ m c.requires.1 c.requires.2 c.requires.3 (c.cells_right.ensures.cell_bytes h));
    }
