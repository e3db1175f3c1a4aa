-- `store::spend_operands` meets its contract. Assumes nothing.
use Rattle.store_enabled.proofs.Spending.{spendable_within}
use Rattle.store.proofs.Changes.{spent_kept_lem}
use Rattle.store.proofs.Laws.{matching_stored}
use Rattle.store.proofs.spend_operands.Goals as goal

pub returns : goal.returns
returns c =
    let a = c.args in
    let p = c.spend_operands in record {
      ledger_after = p.ensures.ledger_after;
      by_index = (λ tables links used w o.
          let r = p.ensures.by_index tables links used (matching_stored w) o in
          (r.0, spent_kept_lem tables links a.flags.now a.ledger.now used a.place a.other w (spendable_within o).0 (spendable_within o).1 p.new.flags p.new.ledger r.0 r.1));
    }
