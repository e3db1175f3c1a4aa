-- `fire_outputs::append_outputs` meets its contract. The loop's invariant: k outputs have arrived, and the next is at hand with its slot. Assumes nothing.
use Rattle.record.specs.TokensAndTags.{tokens}
use Rattle.fire_outputs.proofs.Laws.{Appending}
use Rattle.fire_outputs.proofs.append_outputs.Given as goal

abbrev pub invariant-loop-k : goal.invariant-loop-k
invariant-loop-k l =
    Appending l.tables l.store.links l.store.flags l.ledger l.used l.k (tokens l.used l.initial.ledger) l.outputs l.content l.initial.slot l.second l.key l.slot l.initial.ledger
