-- 02, R-13, proved in bytes: any two runs from one saved state agree as any two from one list of inputs do. Assumes nothing.
use Rattle.std.proofs.Common.{Ok}
use Prim.Native.Nat.{ℕ}
use mathlib.Core.Path.{◌≡◌, sym, subst}
use mathlib.Core.List.{List}
use lib.ListN.{length}
use Rattle.number.specs.Number.{Bytes}
use Rattle.machine.specs.Orders.{Quiescent}
use Rattle.rules.specs.Check.{check_graph}
use Rattle.rules.specs.Run.{Result, refused_at_once, ran_to}
use Rattle.rules.specs.Orders as Rules
use Rattle.rules.specs.Saved.{carried}
use Rattle.rules.specs.Parts.{Began}
use Rattle.rules.specs.Runs.{LentToRun}
use Rattle.rules.proofs.Resumed.{orders_from}
use Rattle.rules.proofs.Parts.{carried_fits, carried_stores}
use Rattle.listing.specs.SavedOrders.{Demand3From}
use Rattle.listing.proofs.Demand3.{Held, held, agree_in_bytes}

quiescent_began : (x : Result) → Quiescent (Rules.result_outcome x) → Began x
quiescent_began (refused_at_once r p) h = h
quiescent_began (ran_to e) h = tt

pub demand3_from : Demand3From
demand3_from graph arrays firings n graph_bytes l m ledger_bytes otherBytes cell_bytes a b one x y ran_x ranY =
    agree_in_bytes (result_of l) (result_of m) l m x y ran_x ranY agreed (holds l ledger_bytes cell_bytes) (holds m otherBytes (subst Bytes one.cells cell_bytes))
  where
    result_of : LentToRun → Result
    result_of k = carried graph arrays k.picks 2048 k.ledger k.cells firings n

    -- both are lent the same cells
    agreed : Rules.ResultsAgree (result_of l) (result_of m)
    agreed =
        subst (λ (c : List ℕ). Rules.ResultsAgree (result_of l) (carried graph arrays m.picks 2048 m.ledger c firings n)) one.cells
        (orders_from graph arrays l.picks m.picks l.ledger m.ledger l.cells firings n a (subst (λ (c : List ℕ). check_graph graph ≡ Ok tt → Rules.Allowed m.picks (length m.ledger) (length c)) (sym one.cells) b) one.capacity one.records)

    holds : (k : LentToRun) → Bytes k.ledger → Bytes k.cells → Quiescent (Rules.result_outcome (result_of k)) → Held (result_of k) k.cells
    holds k lb cb c =
        held (result_of k) 0 (length k.picks) k.ledger k.cells
        (carried_stores graph arrays k.picks k.ledger k.cells 2048 firings n (quiescent_began (result_of k) c))
        (carried_fits graph arrays k.picks k.ledger k.cells 2048 firings n graph_bytes lb cb)
