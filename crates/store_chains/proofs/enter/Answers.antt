-- `store_chains::enter` meets its contract: `link` puts the place at the head of its bucket's chain, and that of a deferred token at the head of its
-- cell's, and `pair` what is beside the two partners; none touches what the others do. Assumes nothing.
use Prim.Native.Nat.{◌<◌}
use mathlib.Core.Path.{◌≡◌, ap}
use mathlib.Core.List.{List, [], ◌∷◌, ◌++◌}
use native.Mathlib.Omega.{arith}
use lib.ListN.{length}
use Rattle.record.specs.declared.token.Token.{Token}
use Rattle.store_chains.specs.Chains.{Indexed}
use Rattle.store_chains.specs.Deferred.{chain_of, cell_key, Waiting}
use Rattle.store_chains.specs.Partners.{Partnered, Beside}
use Rattle.store_chains.proofs.Chains.{chained_off}
use Rattle.store_chains.proofs.Index.{bucket_low}
use Rattle.store_chains.proofs.Entering.{slot_indexed, slot_waiting, slot_partnered, cell_indexed, cell_waiting, cell_partnered}
use Rattle.store_chains.proofs.enter.Goals as goal
use Rattle.store_chains.proofs.enter.Goals.{After-pair, Start}

-- its bucket is one of the heads
in_heads : (s : Start) → s.args.slot.bucket < 4096
in_heads s = rw s.requires.2 (bucket_low s.args.t.tag)

-- the chains once the token is in its slot
module _ (c : After-pair) where
  abbrev start : Start
  start = c.before.before.before.before

  indexed : let a = start.args in (ts : List Token) → length ts ≡ a.used → Indexed a.links.now ts → Indexed c.pair.new.links (ts ++ a.t ∷ [])
  indexed ts =
      let a = start.args in
      slot_indexed a.links.now a.t a.used start.requires.0 ts a.slot start.requires.2 _ _ c.before.before.link.ensures c.pair.ensures

  waiting : let a = start.args in (ts : List Token) → Waiting a.links.now ts → Waiting c.pair.new.links ts
  waiting ts =
      let a = start.args in
      slot_waiting a.links.now a.t a.used start.requires.0 ts a.slot start.requires.2 _ _ c.before.before.link.ensures c.pair.ensures

  partnered : let a = start.args in (ts : List Token) → length ts ≡ a.used → Beside a.links.now ts a.t a.slot → Partnered c.pair.new.links (ts ++ a.t ∷ [])
  partnered ts =
      let a = start.args in
      slot_partnered a.links.now a.t a.used start.requires.0 ts a.slot start.requires.2 _ _ c.before.before.link.ensures c.pair.ensures

  -- a token that is not deferred is in no cell's
  off : let a = start.args in cell_key a.t ≡ 0 → (ts : List Token) → length ts ≡ a.used → Waiting a.links.now ts → Waiting c.pair.new.links (ts ++ a.t ∷ [])
  off e ts len w = chained_off 6144 1024 cell_key c.pair.new.links ts (waiting ts w) start.args.t start.args.used len start.requires.0 e

pub link-requires : goal.link-requires
link-requires c = let b = in_heads c.before in (omega (arith, b), omega (arith, c.requires.0), c.requires.0)

pub pair-requires : goal.pair-requires
pair-requires c = (c.requires.0, c.requires.3)

pub link-requires-in-Deferred : goal.link-requires-in-Deferred
link-requires-in-Deferred c =
    let low : c.in-Deferred.cell < 1024 = rw c.in-Deferred.is at c.requires.1 in
    let u = c.requires.0 in
    (omega (arith, low), omega (arith, u), u)

pub returns-in-Live : goal.returns-in-Live
returns-in-Live c =
    let f = c.before in
    record { indexed = indexed f; waiting = off f (ap chain_of c.in-Live.is); partnered = partnered f }

pub returns-in-Spent : goal.returns-in-Spent
returns-in-Spent c =
    let f = c.before in
    record { indexed = indexed f; waiting = off f (ap chain_of c.in-Spent.is); partnered = partnered f }

pub returns-in-Deferred : goal.returns-in-Deferred
returns-in-Deferred c =
    let f = c.before.before.before in
    let a = c.args in
    let l = c.pair.new.links in
    let cell = c.in-Deferred.cell in
    let few : a.used < 2048 = c.requires.0 in
    let low : cell < 1024 = rw c.in-Deferred.is at c.requires.1 in
    record {
      indexed = (λ ts len w. rw c.link-in-Deferred.ensures (cell_indexed l a.t a.used few (ts ++ a.t ∷ []) cell low (indexed f ts len w)));
      waiting = (λ ts len w. rw c.link-in-Deferred.ensures (cell_waiting l a.t a.used few ts cell low len (ap chain_of c.in-Deferred.is) (waiting f ts w)));
      partnered = (λ ts len w. rw c.link-in-Deferred.ensures (cell_partnered l a.t a.used few (ts ++ a.t ∷ []) cell low (partnered f ts len w)));
    }
