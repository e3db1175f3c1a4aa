-- `bounds::reach::sent_by_inputs` meets its contract. The invariant: the table has the ports of the first i inputs. Assumes nothing.
use Prim.Native.Nat.{◌<◌, ◌/◌}
use native.Mathlib.Omega.{arith}
use mathlib.Core.Path.{sym, ◌∙◌}
use lib.ListN.{length}
use lib.Seq.{take_all}
use Rattle.record.specs.TokensAndTags.{root_of, stands_at}
use Rattle.record.specs.Widths.{token_width}
use Rattle.rules.specs.Needs.{inputs_of}
use Rattle.check_inputs.proofs.Tokens.{length_tokens, in_tokens}
use Rattle.check_fields.proofs.Turns.{any_next}
use Rattle.bounds.specs.Reach.{GoodToken}
use Rattle.bounds.proofs.Ports.{no_ports, alike, mark, stands}
use Rattle.bounds.proofs.reach.given.Goals as goal

pub loop-i-init : goal.loop-i-init
loop-i-init c = (omega arith, no_ports)

pub entry-at-requires : goal.entry-at-requires
entry-at-requires c = rw c.read-t.ensures (c.requires c.loop-i.i (omega arith)).inside

pub loop-i-preserved : goal.loop-i-preserved
loop-i-preserved c =
    let l = c.loop-i in
    let s = c.args.inputs.now in
    let t = c.read-t.result in
    let told = c.read-t.ensures in
    let h : l.i < length s / token_width = omega arith in
    let good : GoodToken t = rw told (c.requires l.i h) in
    (omega arith, rw c.entry-at.ensures.0 (alike (mark l.invariant.1 t.tag.instruction t.port good.inside) (λ i p. rw (any_next (stands_at (root_of i) p) (inputs_of s) l.i t (omega (arith, length_tokens s)) (in_tokens s l.i h t ∙ sym told), stands t good i p))))

pub returns : goal.returns
returns c =
    let l = c.loop-i in
    let s = c.args.inputs.now in
    rw (take_all l.i (inputs_of s) (omega (arith, length_tokens s))) at l.invariant.1
