-- `engine::choice::place_named` meets its contract: the first enabled activity is the one of its tag. Assumes nothing.
use Prim.Native.Nat.{◌<◌}
use mathlib.Core.Path.{◌≡◌, sym, ap, ◌∙◌}
use native.Mathlib.Omega.{arith}
use mathlib.Core.Bool.{false}
use lib.ListN.{length}
use borrow.Author.Tests.{eqb-false}
use Rattle.record.specs.TokensAndTags.{same_tag}
use Rattle.record.proofs.Equality.{equal_tags}
use Rattle.record.specs.declared.token.Token.{Token}
use Rattle.store_flags.specs.Flags.{places}
use Rattle.store.proofs.Laws.{matching_known, matching_room}
use Rattle.engine.proofs.Choosing.{first_there, first_named}
use Rattle.engine.proofs.choice.place_named.Goals as goal

pub enabled_at-first-requires : goal.enabled_at-first-requires
enabled_at-first-requires c =
    let some : c.is_empty.result ≡ false → ¬ (length (places c.args.store.now.flags) ≡ 0) = λ e. eqb-false _ 0 (sym c.is_empty.ensures.value ∙ e) in
    omega (arith, some (c.if-not-is_empty.true))

pub read-t-requires : goal.read-t-requires
read-t-requires c =
    let some : c.is_empty.result ≡ false → ¬ (length (places c.args.store.now.flags) ≡ 0) = λ e. eqb-false _ 0 (sym c.is_empty.ensures.value ∙ e) in
    let enabled : ¬ (length (places c.args.store.now.flags) ≡ 0) = some (c.if-not-is_empty.true) in
    let there : c.enabled_at-first.result < c.args.used = first_there c.requires enabled c.enabled_at-first.result c.enabled_at-first.ensures.0 in
    omega (arith, there, matching_room c.requires)

pub returns-then-eq : goal.returns-then-eq
returns-then-eq c =
    let some : c.is_empty.result ≡ false → ¬ (length (places c.args.store.now.flags) ≡ 0) = λ e. eqb-false _ 0 (sym c.is_empty.ensures.value ∙ e) in
    let enabled : ¬ (length (places c.args.store.now.flags) ≡ 0) = some (c.if-not-is_empty.true) in
    let there : c.enabled_at-first.result < c.args.used = first_there c.requires enabled c.enabled_at-first.result c.enabled_at-first.ensures.0 in
    let same = ap (λ (t : Token). same_tag t.tag c.args.tag) (sym c.read-t.ensures) ∙ sym (c.eq.ensures ∙ equal_tags c.read-t.result.tag c.args.tag) ∙ c.if-eq.true in
    (first_named c.requires (enabled) c.enabled_at-first.result c.enabled_at-first.ensures.0 c.args.tag same, there)

pub enabled_by_tag-requires : goal.enabled_by_tag-requires
enabled_by_tag-requires c = matching_known c.requires

pub returns : goal.returns
returns c = c.enabled_by_tag.ensures
