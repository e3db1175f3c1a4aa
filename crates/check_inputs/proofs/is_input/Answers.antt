-- `check_inputs::is_input` meets its contract. Assumes nothing.
use mathlib.Core.Path.{sym, ap, ◌∙◌}
use borrow.Author.Tests.{eq-eqb, ne_eqb}
use Rattle.record.specs.declared.tag.Tag.{Tag}
use Rattle.record.specs.Paths.{is_root}
use Rattle.record.specs.TokensAndTags.{is_input}
use Rattle.check_inputs.proofs.is_input.Goals as goal

pub returns-then-tag-eq0 : goal.returns-then-tag-eq0
unfolding is_input
returns-then-tag-eq0 c =
    let tag = sym c.decode-tag.ensures in
    let root = ap (λ (t : Tag). is_root t.path) tag ∙ sym c.is_root.ensures ∙ c.if-is_root.true in
    rw (c.u32_at.ensures, root, eq-eqb _ _ (ap (λ (t : Tag). t.iteration) tag ∙ c.if-tag-eq0.true))

pub returns-else-tag-eq0 : goal.returns-else-tag-eq0
unfolding is_input
returns-else-tag-eq0 c =
    let tag = sym c.decode-tag.ensures in
    let root = ap (λ (t : Tag). is_root t.path) tag ∙ sym c.is_root.ensures ∙ c.if-is_root.true in
    rw (root, ne_eqb _ _ c.if-tag-eq0.false, ne_eqb _ 0 (λ e. c.if-tag-eq0.false (sym (ap (λ (t : Tag). t.iteration) tag) ∙ e)))

pub returns-else-is_root : goal.returns-else-is_root
unfolding is_input
returns-else-is_root c =
    let tag = sym c.decode-tag.ensures in
    let root = ap (λ (t : Tag). is_root t.path) tag ∙ sym c.is_root.ensures in
    rw (root, c.if-is_root.false)
