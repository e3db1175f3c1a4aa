-- `engine::choice::by_record` meets its contract: no name, and no activity of a name, are one refusal. Assumes nothing.
use mathlib.Core.Path.{◌≡◌, refl, sym, ap, ◌∙◌}
use Rattle.std.specs.Prelude.{Option, None, Some, Result, Ok, Err, ok_or}
use Rattle.std.proofs.lemmas.Result.{err_from_is_err_and}
use Rattle.record.specs.Logs.{tag_named}
use Rattle.record.specs.TokensAndTags.{tokens}
use Rattle.machine.specs.Choosers.{by_name}
use Rattle.rules.specs.declared.answer.Refusal.TheVariants.{NotEnabled}
use Rattle.rules.specs.InstructionSet.{machine_of}
use Rattle.rules.specs.Log.{names_in}
use Rattle.abstraction.specs.States.{state_held}
use Rattle.engine.specs.Turns.{Chooses}
use Rattle.engine.proofs.Choosing.{names_nothing, names_none, names_there}
use Rattle.engine.proofs.choice.by_record.Goals as goal

-- ---- what `ok_or` is made of

abbrev part : {T E : Type 0} → Result T E → Option T
part (Ok x) = Some x
part (Err e) = None

same_part : {T E : Type 0} (o : Option T) (e : E) → part (ok_or o e) ≡ o
same_part None e = refl
same_part (Some x) e = refl

was : {T E : Type 0} (o : Option T) (e : E) {r : Result T E} → ok_or o e ≡ r → o ≡ part r
was o e h = sym (same_part o e) ∙ ap part h

abbrev refusal_of : {T E : Type 0} → E → Result T E → E
refusal_of e (Ok x) = e
refusal_of e (Err d) = d

its_refusal : {T E : Type 0} (o : Option T) (e : E) {d : E} → ok_or o e ≡ Err d → d ≡ e
its_refusal None e h = sym (ap (refusal_of e) h)
its_refusal (Some x) e h = sym (ap (refusal_of e) h)

either : {T E : Type 0} (P : Result T E → Type 0) (o : Option T) (e : E) → (o ≡ None → P (Err e)) → ((x : T) → o ≡ Some x → P (Ok x)) → P (ok_or o e)
either P None e n s = n refl
either P (Some x) e n s = s x refl

pub returns-in_err-tag : goal.returns-in_err-tag
returns-in_err-tag c =
    let h = sym c.ok_or.ensures.value ∙ c.in_err-tag.was in
    let none : c.name_at.result ≡ None = was c.name_at.result _ h in
    let p = err_from_is_err_and c.from_residual.result c.from_residual.ensures.1 in
    rw (p.1, p.2, its_refusal c.name_at.result _ h)
    (λ flags held g right arrived back table capacity count cs.
    names_nothing c.args.tables.now c.args.ledger.now c.args.used g right arrived table capacity count cs (names_in c.args.log.now) c.args.firings
    (sym (ap tag_named none) ∙ c.name_at.ensures))

pub returns : goal.returns
returns c =
    let some : c.name_at.result ≡ Some c.in_ok-tag.tag = was c.name_at.result _ (sym c.ok_or.ensures.value ∙ c.in_ok-tag.was) in
    let named = sym (ap tag_named some) ∙ c.name_at.ensures in
    rw c.ok_or-2.ensures.value
    (λ flags held g right arrived back table capacity count cs.
    either (λ r. Chooses r (by_name (machine_of g table capacity count) NotEnabled (names_in c.args.log.now) c.args.firings (state_held (tokens c.args.used c.args.ledger.now) cs)) c.args.tables.now c.args.ledger.now c.args.used) c.place_named.result _
    (names_none c.args.tables.now c.args.ledger.now c.args.used g right arrived table capacity count cs (names_in c.args.log.now) c.args.firings _ named _ c.place_named.ensures.0)
    (λ place at. names_there c.args.tables.now c.args.ledger.now c.args.used g right arrived table capacity count cs (names_in c.args.log.now) c.args.firings _ named _ c.place_named.ensures.0 place at
    (rw at at c.place_named.ensures.1)))
