-- `saved::enter` meets its contract. The invariant: the first i tokens can arrive and have arrived, and are counted. Assumes nothing.
use borrow.Author.Tests.{eq-eqb, ne_eqb}
use Prim.Native.Nat.{ℕ, ◌*◌, ◌≤◌}
use mathlib.Core.Bool.{Bool, true, cond}
use mathlib.Core.List.{List}
use lib.ListN.{take, drop}
use Rattle.std.specs.Prelude.{is_some}
use Rattle.record.specs.declared.instruction.Instruction.{Instruction}
use Rattle.record.specs.Widths.{token_width}
use Rattle.abstraction.specs.Tables.{Arities}
use mathlib.Core.Path.{◌≡◌, refl, sym, ap, ◌∙◌, subst}
use native.Mathlib.Omega.{arith}
use Rattle.record.specs.GraphRecords.{graph_of}
use Rattle.record.specs.declared.token.Token.{Token}
use Rattle.record.specs.TokensAndTags.{encode_token, token_at, TokenFits}
use Rattle.machine.proofs.View.{false_true}
use Rattle.store_enabled.specs.Store.{StandingRecord}
use Rattle.store.proofs.Laws.{matching_known}
use Rattle.store.proofs.Writing.{put_same}
use Rattle.saved.specs.Passes.{arrives_at, spent_of_two, closes_at, first_spent, enters_all}
use Rattle.saved.proofs.Laws.{all_fails, all_more, told, arrives_parts, arrives_alone, counts_more, byte_cond}
use Rattle.saved.proofs.enter.Goals as goal

-- record i, which can arrive, stands in its token
stands : (g : List Instruction) (tables ledger : List ℕ) (count i : ℕ) (t : Token) → count ≤ 1024 → Arities g tables → arrives_at g tables ledger count i ≡ true
    → (encode_token (token_at ledger i) ≡ take token_width (drop (i * token_width) ledger)) × TokenFits (token_at ledger i) → t ≡ token_at ledger i → StandingRecord tables ledger i t
stands g tables ledger count i t few right arrived own e =
    let p = arrives_parts g tables ledger count i few arrived in
    subst (λ (u : Token). StandingRecord tables ledger i u) (sym e) (record {
      same = refl;
      fits = own.1;
      bytes = sym (put_same ledger i (encode_token (token_at ledger i)) own.0);
      low = p.0;
      alone = arrives_alone g tables ledger count i right arrived;
    })

pub arrives-requires : goal.arrives-requires
unfolding enters_all
arrives-requires c =
    let l = c.loop-i in
    (omega (arith, c.loop-i-test.true, c.requires.1), matching_known l.invariant.1, c.requires.4, c.requires.5)

pub returns-then-not-arrives : goal.returns-then-not-arrives
unfolding enters_all
returns-then-not-arrives c =
    let l = c.loop-i in
    let a = c.args in
    let test = arrives_at (graph_of a.graph.now) a.tables.now a.ledger.now a.count in record { value = rw (← all_fails test a.used l.i c.loop-i-test.true (sym c.arrives.ensures.value ∙ c.if-not-arrives.true)); cases = (λ h. false_true h) }

pub closes-requires : goal.closes-requires
unfolding enters_all
closes-requires c = (c.read-t.ensures, (stands (graph_of c.args.graph.now) c.args.tables.now c.args.ledger.now c.args.count c.loop-i.i c.read-t.result c.requires.3 c.requires.5 (sym c.arrives.ensures.value ∙ c.if-not-arrives.false) (c.arrives.ensures.i_value c.if-not-arrives.false) c.read-t.ensures).low, matching_known c.loop-i.invariant.1)

pub seek-requires : goal.seek-requires
unfolding enters_all
seek-requires c = (matching_known c.loop-i.invariant.1, (stands (graph_of c.args.graph.now) c.args.tables.now c.args.ledger.now c.args.count c.loop-i.i c.read-t.result c.requires.3 c.requires.5 (sym c.arrives.ensures.value ∙ c.if-not-arrives.false) (c.arrives.ensures.i_value c.if-not-arrives.false) c.read-t.ensures).low)

pub returns-in_default : goal.returns-in_default
unfolding enters_all
returns-in_default c =
    let p = arrives_parts (graph_of c.args.graph.now) c.args.tables.now c.args.ledger.now c.args.count c.loop-i.i c.requires.3 (sym c.arrives.ensures.value ∙ c.if-not-arrives.false) in
    let taken = rw (c.in_default.is, c.read-t.ensures) at c.seek.ensures in
    absurd (false_true (sym (ap is_some p.2) ∙ taken))

pub enter-requires : goal.enter-requires
unfolding enters_all
enter-requires c =
    let l = c.loop-i in
    let a = c.args in
    let h = c.loop-i-test.true in
    let p = arrives_parts (graph_of a.graph.now) a.tables.now a.ledger.now a.count l.i c.requires.3 (sym c.arrives.ensures.value ∙ c.if-not-arrives.false) in
    (l.invariant.1, omega (arith, h, c.requires.1), omega (arith, h, c.requires.1, c.requires.2), (stands (graph_of c.args.graph.now) c.args.tables.now c.args.ledger.now c.args.count c.loop-i.i c.read-t.result c.requires.3 c.requires.5 (sym c.arrives.ensures.value ∙ c.if-not-arrives.false) (c.arrives.ensures.i_value c.if-not-arrives.false) c.read-t.ensures), rw c.read-t.ensures p.1, rw c.in-Some.is at c.seek.ensures)

pub loop-i-preserved : goal.loop-i-preserved
unfolding enters_all
loop-i-preserved c =
    let l = c.loop-i in
    let a = c.args in
    let m = a.ledger.now in
    let e = c.read-t.ensures in (
      omega (arith, c.loop-i-test.true),
      c.enter.ensures,
      all_more (arrives_at (graph_of a.graph.now) a.tables.now m a.count) l.i (sym c.arrives.ensures.value ∙ c.if-not-arrives.false) l.invariant.2,
      counts_more (first_spent m) l.i l.fired c.from-fired.result l.invariant.3 (c.from-fired.ensures ∙ byte_cond _ ∙ ap (λ (b : Bool). cond b 1 0) (c.first_spent.ensures m l.i e)),
      counts_more (spent_of_two a.tables.now m) l.i l.of_two c.from-of_two.result l.invariant.4 (c.from-of_two.ensures ∙ byte_cond _ ∙ ap (λ (b : Bool). cond b 1 0) (c.spent_of_two.ensures m l.i e)),
      counts_more (closes_at a.tables.now m) l.i l.closed c.from-closed.result l.invariant.5 (c.from-closed.ensures ∙ byte_cond _ ∙ ap (λ (b : Bool). cond b 1 0) c.closes.ensures),
    )

pub returns-then-closed-of_two : goal.returns-then-closed-of_two
unfolding enters_all
returns-then-closed-of_two c =
    let l = c.loop-i in
    let a = c.args in
    let m = a.ledger.now in
    let e : l.i ≡ a.used = omega (arith, c.loop-i-test.false, l.invariant.0) in
    let both = told (enters_all (graph_of a.graph.now) a.tables.now m a.count a.firings a.used) (λ h. rw e at l.invariant.1)
    (rw (← e, l.invariant.2, ← l.invariant.5.number, ← l.invariant.4.number, ← l.invariant.3.number, eq-eqb _ _ c.if-closed-of_two.true)) in
    record { value = both.0; cases = both.1 }

pub returns-else-closed-of_two : goal.returns-else-closed-of_two
unfolding enters_all
returns-else-closed-of_two c =
    let l = c.loop-i in
    let a = c.args in
    let m = a.ledger.now in
    let e : l.i ≡ a.used = omega (arith, c.loop-i-test.false, l.invariant.0) in
    let both = told (enters_all (graph_of a.graph.now) a.tables.now m a.count a.firings a.used) (λ h. rw e at l.invariant.1)
    (rw (← e, l.invariant.2, ← l.invariant.5.number, ← l.invariant.4.number, ne_eqb _ _ c.if-closed-of_two.false)) in
    record { value = both.0; cases = both.1 }
