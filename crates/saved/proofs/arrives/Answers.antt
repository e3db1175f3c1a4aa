-- `saved::arrives` meets its contract. Assumes nothing.
use Prim.Native.Nat.{◌*◌}
use mathlib.Core.Bool.{true, not, not-not}
use mathlib.Core.Path.{◌≡◌, sym, ap, ◌∙◌}
use lib.ListN.{take, drop}
use Rattle.record.specs.GraphRecords.{graph_of}
use Rattle.record.specs.TokensAndTags.{encode_token, token_at, TokenFits}
use Rattle.record.specs.Widths.{token_width}
use Rattle.machine.proofs.View.{false_true}
use Rattle.rules.specs.Saved.{token_allowed}
use Rattle.saved.specs.Passes.{arrives_at}
use Rattle.saved.proofs.arrives.Goals as goal
use Rattle.saved.proofs.arrives.Goals.{After-token_allowed}

pub returns-then-not-token_allowed : goal.returns-then-not-token_allowed
unfolding arrives_at
returns-then-not-token_allowed c = let allowed : let a = c.args in token_allowed (graph_of a.graph.now) (drop (a.i * token_width) a.ledger.now) ≡ c.token_allowed.result = ap (token_allowed (graph_of c.args.graph.now)) (sym c.row_at.ensures) ∙ sym c.token_allowed.ensures.value in record { value = rw (allowed, c.if-not-token_allowed.true); i_value = (λ h. false_true h) }

pub returns-then-not-path_made : goal.returns-then-not-path_made
unfolding arrives_at
returns-then-not-path_made c =
    let allowed : let a = c.args in token_allowed (graph_of a.graph.now) (drop (a.i * token_width) a.ledger.now) ≡ c.token_allowed.result = ap (token_allowed (graph_of c.args.graph.now)) (sym c.row_at.ensures) ∙ sym c.token_allowed.ensures.value in record {
      value = rw (
        allowed,
        c.if-not-token_allowed.false,
        ← c.read-t.ensures,
        ← c.path_made.ensures (graph_of c.args.graph.now) c.requires.2,
        c.if-not-path_made.true,
      );
      i_value = (λ h. false_true h);
    }

pub returns-then-not-content_allowed : goal.returns-then-not-content_allowed
unfolding arrives_at
returns-then-not-content_allowed c =
    let allowed : let a = c.args in token_allowed (graph_of a.graph.now) (drop (a.i * token_width) a.ledger.now) ≡ c.token_allowed.result = ap (token_allowed (graph_of c.args.graph.now)) (sym c.row_at.ensures) ∙ sym c.token_allowed.ensures.value in record {
      value = rw (
        allowed,
        c.if-not-token_allowed.false,
        ← c.read-t.ensures,
        ← c.path_made.ensures (graph_of c.args.graph.now) c.requires.2,
        c.if-not-path_made.false,
        ← c.content_allowed.ensures,
        c.if-not-content_allowed.true,
      );
      i_value = (λ h. false_true h);
    }

pub returns : goal.returns
unfolding arrives_at
returns c =
    let allowed : let a = c.args in token_allowed (graph_of a.graph.now) (drop (a.i * token_width) a.ledger.now) ≡ c.token_allowed.result = ap (token_allowed (graph_of c.args.graph.now)) (sym c.row_at.ensures) ∙ sym c.token_allowed.ensures.value in
    let bytes : c.token_allowed.result ≡ true → let a = c.args in (encode_token (token_at a.ledger.now a.i) ≡ take token_width (drop (a.i * token_width) a.ledger.now)) × TokenFits (token_at a.ledger.now a.i) = λ h. rw c.row_at.ensures at (c.token_allowed.ensures.s_value h) in
    let yes = c.if-not-token_allowed.false in record {
      value = rw (
        allowed,
        yes,
        ← c.read-t.ensures,
        ← c.path_made.ensures (graph_of c.args.graph.now) c.requires.2,
        c.if-not-path_made.false,
        ← c.content_allowed.ensures,
        c.if-not-content_allowed.false,
        ← c.find.ensures.0,
      )
          (sym (not-not c.is_none.result) ∙ ap not (sym c.is_none.ensures));
      i_value = (λ h. bytes yes);
    }
