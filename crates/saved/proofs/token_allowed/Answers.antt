-- `saved::token_allowed` meets its contract. Assumes nothing.
use mathlib.Core.Bool.{true}
use mathlib.Core.Path.{◌≡◌}
use lib.ListN.{take}
use Rattle.record.specs.GraphRecords.{graph_of}
use Rattle.record.specs.TokensAndTags.{encode_token, decode_token, TokenFits}
use Rattle.record.specs.Widths.{token_width}
use Rattle.record.proofs.Fitting.{token_fits}
use Rattle.rules.specs.Saved.{token_allowed}
use Rattle.saved.proofs.Laws.{token_own, told}
use Rattle.saved.proofs.token_allowed.Goals as goal
use Rattle.saved.proofs.token_allowed.Goals.{After-decode}

pub returns-then-port_allowed : goal.returns-then-port_allowed
unfolding token_allowed
returns-then-port_allowed c =
    let own : let a = c.args in token_allowed (graph_of a.graph.now) a.s.now ≡ true → (encode_token (decode_token a.s.now) ≡ take token_width a.s.now) × TokenFits (decode_token a.s.now) = λ e. let a = c.args in
    (token_own (graph_of a.graph.now) a.s.now c.requires.0 (λ i. (c.shared_slice_known-2-1.given i).fits) e, token_fits a.s.now (λ i. (c.shared_slice_known-2-1.given i).fits)) in
    let a = c.args in
    let both = told (token_allowed (graph_of a.graph.now) a.s.now) (own) (rw (← c.decode.ensures, ← c.port_allowed.ensures, c.if-port_allowed.true) c.state_allowed.ensures) in
    record { value = both.0; s_value = both.1 }

pub returns-else-port_allowed : goal.returns-else-port_allowed
unfolding token_allowed
returns-else-port_allowed c =
    let own : let a = c.args in token_allowed (graph_of a.graph.now) a.s.now ≡ true → (encode_token (decode_token a.s.now) ≡ take token_width a.s.now) × TokenFits (decode_token a.s.now) = λ e. let a = c.args in
    (token_own (graph_of a.graph.now) a.s.now c.requires.0 (λ i. (c.shared_slice_known-2-1.given i).fits) e, token_fits a.s.now (λ i. (c.shared_slice_known-2-1.given i).fits)) in
    let a = c.args in
    let both = told (token_allowed (graph_of a.graph.now) a.s.now) (own) (rw (← c.decode.ensures, ← c.port_allowed.ensures, c.if-port_allowed.false)) in
    record { value = both.0; s_value = both.1 }
