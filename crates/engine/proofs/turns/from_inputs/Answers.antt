-- `engine::turns::from_inputs` meets its contract: it begins as `start` says, and proceeds. Assumes nothing.
use mathlib.Core.Path.{refl, sym, subst}
use Rattle.engine.proofs.Accepting.{used_all}
use Rattle.engine.proofs.turns.from_inputs.Goals as goal

pub begin-used-requires : goal.begin-used-requires
begin-used-requires g c = (c.requires.0, c.new-store.ensures.0, c.new-store.ensures.1)

pub proceed-requires : goal.proceed-requires
proceed-requires g c =
    let a = c.args in
    let b = c.begin-used.ensures in
    (b.prepared, b.running, c.requires.1, subst (λ n. g.O.Operate.fits a.by.now n) (sym (used_all a.graph.now a.arrays.now a.inputs.now b)) c.requires.2)

pub returns : goal.returns
returns g c =
    let p = c.proceed.ensures in record {
      tables = _;
      links = _;
      flags = _;
      ledger₁ = _;
      cells₁ = _;
      used = _;
      begun = c.begin-used.ensures;
      links' = _;
      flags' = _;
      proceeded = p.proceeded;
      log_after = p.log_after;
      kept = p.kept;
    }
