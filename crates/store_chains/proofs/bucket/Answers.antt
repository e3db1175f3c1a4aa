-- `store_chains::bucket` meets its contract. Assumes nothing.
use native.Mathlib.Omega.{arith}
use Rattle.store_chains.specs.Chains.{bucket_of}
use Rattle.store_chains.proofs.bucket.Goals as goal

pub returns : goal.returns
unfolding bucket_of
returns c = (rw (c.mixed-spread.ensures.0, c.folded.ensures), omega arith)
