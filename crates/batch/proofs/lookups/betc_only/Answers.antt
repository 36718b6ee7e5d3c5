use Rattle.batch.specs.Batch.{betc_only}
use Rattle.batch.proofs.lookups.betc_only.Goals as goal

pub returns : goal.returns
unfolding betc_only
returns c = cc
