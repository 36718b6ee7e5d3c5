use Rattle.batch.specs.Batch.{location_only}
use Rattle.batch.proofs.lookups.location_only.Goals as goal

pub returns : goal.returns
unfolding location_only
returns c = cc
