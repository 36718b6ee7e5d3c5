use Rattle.batch.specs.Walk.{row_at}
use Rattle.batch.proofs.row_of.Goals as goal

pub returns : goal.returns
unfolding row_at
returns c = cc
