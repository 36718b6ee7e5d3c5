use Rattle.money.specs.Money.{split}
use Rattle.batch.specs.Walk.{opened}
use Rattle.batch.proofs.payment.begin.Goals as goal

pub returns : goal.returns
unfolding opened split
returns c = cc
