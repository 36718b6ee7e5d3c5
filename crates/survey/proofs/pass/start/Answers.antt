use Rattle.money.specs.Money.{split}
use Rattle.survey.specs.Pass.{begun}
use Rattle.survey.proofs.pass.start.Goals as goal

pub returns : goal.returns
unfolding begun split
returns c = cc
