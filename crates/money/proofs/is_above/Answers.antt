use Rattle.money.proofs.Amounts.{above_told}
use Rattle.money.proofs.is_above.Goals as goal

pub returns : goal.returns
returns c = above_told _ _ c.requires.0 c.requires.1 _ c.gt.ensures
