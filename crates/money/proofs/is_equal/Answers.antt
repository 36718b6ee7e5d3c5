use Rattle.money.proofs.Amounts.{equal_told}
use Rattle.money.proofs.is_equal.Goals as goal

pub returns : goal.returns
returns c = equal_told _ _ c.requires.0 c.requires.1 _ c.eq.ensures
