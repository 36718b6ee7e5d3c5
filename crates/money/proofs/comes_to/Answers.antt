use Rattle.money.proofs.Amounts.{whole_of, came_to}
use borrow.Author.Rules.{rules}
use Rattle.money.proofs.comes_to.Goals as goal

pub is_equal-requires : goal.is_equal-requires
is_equal-requires c = search (rules, whole_of)

pub returns : goal.returns
returns c = search (rules, came_to)
