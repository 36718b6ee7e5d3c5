use Rattle.money.proofs.Amounts.{entered_negative, entered_positive}
use borrow.Author.Rules.{rules}
use Rattle.money.proofs.enter.Goals as goal

pub returns-then-negative : goal.returns-then-negative
returns-then-negative c = search (rules, entered_negative)

pub returns : goal.returns
returns c = search (rules, entered_positive)
