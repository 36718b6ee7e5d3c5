use Rattle.survey.proofs.Details.{some_amount, no_amount}
use borrow.Author.Rules.{rules}
use Rattle.survey.proofs.pass.detail_amount.Goals as goal

pub returns-then-is_detail : goal.returns-then-is_detail
returns-then-is_detail c = search (rules, some_amount)

pub returns : goal.returns
returns c = search (rules, no_amount)
