use Rattle.batch.proofs.Laws.{paying}
use borrow.Author.Rules.{rules}
use Rattle.batch.proofs.walk.paying_context.Goals as goal

pub returns : goal.returns
returns c = search (rules, paying)
