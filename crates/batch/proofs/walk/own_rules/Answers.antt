use Rattle.batch.proofs.Laws.{own_lone, own_other}
use borrow.Author.Rules.{rules}
use Rattle.batch.proofs.walk.own_rules.Goals as goal

pub returns-then-payment-eq0 : goal.returns-then-payment-eq0
returns-then-payment-eq0 c = search (rules, own_lone, own_other)

pub returns : goal.returns
returns c = search (rules, own_lone, own_other)
