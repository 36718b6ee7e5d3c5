use borrow.Author.Rules.{rules}
use Rattle.record.proofs.Chain.{chain}
use Rattle.batch.specs.Walk.{lone_blank}
use Rattle.batch.proofs.payment.is_lone_blank.Goals as goal

pub returns-then-payment-eq1 : goal.returns-then-payment-eq1
unfolding lone_blank
returns-then-payment-eq1 c = search (rules, chain)

pub returns : goal.returns
unfolding lone_blank
returns c = search (rules, chain)
