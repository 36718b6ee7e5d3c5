use Rattle.batch.proofs.Laws.{both, not_first}
use borrow.Author.Rules.{rules}
use Rattle.record.proofs.Chain.{chain}
use Rattle.batch.specs.Walk.{lack_reason}
use Rattle.batch.proofs.payment.lack_reason.Goals as goal

pub returns-then-payment-eq0 : goal.returns-then-payment-eq0
unfolding lack_reason
returns-then-payment-eq0 c = search (rules, chain, both, not_first)

pub returns-else-payment-eq0 : goal.returns-else-payment-eq0
unfolding lack_reason
returns-else-payment-eq0 c = search (rules, chain, both, not_first)

pub returns-else-context : goal.returns-else-context
unfolding lack_reason
returns-else-context c = search (rules, chain, both, not_first)
