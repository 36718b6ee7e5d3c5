use Rattle.record.proofs.Chain.{chain, reads}
use Rattle.batch.specs.Walk.{procurement_reason}
use borrow.Author.Rules.{rules}
use Rattle.batch.proofs.payment.procurement_reason.Goals as goal

pub returns-then-payment-eq0 : goal.returns-then-payment-eq0
unfolding procurement_reason
returns-then-payment-eq0 c = search (rules, chain, reads)

pub returns-then-is_lone_blank : goal.returns-then-is_lone_blank
unfolding procurement_reason
returns-then-is_lone_blank c = search (rules, chain, reads)

pub returns-then-is_equal : goal.returns-then-is_equal
unfolding procurement_reason
returns-then-is_equal c = search (rules, chain, reads)

pub returns : goal.returns
unfolding procurement_reason
returns c = search (rules, chain, reads)
