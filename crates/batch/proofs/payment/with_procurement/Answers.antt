use Rattle.batch.proofs.Laws.{procured_first, procured_later}
use borrow.Author.Rules.{rules}
use Rattle.batch.proofs.payment.with_procurement.Goals as goal

pub returns-then-payment-eq0 : goal.returns-then-payment-eq0
returns-then-payment-eq0 c = search (rules, procured_first, procured_later)

pub returns : goal.returns
returns c = search (rules, procured_first, procured_later)
