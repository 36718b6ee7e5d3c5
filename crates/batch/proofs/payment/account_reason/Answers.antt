use Rattle.batch.proofs.Rooms.{sum_room, amount_room}
use Rattle.money.proofs.Amounts.{whole_of}
use Rattle.batch.proofs.Laws.{sum_told}
use Rattle.record.proofs.Chain.{chain, reads}
use Rattle.batch.specs.Walk.{account_reason}
use borrow.Author.Rules.{rules}
use Rattle.batch.proofs.payment.account_reason.Goals as goal

pub returns-then-payment-eq0 : goal.returns-then-payment-eq0
unfolding account_reason
returns-then-payment-eq0 c = search (rules, chain, reads, sum_told)

pub plus-lone-requires : goal.plus-lone-requires
plus-lone-requires c = search (rules, sum_room)

pub is_equal-requires : goal.is_equal-requires
is_equal-requires c = search (rules, whole_of)

pub returns-then-is_equal : goal.returns-then-is_equal
unfolding account_reason
returns-then-is_equal c = search (rules, chain, reads, sum_told)

pub returns-then-payment-eq1 : goal.returns-then-payment-eq1
unfolding account_reason
returns-then-payment-eq1 c = search (rules, chain, reads, sum_told)

pub comes_to-requires : goal.comes_to-requires
comes_to-requires c = search (rules, amount_room)

pub returns-then-comes_to : goal.returns-then-comes_to
unfolding account_reason
returns-then-comes_to c = search (rules, chain, reads, sum_told)

pub returns : goal.returns
unfolding account_reason
returns c = search (rules, chain, reads, sum_told)
