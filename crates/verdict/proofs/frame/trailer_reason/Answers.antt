use Rattle.verdict.proofs.Laws.{records_digits, payments_digits, compared}
use Rattle.money.proofs.Amounts.{whole_of}
use Rattle.verdict.specs.Order.{trailer_reason}
use Rattle.record.proofs.Chain.{chain, reads}
use borrow.Author.Rules.{rules}
use Rattle.verdict.proofs.frame.trailer_reason.Goals as goal

pub returns-then-not-is_numbered : goal.returns-then-not-is_numbered
unfolding trailer_reason
returns-then-not-is_numbered c = search (rules, chain, reads)

pub field_number-requires : goal.field_number-requires
field_number-requires c = search (rules, records_digits, reads)

pub returns-then-field_number-line : goal.returns-then-field_number-line
unfolding trailer_reason
returns-then-field_number-line c = search (rules, chain, reads)

pub field_number-requires-2 : goal.field_number-requires-2
field_number-requires-2 c = search (rules, payments_digits, reads)

pub returns-then-field_number-payments : goal.returns-then-field_number-payments
unfolding trailer_reason
returns-then-field_number-payments c = search (rules, chain, reads)

pub is_equal-requires : goal.is_equal-requires
is_equal-requires c = search (rules, whole_of)

pub returns-then-is_equal : goal.returns-then-is_equal
unfolding trailer_reason
returns-then-is_equal c = search (rules, chain, reads, compared)

pub returns : goal.returns
unfolding trailer_reason
returns c = search (rules, chain, reads, compared)
