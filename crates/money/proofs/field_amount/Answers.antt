use Rattle.money.proofs.Amounts.{amount_low, amount_stands}
use Rattle.record.proofs.Chain.{told}
use borrow.Author.Rules.{rules}
use Rattle.money.proofs.field_amount.Goals as goal

pub written_number-low-requires : goal.written_number-low-requires
written_number-low-requires c = (search rules, search rules, search rules, search rules, told c.written_digits.result _ _ c.written_digits.ensures c.if-written_digits.true)

pub returns-then-written_digits : goal.returns-then-written_digits
returns-then-written_digits c = search (rules, amount_low)

pub written_number-high-requires : goal.written_number-high-requires
written_number-high-requires c = search (rules, told)

pub written_number-low-requires-then-written_digits-3 : goal.written_number-low-requires-then-written_digits-3
written_number-low-requires-then-written_digits-3 c = search (rules, told)

pub returns-then-written_digits-3 : goal.returns-then-written_digits-3
returns-then-written_digits-3 c = search (rules, amount_stands)
