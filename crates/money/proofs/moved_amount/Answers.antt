use Rattle.money.proofs.Amounts.{amount_read, amount_none}
use Rattle.record.proofs.Chain.{told}
use borrow.Author.Rules.{rules}
use Rattle.money.proofs.moved_amount.Goals as goal

pub part_number-high-requires : goal.part_number-high-requires
part_number-high-requires c = search (rules, told)

pub part_number-low-requires : goal.part_number-low-requires
part_number-low-requires c = search (rules, told)

pub returns-then-field_digits : goal.returns-then-field_digits
returns-then-field_digits c = search (rules, amount_read)

pub returns : goal.returns
returns c = search (rules, amount_none)
