use Rattle.tables.proofs.Seeks.{value_start, value_end, ordered_values, ordered_kinds}
use borrow.Author.Rules.{rules}
use Rattle.tables.proofs.compare.Goals as goal

pub fields_order-requires : goal.fields_order-requires
fields_order-requires c = search (rules, value_start, value_end)

pub returns-in-Value : goal.returns-in-Value
returns-in-Value c = search (rules, ordered_values)

pub returns-in-Kind : goal.returns-in-Kind
returns-in-Kind c = search (rules, ordered_kinds)
