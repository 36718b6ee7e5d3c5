use Rattle.tables.proofs.Comparing.{has_start, has_end, left_from, left_found, left_next, left_end}
use borrow.Author.Rules.{rules}
use Rattle.tables.proofs.kind.kind_order.Goals as goal

pub loop-k-init : goal.loop-k-init
loop-k-init c = search (rules, left_from)

pub fields_order-requires : goal.fields_order-requires
fields_order-requires c = search (rules, has_start, has_end)

pub returns-in_default : goal.returns-in_default
returns-in_default c = search (rules, left_found)

pub loop-k-preserved : goal.loop-k-preserved
loop-k-preserved c = search (rules, left_next)

pub returns : goal.returns
returns c = search (rules, left_end)
