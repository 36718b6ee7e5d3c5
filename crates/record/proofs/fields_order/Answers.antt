use Rattle.record.proofs.Leaves.{order_both, order_moved}
use borrow.Author.Rules.{rules}
use Rattle.record.proofs.fields_order.Goals as goal

pub returns-then-are_readable : goal.returns-then-are_readable
returns-then-are_readable c = search (rules, order_both)

pub returns : goal.returns
returns c = search (rules, order_moved)
