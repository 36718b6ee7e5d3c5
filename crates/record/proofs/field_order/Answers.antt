use Rattle.record.proofs.Sent.{whole_sent}
use Rattle.record.proofs.Leaves.{order_readable, order_text}
use borrow.Author.Rules.{rules}
use Rattle.record.proofs.field_order.Goals as goal

pub returns-then-is_readable : goal.returns-then-is_readable
returns-then-is_readable c = search (rules, order_readable, whole_sent)

pub returns : goal.returns
returns c = search (rules, order_text)
