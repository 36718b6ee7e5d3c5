use borrow.Author.Rules.{rules}
use Rattle.record.proofs.Orders.{level_none, level_apart, level_next, level_end}
use Rattle.record.proofs.Moving.{moved_length}
use Rattle.record.proofs.moved.shown_order.Goals as goal

pub loop-i-init : goal.loop-i-init
loop-i-init c = search (rules, level_none)

pub returns-in_default : goal.returns-in_default
returns-in_default c = search (rules, level_apart, moved_length)

pub loop-i-preserved : goal.loop-i-preserved
loop-i-preserved c = search (rules, level_next, moved_length)

pub returns : goal.returns
returns c = search (rules, level_end, moved_length)
