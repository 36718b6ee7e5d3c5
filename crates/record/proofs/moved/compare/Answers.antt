use Rattle.record.proofs.Moving.{order_stays}
use borrow.Author.Rules.{rules}
use Rattle.record.proofs.moved.compare.Goals as goal

pub returns-then-stands-2 : goal.returns-then-stands-2
returns-then-stands-2 c = search (rules, order_stays)

pub returns : goal.returns
returns c = cc
