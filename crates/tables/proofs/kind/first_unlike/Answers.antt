use Rattle.tables.proofs.Comparing.{agreed_none, agreed_next, agreed_stop, agreed_end}
use borrow.Author.Rules.{rules}
use Rattle.tables.proofs.kind.first_unlike.Goals as goal

pub loop-i-init : goal.loop-i-init
loop-i-init c = search (rules, agreed_none)

pub returns-then-rec-i : goal.returns-then-rec-i
returns-then-rec-i c = search (rules, agreed_stop)

pub loop-i-preserved : goal.loop-i-preserved
loop-i-preserved c = search (rules, agreed_next)

pub returns : goal.returns
returns c = search (rules, agreed_end)
