use Rattle.record.proofs.Chain.{choose_yes, choose_no}
use borrow.Author.Rules.{rules}
use Rattle.record.proofs.place.sent_as.Goals as goal

pub returns-then-place : goal.returns-then-place
returns-then-place c = search (rules, choose_yes)

pub returns-else-place : goal.returns-else-place
returns-else-place c = search (rules, choose_no)
