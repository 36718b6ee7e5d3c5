use Rattle.record.proofs.Copies.{value_copied, value_shown}
use borrow.Author.Rules.{rules}
use Rattle.record.proofs.place.copy.Goals as goal

pub returns-then-place : goal.returns-then-place
returns-then-place c = search (rules, value_shown)

pub returns-else-place : goal.returns-else-place
returns-else-place c = search (rules, value_copied)
