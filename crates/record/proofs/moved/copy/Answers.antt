use Rattle.record.proofs.Moving.{moved_copied, moved_copied_shown, copy_stays, copy_found}
use borrow.Author.Rules.{rules}
use Rattle.record.proofs.moved.copy.Goals as goal

pub returns-then-stands : goal.returns-then-stands
returns-then-stands c = search (rules, copy_stays)

pub returns-then-moved : goal.returns-then-moved
returns-then-moved c = search (rules, copy_found, moved_copied_shown)

pub returns-else-moved : goal.returns-else-moved
returns-else-moved c = search (rules, copy_found, moved_copied)
