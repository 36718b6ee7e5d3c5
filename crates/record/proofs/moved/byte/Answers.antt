use Rattle.record.proofs.Moving.{moved_translated, moved_plain}
use borrow.Author.Rules.{rules}
use Rattle.record.proofs.moved.byte.Goals as goal

pub returns-then-moved : goal.returns-then-moved
returns-then-moved c = search (rules, moved_translated)

pub returns-else-moved : goal.returns-else-moved
returns-else-moved c = search (rules, moved_plain)
