use Rattle.record.proofs.Held.{unreadable, readable_of}
use borrow.Author.Rules.{rules}
use Rattle.record.proofs.is_readable.Goals as goal

pub returns-then-not-line : goal.returns-then-not-line
returns-then-not-line c = search (rules, readable_of)

pub returns-else-not-line : goal.returns-else-not-line
returns-else-not-line c = search (rules, unreadable)
