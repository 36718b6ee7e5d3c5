use Rattle.record.proofs.Chain.{told, and_no, and_yes}
use borrow.Author.Rules.{rules}
use Rattle.record.proofs.are_readable.Goals as goal

pub returns-then-is_readable : goal.returns-then-is_readable
returns-then-is_readable c = search (rules, told, and_yes)

pub returns-else-is_readable : goal.returns-else-is_readable
returns-else-is_readable c = search (rules, told, and_no)
