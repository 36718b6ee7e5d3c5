use Rattle.nesting.specs.Reader.{complete}
use Rattle.record.proofs.Chain.{chain, reads}
use borrow.Author.Rules.{rules}
use Rattle.nesting.proofs.reader.is_complete.Goals as goal

pub returns-then-is_at : goal.returns-then-is_at
unfolding complete
returns-then-is_at c = search (rules, chain, reads)

pub returns-else-is_at : goal.returns-else-is_at
unfolding complete
returns-else-is_at c = search (rules, chain, reads)
