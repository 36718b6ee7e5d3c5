use Rattle.nesting.specs.Reader.{opens_batch}
use Rattle.record.proofs.Chain.{chain, reads}
use borrow.Author.Rules.{rules}
use Rattle.nesting.proofs.reader.may_open_batch.Goals as goal

pub returns-then-is_at : goal.returns-then-is_at
unfolding opens_batch
returns-then-is_at c = search (rules, chain, reads)

pub returns-then-is_at-2 : goal.returns-then-is_at-2
unfolding opens_batch
returns-then-is_at-2 c = search (rules, chain, reads)

pub returns-else-is_at-2 : goal.returns-else-is_at-2
unfolding opens_batch
returns-else-is_at-2 c = search (rules, chain, reads)
