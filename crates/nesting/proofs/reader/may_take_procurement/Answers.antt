use Rattle.nesting.specs.Reader.{takes_procurement}
use Rattle.record.proofs.Chain.{chain, reads}
use borrow.Author.Rules.{rules}
use Rattle.nesting.proofs.reader.may_take_procurement.Goals as goal

pub returns-then-is_complete : goal.returns-then-is_complete
unfolding takes_procurement
returns-then-is_complete c = search (rules, chain, reads)

pub returns-else-is_complete : goal.returns-else-is_complete
unfolding takes_procurement
returns-else-is_complete c = search (rules, chain, reads)
