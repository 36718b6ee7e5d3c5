use Rattle.nesting.specs.Reader.{takes_party}
use Rattle.record.proofs.Chain.{chain, reads}
use borrow.Author.Rules.{rules}
use Rattle.nesting.proofs.reader.may_take_party.Goals as goal

pub returns-then-state-eq0 : goal.returns-then-state-eq0
unfolding takes_party
returns-then-state-eq0 c = search (rules, chain, reads)

pub returns-else-state-eq0 : goal.returns-else-state-eq0
unfolding takes_party
returns-else-state-eq0 c = search (rules, chain, reads)
