use Rattle.nesting.specs.Reader.{takes_account}
use Rattle.record.proofs.Chain.{chain, reads}
use borrow.Author.Rules.{rules}
use Rattle.nesting.proofs.reader.may_take_account.Goals as goal

pub returns-then-state-eq0 : goal.returns-then-state-eq0
unfolding takes_account
returns-then-state-eq0 c = search (rules, chain, reads)

pub returns-else-state-eq0 : goal.returns-else-state-eq0
unfolding takes_account
returns-else-state-eq0 c = search (rules, chain, reads)
