use borrow.Author.Rules.{rules}
use Rattle.record.proofs.Chain.{chain}
use Rattle.record.proofs.place.printable.Goals as goal

pub returns-then-b-le126 : goal.returns-then-b-le126
returns-then-b-le126 c = search (rules, chain)

pub returns-else-b-le126 : goal.returns-else-b-le126
returns-else-b-le126 c = search (rules, chain)
