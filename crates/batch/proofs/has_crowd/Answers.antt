use Rattle.record.proofs.Chain.{chain}
use Rattle.batch.proofs.Judged.{crowd_in}
use borrow.Author.Rules.{rules}
use Rattle.batch.proofs.has_crowd.Goals as goal

pub returns-then-accounts-le-MOST : goal.returns-then-accounts-le-MOST
returns-then-accounts-le-MOST c = search (rules, chain)

pub returns : goal.returns
returns c = search (rules, chain, crowd_in)
