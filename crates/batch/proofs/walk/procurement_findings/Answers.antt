use Rattle.reasons.proofs.Firsts.{more}
use Rattle.batch.specs.Walk.{next_procurement}
use borrow.Author.Rules.{rules}
use Rattle.batch.proofs.walk.procurement_findings.Goals as goal

pub returns : goal.returns
unfolding next_procurement
returns c = search (rules, more)
