use Rattle.verdict.specs.Order.{length_reason}
use Rattle.record.proofs.Chain.{chain, reads}
use borrow.Author.Rules.{rules}
use Rattle.verdict.proofs.length_reason.Goals as goal

pub returns-then-file-eq0 : goal.returns-then-file-eq0
unfolding length_reason
returns-then-file-eq0 c = search (rules, chain, reads)

pub returns-then-file-ne0 : goal.returns-then-file-ne0
unfolding length_reason
returns-then-file-ne0 c = search (rules, chain, reads)

pub returns-then-file-gt55704750 : goal.returns-then-file-gt55704750
unfolding length_reason
returns-then-file-gt55704750 c = search (rules, chain, reads)

pub returns : goal.returns
unfolding length_reason
returns c = search (rules, chain, reads)
