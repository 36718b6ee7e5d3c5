use Rattle.record.proofs.Chain.{chain}
use borrow.Author.Rules.{rules}
use Rattle.repeats.proofs.flags.index_after.Goals as goal

pub returns-then-place-start : goal.returns-then-place-start
returns-then-place-start c = search (rules, chain)

pub returns-then-heads : goal.returns-then-heads
returns-then-heads c = search (rules, chain)

pub returns : goal.returns
returns c = search (rules, chain)
