use Rattle.record.proofs.Chain.{chain}
use borrow.Author.Rules.{rules}
use Rattle.repeats.proofs.flags.kept_index.Goals as goal

pub returns-then-place-next : goal.returns-then-place-next
returns-then-place-next c = search (rules, chain)

pub returns : goal.returns
returns c = search (rules, chain)
