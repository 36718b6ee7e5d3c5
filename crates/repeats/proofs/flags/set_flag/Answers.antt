use Rattle.record.proofs.Chain.{chain}
use borrow.Author.Rules.{rules}
use Rattle.repeats.proofs.flags.set_flag.Goals as goal

pub returns-then-after-index : goal.returns-then-after-index
returns-then-after-index c = search (rules, chain)

pub bounds-flags-index : goal.bounds-flags-index
bounds-flags-index c = let h = c.requires (search rules) in search rules

pub returns-then-known : goal.returns-then-known
returns-then-known c = search (rules, chain)

pub returns-else-known : goal.returns-else-known
returns-else-known c = search (rules, chain)
