use Rattle.record.proofs.Chain.{chain}
use Rattle.calendar.specs.Clock.{difference}
use borrow.Author.Rules.{rules}
use Rattle.calendar.proofs.limits.difference.Goals as goal

pub returns-then-today-day : goal.returns-then-today-day
unfolding difference
returns-then-today-day c = search (rules, chain) depth 20

pub returns : goal.returns
unfolding difference
returns c = search (rules, chain) depth 20
