use Rattle.calendar.specs.Clock.{first_day}
use borrow.Author.Rules.{rules}
use Rattle.calendar.proofs.clock.first_day.Goals as goal

pub returns : goal.returns
unfolding first_day
returns c = search rules
