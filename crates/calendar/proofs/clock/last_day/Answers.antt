use Rattle.calendar.proofs.Counts.{days_few}
use Rattle.calendar.specs.Clock.{last_day}
use borrow.Author.Rules.{rules}
use Rattle.calendar.proofs.clock.last_day.Goals as goal

pub day_number-requires : goal.day_number-requires
day_number-requires c = search (rules, days_few)

pub returns : goal.returns
unfolding last_day
returns c = cc
