use Rattle.calendar.proofs.Spans.{unlent, lent_date, lent_eight, lent_today}
use borrow.Author.Rules.{rules}
use Rattle.calendar.proofs.clock.read_today.Goals as goal

pub day_of-requires : goal.day_of-requires
day_of-requires c =
    let e = lent_eight _ _ c.is_day.ensures c.if-is_day.true in
    search (rules, lent_date)

pub returns-then-is_day : goal.returns-then-is_day
returns-then-is_day c = search (rules, lent_today)

pub returns : goal.returns
returns c = search (rules, unlent)
