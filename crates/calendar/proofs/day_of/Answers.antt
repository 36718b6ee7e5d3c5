use borrow.Author.Rules.{rules}
use Rattle.calendar.proofs.Counts.{date_part, date_bounds, day_read}
use Rattle.calendar.proofs.day_of.Goals as goal

pub written_number-year-requires : goal.written_number-year-requires
written_number-year-requires c = search (rules, date_part)

pub written_number-month-requires : goal.written_number-month-requires
written_number-month-requires c = search (rules, date_part)

pub written_number-day-requires : goal.written_number-day-requires
written_number-day-requires c = search (rules, date_part)

pub day_number-number-requires : goal.day_number-number-requires
day_number-number-requires c =
    date_bounds _ c.requires.2 _ _ _ c.written_number-year.ensures c.written_number-month.ensures c.written_number-day.ensures

pub returns : goal.returns
returns c = search (rules, day_read)
