use Rattle.record.proofs.Chain.{and_no, told}
use Rattle.calendar.specs.Calendar.{plain_date}
use Rattle.record.proofs.Every.{digits_part}
use Rattle.calendar.proofs.Dates.{plain_read, eight}
use borrow.Author.Rules.{rules}
use Rattle.calendar.proofs.date_yyyymmdd.Goals as goal

pub written_number-year-requires : goal.written_number-year-requires
written_number-year-requires c = search (rules, digits_part, eight)

pub written_number-month-requires : goal.written_number-month-requires
written_number-month-requires c = search (rules, digits_part, eight)

pub written_number-day-requires : goal.written_number-day-requires
written_number-day-requires c = search (rules, digits_part, eight)

pub returns-then-written_digits : goal.returns-then-written_digits
returns-then-written_digits c = search (rules, plain_read, eight)

pub returns : goal.returns
unfolding plain_date
returns c = and_no _ _ (search (rules, told, eight))
