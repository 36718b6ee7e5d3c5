use Rattle.record.proofs.Chain.{and_no, told}
use Rattle.calendar.specs.Calendar.{dashed_date}
use Rattle.calendar.proofs.Dates.{year_digits, month_digits, day_digits, dashed_read}
use borrow.Author.Rules.{rules}
use Rattle.calendar.proofs.date_ccyy_mm_dd.Goals as goal

pub written_number-year-requires : goal.written_number-year-requires
written_number-year-requires c = search (rules, year_digits)

pub written_number-month-requires : goal.written_number-month-requires
written_number-month-requires c = search (rules, month_digits)

pub written_number-day-requires : goal.written_number-day-requires
written_number-day-requires c = search (rules, day_digits)

pub returns-then-has_dashes : goal.returns-then-has_dashes
returns-then-has_dashes c = search (rules, dashed_read)

pub returns : goal.returns
unfolding dashed_date
returns c = and_no _ _ (search told)
