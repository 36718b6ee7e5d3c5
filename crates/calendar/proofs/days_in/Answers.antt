use Rattle.calendar.proofs.Days.{no_month_below, no_month_above, february_leap, february, thirty, thirty_one}
use borrow.Author.Rules.{rules}
use Rattle.calendar.proofs.days_in.Goals as goal

pub returns-then-is_leap : goal.returns-then-is_leap
returns-then-is_leap c = search (rules, february_leap)

pub returns-else-is_leap : goal.returns-else-is_leap
returns-else-is_leap c = search (rules, february)

pub returns-in-4 : goal.returns-in-4
returns-in-4 c = search (rules, thirty)

pub returns-in_default : goal.returns-in_default
returns-in_default c = search (rules, no_month_below)

pub returns-in_default-2 : goal.returns-in_default-2
returns-in_default-2 c = search (rules, no_month_above)

pub returns-in-1-to-12 : goal.returns-in-1-to-12
returns-in-1-to-12 c = search (rules, thirty_one)

pub returns-in-1-to-12-2 : goal.returns-in-1-to-12-2
returns-in-1-to-12-2 c = search (rules, thirty_one)
