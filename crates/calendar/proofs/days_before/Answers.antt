use Rattle.calendar.proofs.Counts.{before_early, before_leap, before_common}
use borrow.Author.Rules.{rules}
use Rattle.calendar.proofs.days_before.Goals as goal

pub returns-then-month-le2 : goal.returns-then-month-le2
returns-then-month-le2 c = search (rules, before_early)

pub returns-then-is_leap : goal.returns-then-is_leap
returns-then-is_leap c = search (rules, before_leap)

pub returns : goal.returns
returns c = search (rules, before_common)
