use Rattle.calendar.proofs.Spans.{ahead_ahead, ahead_back}
use borrow.Author.Rules.{rules}
use Rattle.calendar.proofs.limits.ahead_at_most.Goals as goal

pub returns-in-Ahead : goal.returns-in-Ahead
returns-in-Ahead c = search (rules, ahead_ahead)

pub returns-in-Back : goal.returns-in-Back
returns-in-Back c = search (rules, ahead_back)
