use Rattle.calendar.proofs.Spans.{back_ahead, back_back}
use borrow.Author.Rules.{rules}
use Rattle.calendar.proofs.limits.back_at_most.Goals as goal

pub returns-in-Ahead : goal.returns-in-Ahead
returns-in-Ahead c = search (rules, back_ahead)

pub returns-in-Back : goal.returns-in-Back
returns-in-Back c = search (rules, back_back)
