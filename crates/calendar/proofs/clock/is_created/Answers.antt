use Rattle.calendar.proofs.Spans.{created_is}
use borrow.Author.Rules.{rules}
use Rattle.calendar.proofs.clock.is_created.Goals as goal

pub returns : goal.returns
returns c = search (rules, created_is)
