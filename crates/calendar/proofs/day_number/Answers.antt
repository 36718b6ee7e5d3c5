use Rattle.calendar.proofs.Counts.{before_few, numbered}
use borrow.Author.Rules.{rules}
use Rattle.calendar.proofs.day_number.Goals as goal

pub overflow_add-result-2 : goal.overflow_add-result-2
overflow_add-result-2 c = let h = before_few _ _ c.requires.3 _ c.days_before.ensures in search rules

pub overflow_add-result-3 : goal.overflow_add-result-3
overflow_add-result-3 c = let h = before_few _ _ c.requires.3 _ c.days_before.ensures in search rules

pub returns : goal.returns
returns c = search (rules, numbered)
