use Rattle.record.proofs.Leaves.{same_both, same_moved}
use borrow.Author.Rules.{rules}
use Rattle.record.proofs.fields_same.Goals as goal

pub returns-then-are_readable : goal.returns-then-are_readable
returns-then-are_readable c = search (rules, same_both)

pub returns : goal.returns
returns c = search (rules, same_moved)
