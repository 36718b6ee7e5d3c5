use Rattle.record.proofs.Leaves.{copy_moved, copy_stands, copy_plain}
use borrow.Author.Rules.{rules}
use Rattle.record.proofs.copy_field.Goals as goal

pub returns-then-line : goal.returns-then-line
returns-then-line c = search (rules, copy_moved)

pub returns-then-stands : goal.returns-then-stands
returns-then-stands c = search (rules, copy_stands, copy_plain)

pub returns : goal.returns
returns c = search (rules, copy_moved)
