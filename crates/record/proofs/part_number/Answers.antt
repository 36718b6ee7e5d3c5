use Rattle.record.proofs.Leaves.{digits_held, number_stands, digits_moved, number_moved}
use borrow.Author.Rules.{rules}
use Rattle.record.proofs.part_number.Goals as goal

pub number-requires : goal.number-requires
number-requires c = search (rules, digits_held)

pub returns-then-stands : goal.returns-then-stands
returns-then-stands c = search (rules, number_stands)

pub number-requires-2 : goal.number-requires-2
number-requires-2 c = search (rules, digits_moved)

pub returns : goal.returns
returns c = search (rules, number_moved)
