use Rattle.record.specs.Place.{Within}
use Rattle.record.proofs.Moving.{found_number, found_other}
use borrow.Author.Rules.{rules}
use Rattle.record.proofs.moved.pad.Goals as goal

pub move_right-requires : goal.move_right-requires
unfolding Within
move_right-requires c = search rules

pub returns-then-are_digits : goal.returns-then-are_digits
returns-then-are_digits c = search (rules, found_number)

pub move_left-requires : goal.move_left-requires
unfolding Within
move_left-requires c = search rules

pub returns : goal.returns
returns c = search (rules, found_other)
