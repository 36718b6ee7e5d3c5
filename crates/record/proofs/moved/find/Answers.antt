use Rattle.record.specs.Place.{Within}
use Rattle.record.proofs.Moving.{found_blank, found_text, found_as, found_padded, found_fixed}
use borrow.Author.Rules.{rules}
use Rattle.record.proofs.moved.find.Goals as goal

pub returns-then-from-place : goal.returns-then-from-place
returns-then-from-place c = search (rules, found_blank)

pub move_left-requires-in-Text : goal.move_left-requires-in-Text
unfolding Within
move_left-requires-in-Text c = search rules

pub move_right-requires : goal.move_right-requires
unfolding Within
move_right-requires c = search rules

pub returns-in-Text : goal.returns-in-Text
returns-in-Text c = search (rules, found_text)

pub returns-in-Number : goal.returns-in-Number
returns-in-Number c = search (rules, found_as)

pub returns-in-Right : goal.returns-in-Right
returns-in-Right c = search (rules, found_padded)

pub returns-in-Fixed : goal.returns-in-Fixed
returns-in-Fixed c = search (rules, found_fixed)
