use mathlib.Core.Path.{refl}
use Rattle.record.specs.Place.{Within}
use Rattle.record.proofs.Every.{value_plain}
use Rattle.record.proofs.Sent.{within_plain}
use borrow.Author.Rules.{rules}
use Rattle.record.proofs.place.sent_byte.Goals as goal

pub overflow_add-result : goal.overflow_add-result
unfolding Within
overflow_add-result c = search rules

pub bounds-rec-place : goal.bounds-rec-place
unfolding Within
bounds-rec-place c = search rules

pub returns : goal.returns
returns c = value_plain _ _ _ (within_plain _ _ c.requires.0) c.requires.1 refl
