use Rattle.record.specs.Moved.{in_front}
use Rattle.record.proofs.Moving.{front_none, front_is}
use borrow.Author.Rules.{rules}
use Rattle.record.proofs.moved.begins.Goals as goal

pub returns-in-Fixed : goal.returns-in-Fixed
unfolding in_front
returns-in-Fixed c = cc

pub returns-then-place-gt0 : goal.returns-then-place-gt0
returns-then-place-gt0 c = search (rules, front_is)

pub returns-else-place-gt0 : goal.returns-else-place-gt0
returns-else-place-gt0 c = search (rules, front_none)
