use Rattle.record.specs.Moved.{in_back}
use Rattle.record.proofs.Moving.{back_none, back_is}
use mathlib.Core.Logic.{inl, inr}
use borrow.Author.Rules.{rules}
use Rattle.record.proofs.moved.ends.Goals as goal

pub returns-in-Fixed : goal.returns-in-Fixed
unfolding in_back
returns-in-Fixed c = elim c.in-Fixed.is [ inl e ↦ rw e | inr e ↦ rw e ]

pub returns-then-place-gt0 : goal.returns-then-place-gt0
returns-then-place-gt0 c = search (rules, back_is)

pub returns-else-place-gt0 : goal.returns-else-place-gt0
returns-else-place-gt0 c = search (rules, back_none)
