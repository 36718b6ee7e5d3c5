use Rattle.record.proofs.Leaves.{digits_see, digits_fail, digits_of}
use mathlib.Core.Bool.{false}
use mathlib.Core.Path.{refl, ap, ◌∙◌}
use Rattle.record.specs.Tests.{digits}
use Rattle.record.proofs.Every.{whole}
use borrow.Author.Rules.{rules}
use Rattle.record.proofs.field_digits.Goals as goal

pub returns-then-are_digits : goal.returns-then-are_digits
returns-then-are_digits c = search (rules, digits_see)

pub returns-in-Some : goal.returns-in-Some
returns-in-Some c = digits_of _ _ _ c.locate-place.ensures.holds _ _ c.in-Some.ensures.1 (c.are_digits-in-Some.ensures ∙ ap digits (whole _ _ _ c.in-Some.ensures.0 refl))

pub returns-in-None : goal.returns-in-None
returns-in-None c = digits_fail _ _ _ c.locate-place.ensures.holds false c.in-None.ensures
