use Rattle.record.proofs.Leaves.{solid_sees, solid_fails, solid_of}
use mathlib.Core.Bool.{false}
use borrow.Author.Rules.{rules}
use Rattle.record.proofs.field_solid.Goals as goal

pub returns-then-is_solid : goal.returns-then-is_solid
returns-then-is_solid c = search (rules, solid_sees)

pub returns-in-Some : goal.returns-in-Some
returns-in-Some c = solid_of _ _ _ c.locate-place.ensures.holds _ _ c.in-Some.ensures.1 c.is_solid-in-Some.ensures

pub returns-in-None : goal.returns-in-None
returns-in-None c = solid_fails _ _ _ c.locate-place.ensures.holds false c.in-None.ensures
