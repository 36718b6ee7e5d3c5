use Rattle.page.specs.CodePage.{code_page, ebcdic, twins}
use Rattle.record.proofs.Leaves.{zeros_stand, zeros_fail, zeros_of}
use mathlib.Core.Bool.{false}
use borrow.Author.Rules.{rules}
use Rattle.record.proofs.field_zeros.Goals as goal

pub is_only-requires : goal.is_only-requires
unfolding twins ebcdic code_page
is_only-requires c = search rules

pub returns-then-stands : goal.returns-then-stands
returns-then-stands c = search (rules, zeros_stand)

pub is_only-requires-in-Some : goal.is_only-requires-in-Some
unfolding twins ebcdic code_page
is_only-requires-in-Some c = search rules

pub returns-in-Some : goal.returns-in-Some
returns-in-Some c = zeros_of _ _ _ c.locate-place.ensures.holds _ _ c.in-Some.ensures.1 c.is_only-in-Some.ensures

pub returns-in-None : goal.returns-in-None
returns-in-None c = zeros_fail _ _ _ c.locate-place.ensures.holds false c.in-None.ensures
