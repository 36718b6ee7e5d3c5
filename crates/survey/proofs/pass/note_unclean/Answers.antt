use mathlib.Core.Logic.{inl, inr}
use Rattle.record.proofs.Chain.{told}
use Rattle.characters.proofs.Stretches.{valid_clean}
use Rattle.survey.proofs.Steps.{known_stays, known_first}
use Rattle.survey.proofs.pass.note_unclean.Goals as goal
use Rattle.survey.proofs.pass.note_unclean.Goals.{then-is_some-via-then-is_some, then-is_some-via-else-is_some+then-high, then-is_some-via-else-is_some+else-high+then-is_clean}

pub returns-then-is_some : goal.returns-then-is_some
returns-then-is_some c =
    known_stays _ _ _
    (elim c.then-is_some.branch [
      | then-is_some-via-then-is_some w ↦ inl (told _ _ _ c.is_some.ensures w.if-is_some.true)
      | then-is_some-via-else-is_some+then-high w ↦ inr (valid_clean _ (c.requires.2 w.if-high.true))
      | then-is_some-via-else-is_some+else-high+then-is_clean w ↦ inr (told _ _ _ w.is_clean.ensures w.if-is_clean.true)
    ])

pub returns : goal.returns
returns c = known_first _ _ _ (told _ _ _ c.is_some.ensures c.if-is_some.false) (told _ _ _ c.is_clean.ensures c.if-is_clean.false)
