use mathlib.Core.Path.{refl}
use Rattle.record.proofs.Chain.{choose_yes, choose_no}
use Rattle.calendar.specs.Clock.{created}
use Rattle.reasons.proofs.Times.{day_told}
use Rattle.reasons.proofs.dates.creation_reason.Goals as goal

pub returns-then-is_created : goal.returns-then-is_created
returns-then-is_created c = choose_yes _ _ _ _ (day_told _ _ c.requires.2 (created _) _ _ _ c.day_of-day.ensures c.is_created.ensures c.if-is_created.true) refl

pub returns : goal.returns
returns c = choose_no _ _ _ _ (day_told _ _ c.requires.2 (created _) _ _ _ c.day_of-day.ensures c.is_created.ensures c.if-is_created.false) refl
