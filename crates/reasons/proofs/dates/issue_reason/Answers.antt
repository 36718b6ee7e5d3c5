use mathlib.Core.Path.{refl}
use Rattle.record.specs.Choice.{choose}
use Rattle.record.proofs.Chain.{choose_yes, choose_no}
use Rattle.calendar.specs.Clock.{issued}
use Rattle.reasons.specs.Reasons.{in_month}
use Rattle.reasons.proofs.Times.{day_told}
use Rattle.reasons.proofs.dates.issue_reason.Goals as goal

pub returns-in_default : goal.returns-in_default
unfolding in_month choose
returns-in_default c = rw c.in_default.is

pub returns-then-is_issued : goal.returns-then-is_issued
unfolding in_month
returns-then-is_issued c =
    rw c.in-Some.is (choose_yes _ _ _ _ (day_told _ _ c.requires.2 (issued _ _) _ _ _ c.day_of-day.ensures c.is_issued.ensures c.if-is_issued.true) refl)

pub returns : goal.returns
unfolding in_month
returns c = rw c.in-Some.is (choose_no _ _ _ _ (day_told _ _ c.requires.2 (issued _ _) _ _ _ c.day_of-day.ensures c.is_issued.ensures c.if-is_issued.false) refl)
