use mathlib.Core.Path.{refl, sym, ◌∙◌}
use Rattle.record.specs.Choice.{choose}
use Rattle.record.proofs.Chain.{choose_yes, choose_no}
use Rattle.calendar.proofs.Counts.{month_bounds}
use Rattle.reasons.specs.Reasons.{in_month}
use Rattle.reasons.proofs.dates.month_reason.Goals as goal

pub returns-in_default : goal.returns-in_default
unfolding in_month choose
returns-in_default c = rw (← c.in_default.ensures)

pub is_accountable-requires : goal.is_accountable-requires
is_accountable-requires c =
    let p = c.requires in
    month_bounds _ _ _ p.0 p.1 p.2 _ (sym c.in-Some.is ∙ c.month_of.ensures)

pub returns-then-is_accountable : goal.returns-then-is_accountable
unfolding in_month
returns-then-is_accountable c =
    rw (sym (sym c.in-Some.is ∙ c.month_of.ensures)) (choose_yes _ _ _ _ (sym c.is_accountable.ensures ∙ c.if-is_accountable.true) refl)

pub returns : goal.returns
unfolding in_month
returns c =
    rw (sym (sym c.in-Some.is ∙ c.month_of.ensures)) (choose_no _ _ _ _ (sym c.is_accountable.ensures ∙ c.if-is_accountable.false) refl)
