use native.Mathlib.Omega.{arith}
use Rattle.std.proofs.lemmas.Bool.Decides.{nat_tests}
use Rattle.record.specs.Choice.{◌and◌}
use Rattle.calendar.specs.Calendar.{month_year}
use Rattle.calendar.proofs.month_mmyy.Goals as goal

pub returns-then-month-ge1 : goal.returns-then-month-ge1
unfolding month_year ◌and◌
returns-then-month-ge1 c = grind (arith, nat_tests)

pub returns-else-month-ge1 : goal.returns-else-month-ge1
unfolding month_year ◌and◌
returns-else-month-ge1 c = grind (arith, nat_tests)

pub returns : goal.returns
unfolding month_year ◌and◌
returns c = grind (arith, nat_tests)
