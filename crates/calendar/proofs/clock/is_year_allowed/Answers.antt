use native.Mathlib.Omega.{arith}
use Rattle.std.proofs.lemmas.Bool.Decides.{nat_tests}
use Rattle.record.specs.Choice.{◌and◌, ◌or◌}
use Rattle.calendar.specs.Clock.{year_allowed}
use Rattle.calendar.proofs.clock.is_year_allowed.Goals as goal

pub returns-then-month-today : goal.returns-then-month-today
unfolding year_allowed ◌and◌ ◌or◌
returns-then-month-today c = grind (arith, nat_tests)

pub returns-then-month-eq1 : goal.returns-then-month-eq1
unfolding year_allowed ◌and◌ ◌or◌
returns-then-month-eq1 c = grind (arith, nat_tests)

pub returns-else-month-eq1 : goal.returns-else-month-eq1
unfolding year_allowed ◌and◌ ◌or◌
returns-else-month-eq1 c = grind (arith, nat_tests)
