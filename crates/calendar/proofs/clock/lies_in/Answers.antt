use native.Mathlib.Omega.{arith}
use Rattle.std.proofs.lemmas.Bool.Decides.{nat_tests}
use Rattle.record.specs.Choice.{◌and◌}
use Rattle.calendar.specs.Clock.{lies_in}
use Rattle.calendar.proofs.clock.lies_in.Goals as goal

pub returns-then-day-month : goal.returns-then-day-month
unfolding lies_in ◌and◌
returns-then-day-month c = grind (arith, nat_tests)

pub returns-else-day-month : goal.returns-else-day-month
unfolding lies_in ◌and◌
returns-else-day-month c = grind (arith, nat_tests)
