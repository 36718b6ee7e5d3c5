use native.Mathlib.Omega.{arith}
use Rattle.std.proofs.lemmas.Bool.Decides.{nat_tests}
use Rattle.record.specs.Choice.{◌and◌}
use Rattle.calendar.specs.Calendar.{real_day}
use Rattle.calendar.proofs.is_real_day.Goals as goal

pub returns-then-day-ge1 : goal.returns-then-day-ge1
unfolding real_day ◌and◌
returns-then-day-ge1 c = grind (arith, nat_tests)

pub returns-else-day-ge1 : goal.returns-else-day-ge1
unfolding real_day ◌and◌
returns-else-day-ge1 c = grind (arith, nat_tests)
