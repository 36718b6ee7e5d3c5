use native.Mathlib.Omega.{arith}
use Rattle.std.proofs.lemmas.Bool.Decides.{nat_tests}
use Rattle.record.specs.Choice.{◌and◌, ◌or◌}
use Rattle.calendar.specs.Calendar.{leap}
use Rattle.calendar.proofs.is_leap.Goals as goal

pub returns-then-year-ne0 : goal.returns-then-year-ne0
unfolding leap ◌and◌ ◌or◌
returns-then-year-ne0 c = grind (arith, nat_tests)

pub returns-else-year-ne0 : goal.returns-else-year-ne0
unfolding leap ◌and◌ ◌or◌
returns-else-year-ne0 c = grind (arith, nat_tests)

pub returns-else-year-eq0 : goal.returns-else-year-eq0
unfolding leap ◌and◌ ◌or◌
returns-else-year-eq0 c = grind (arith, nat_tests)
