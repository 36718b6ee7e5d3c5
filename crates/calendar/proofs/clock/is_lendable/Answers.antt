use native.Mathlib.Omega.{arith}
use Rattle.std.proofs.lemmas.Bool.Decides.{nat_tests}
use Rattle.record.specs.Choice.{◌or◌}
use Rattle.calendar.specs.Clock.{lendable}
use Rattle.calendar.proofs.clock.is_lendable.Goals as goal

pub returns-then-is_empty : goal.returns-then-is_empty
unfolding lendable ◌or◌
returns-then-is_empty c = grind (arith, nat_tests)

pub returns-else-is_empty : goal.returns-else-is_empty
unfolding lendable ◌or◌
returns-else-is_empty c = grind (arith, nat_tests)
