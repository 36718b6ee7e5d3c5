use native.Mathlib.Omega.{arith}
use Rattle.std.proofs.lemmas.Bool.Decides.{nat_tests}
use Rattle.record.specs.Choice.{◌and◌}
use Rattle.calendar.specs.Clock.{issued}
use Rattle.calendar.proofs.clock.is_issued.Goals as goal

pub returns-then-back_at_most : goal.returns-then-back_at_most
unfolding issued ◌and◌
returns-then-back_at_most c = grind (arith, nat_tests)

pub returns-else-back_at_most : goal.returns-else-back_at_most
unfolding issued ◌and◌
returns-else-back_at_most c = grind (arith, nat_tests)
