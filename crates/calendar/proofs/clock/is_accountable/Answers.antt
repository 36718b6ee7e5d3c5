use native.Mathlib.Omega.{arith}
use Rattle.std.proofs.lemmas.Bool.Decides.{nat_tests}
use Rattle.record.specs.Choice.{◌and◌}
use Rattle.calendar.specs.Clock.{accountable}
use Rattle.calendar.proofs.clock.is_accountable.Goals as goal

pub returns-then-back_at_most : goal.returns-then-back_at_most
unfolding accountable ◌and◌
returns-then-back_at_most c = grind (arith, nat_tests)

pub returns-else-back_at_most : goal.returns-else-back_at_most
unfolding accountable ◌and◌
returns-else-back_at_most c = grind (arith, nat_tests)
