use native.Mathlib.Omega.{arith}
use Rattle.std.proofs.lemmas.Bool.Decides.{nat_tests}
use Rattle.record.specs.Choice.{◌and◌}
use Rattle.calendar.proofs.Spans.{lent_read}
use Rattle.calendar.specs.Clock.{lent_day}
use borrow.Author.Rules.{rules}
use Rattle.calendar.proofs.clock.is_day.Goals as goal

pub returns-then-lent-eq8 : goal.returns-then-lent-eq8
returns-then-lent-eq8 c = search (rules, lent_read)

pub returns-else-lent-eq8 : goal.returns-else-lent-eq8
unfolding lent_day ◌and◌
returns-else-lent-eq8 c = grind (arith, nat_tests)
