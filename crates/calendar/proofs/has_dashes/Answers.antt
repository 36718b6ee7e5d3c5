use native.Mathlib.Omega.{arith}
use Rattle.std.proofs.lemmas.Bool.Decides.{nat_tests}
use Rattle.record.specs.Choice.{◌and◌}
use Rattle.page.specs.CodePage.{code_page, ebcdic, twins}
use Rattle.calendar.specs.Calendar.{dashes}
use borrow.Author.Rules.{rules}
use Rattle.calendar.proofs.has_dashes.Goals as goal

pub written_is-requires : goal.written_is-requires
unfolding twins ebcdic code_page
written_is-requires c = search rules

pub written_is-requires-then-written_digits-2 : goal.written_is-requires-then-written_digits-2
unfolding twins ebcdic code_page
written_is-requires-then-written_digits-2 c = search rules

pub returns-then-written_is-2 : goal.returns-then-written_is-2
unfolding dashes ◌and◌
returns-then-written_is-2 c = grind (arith, nat_tests)

pub returns-else-written_is-2 : goal.returns-else-written_is-2
unfolding dashes ◌and◌
returns-else-written_is-2 c = grind (arith, nat_tests)
