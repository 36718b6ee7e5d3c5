use Rattle.record.proofs.Chain.{reads}
use Rattle.repeats.proofs.Places.{field_start, field_within}
use Rattle.repeats.proofs.Visits.{tabled_as, visit_other, count_other, table_other, visit_known, visit_new, visit_left, count_own, table_own}
use borrow.Author.Rules.{rules}
use Rattle.repeats.proofs.blocks.visit.Goals as goal

pub returns-then-not-is_of : goal.returns-then-not-is_of
returns-then-not-is_of c = search (rules, visit_other, count_other, table_other, reads)

pub enter-requires : goal.enter-requires
enter-requires c = search (rules, tabled_as, field_start, field_within)

pub returns-in-Known : goal.returns-in-Known
returns-in-Known c = search (rules, visit_known, count_own, table_own, reads)

pub returns-in-New : goal.returns-in-New
returns-in-New c = search (rules, visit_new, count_own, table_own, reads)

pub returns-in-Full : goal.returns-in-Full
returns-in-Full c = record { answer = search (rules, visit_left, reads); more = search (rules, count_own, reads); after = search (rules, table_own, reads) }
