use Rattle.record.specs.Routing.{routing}
use Rattle.record.proofs.Chain.{and_no, told}
use Rattle.record.proofs.Prefix.{routing_read, nine_prefix, nine_stand}
use borrow.Author.Rules.{rules}
use Rattle.record.proofs.routing.field_routing.Goals as goal

pub written_number-prefix-requires : goal.written_number-prefix-requires
written_number-prefix-requires c = search (rules, nine_prefix)

pub returns-then-written_digits : goal.returns-then-written_digits
returns-then-written_digits c = search (rules, nine_stand)

pub part_number-prefix-requires : goal.part_number-prefix-requires
part_number-prefix-requires c = search (rules, told)

pub returns-then-field_digits : goal.returns-then-field_digits
returns-then-field_digits c = search (rules, routing_read)

pub returns : goal.returns
unfolding routing
returns c = and_no _ _ (search told)
