use Rattle.record.proofs.Chain.{and_no, and_yes, reads}
use Rattle.repeats.proofs.Places.{field_start, field_end, same_numbers}
use borrow.Author.Rules.{rules}
use Rattle.repeats.proofs.walk.agrees.Goals as goal

pub returns-then-not-is_of : goal.returns-then-not-is_of
returns-then-not-is_of c = search (rules, and_no, reads)

pub fields_same-requires : goal.fields_same-requires
fields_same-requires c = search (rules, field_start, field_end)

pub returns : goal.returns
returns c = search (rules, and_yes, reads, same_numbers)
