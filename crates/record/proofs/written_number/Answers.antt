use borrow.Author.Rules.{rules}
use Rattle.record.proofs.written_number.Goals as goal

pub number-requires : goal.number-requires
number-requires c = (search rules, search rules, search rules, search rules, cc)

pub returns : goal.returns
returns c = cc
