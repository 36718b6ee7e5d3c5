use Rattle.record.proofs.Chain.{and_no, and_yes, reads}
use Rattle.characters.proofs.Stretches.{stretches_of, all_valid, covers, last}
use borrow.Author.Rules.{rules}
use Rattle.characters.proofs.is_clean_header.Goals as goal

pub returns-then-written_valid : goal.returns-then-written_valid
unfolding stretches_of all_valid
returns-then-written_valid c = search (rules, covers, last, and_yes, reads)

pub returns-else-written_valid : goal.returns-else-written_valid
unfolding stretches_of all_valid
returns-else-written_valid c = search (rules, covers, and_no, reads)
