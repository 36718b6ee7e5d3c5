use Rattle.record.proofs.Chain.{chain, reads}
use Rattle.book.specs.Reading.{sound_in}
use borrow.Author.Rules.{rules}
use Rattle.book.proofs.reading.is_sound.Goals as goal

pub returns-then-has_flags : goal.returns-then-has_flags
unfolding sound_in
returns-then-has_flags c = search (rules, chain, reads)

pub returns-else-has_flags : goal.returns-else-has_flags
unfolding sound_in
returns-else-has_flags c = search (rules, chain, reads)
