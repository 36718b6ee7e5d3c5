use Rattle.book.specs.Book.{listed_at}
use Rattle.book.proofs.Lookup.{none_in}
use Rattle.record.proofs.Chain.{chain, reads, or_no}
use Rattle.verdict.specs.Answer.{strange}
use borrow.Author.Rules.{rules}
use Rattle.verdict.proofs.frame.is_strange.Goals as goal

pub returns-then-field_blank : goal.returns-then-field_blank
unfolding strange
returns-then-field_blank c = search (rules, chain, reads)

pub returns-else-field_blank : goal.returns-else-field_blank
unfolding strange listed_at
returns-else-field_blank c =
    or_no _ _ _ (search (rules, reads)) (none_in _ _ _ _ _ _ c.requires.0.systems c.find.ensures c.is_none.ensures)
