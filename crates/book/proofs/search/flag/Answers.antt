use Rattle.book.specs.Book.{flag_of}
use Rattle.book.proofs.Lookup.{no_flag}
use borrow.Author.Rules.{rules}
use Rattle.book.proofs.search.flag.Goals as goal

pub returns-then-entry-gt8 : goal.returns-then-entry-gt8
unfolding flag_of
returns-then-entry-gt8 c = search rules

pub returns-else-entry-gt8 : goal.returns-else-entry-gt8
returns-else-entry-gt8 c = search (rules, no_flag)
