use Rattle.book.proofs.Lookup.{said_as}
use Rattle.book.specs.Book.{listed_at}
use Rattle.batch.specs.Batch as batch
use borrow.Author.Rules.{rules}
use Rattle.batch.proofs.lookups.betc.Goals as goal

pub look_up-requires : goal.look_up-requires
look_up-requires c = let u = c.requires.0 in (u.betcs.shelved, search rules, search rules)

pub returns : goal.returns
unfolding batch.betc listed_at
returns c = said_as _ _ _ _ _ c.requires.0.betcs c.look_up.ensures
