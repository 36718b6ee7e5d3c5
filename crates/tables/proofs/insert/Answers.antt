use Rattle.tables.proofs.Inserts.{inserted}
use borrow.Author.Rules.{rules}
use Rattle.tables.proofs.insert.Goals as goal

pub returns : goal.returns
returns c = let e = c.copy_within.ensures.after in rw e (inserted _ _ _ _ (search rules) (search rules))
