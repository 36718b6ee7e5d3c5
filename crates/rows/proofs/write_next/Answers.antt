use Rattle.rows.proofs.Judging.{is_written}
use borrow.Author.Rules.{rules}
use Rattle.rows.proofs.write_next.Goals as goal

pub returns : goal.returns
returns c = search (rules, is_written)
