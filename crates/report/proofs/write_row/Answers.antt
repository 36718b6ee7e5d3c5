use Rattle.report.proofs.Writing.{row_is}
use borrow.Author.Rules.{rules}
use Rattle.report.proofs.write_row.Goals as goal

pub returns : goal.returns
returns c = search (rules, row_is)
