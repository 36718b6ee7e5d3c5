use Rattle.report.specs.Rows.{row_at}
use borrow.Author.Rules.{rules}
use Rattle.report.proofs.row_at.Goals as goal

pub returns : goal.returns
unfolding row_at
returns c = search rules
