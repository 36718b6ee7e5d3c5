use borrow.Author.Rules.{rules}
use Rattle.rows.specs.Report.{head_row}
use Rattle.rows.proofs.head_numbers.Goals as goal

pub returns : goal.returns
unfolding head_row
returns c = search rules
