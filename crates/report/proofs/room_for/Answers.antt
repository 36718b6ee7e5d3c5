use Rattle.report.specs.Rows.{room_for}
use borrow.Author.Rules.{rules}
use Rattle.report.proofs.room_for.Goals as goal

pub returns : goal.returns
unfolding room_for
returns c = search rules
