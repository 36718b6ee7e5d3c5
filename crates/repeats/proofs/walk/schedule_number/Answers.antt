use Rattle.repeats.specs.Repeats.{numbering}
use Rattle.repeats.proofs.Copies.{copied_there}
use borrow.Author.Rules.{rules}
use Rattle.repeats.proofs.walk.schedule_number.Goals as goal

pub returns : goal.returns
unfolding numbering
returns c = search (rules, copied_there)
