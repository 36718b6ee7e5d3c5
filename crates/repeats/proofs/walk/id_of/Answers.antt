use Rattle.repeats.specs.Repeats.{numbering}
use borrow.Author.Rules.{rules}
use Rattle.repeats.proofs.walk.id_of.Goals as goal

pub returns : goal.returns
unfolding numbering
returns c = search rules
