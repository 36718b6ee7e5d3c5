use Rattle.record.specs.Place.{Within, value}
use Rattle.record.proofs.Held.{written_shown}
use borrow.Author.Rules.{rules}
use Rattle.record.proofs.place.locate.Goals as goal

pub returns : goal.returns
unfolding Within value
returns c = search (rules, written_shown)
