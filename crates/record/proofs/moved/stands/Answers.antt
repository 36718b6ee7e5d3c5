use Rattle.record.specs.Moved.{in_place}
use Rattle.record.proofs.Chain.{told, and_no, and_yes}
use borrow.Author.Rules.{rules}
use Rattle.record.proofs.moved.stands.Goals as goal

pub returns-then-begins : goal.returns-then-begins
unfolding in_place
returns-then-begins c = search (rules, told, and_yes)

pub returns-else-begins : goal.returns-else-begins
unfolding in_place
returns-else-begins c = search (rules, told, and_no)
