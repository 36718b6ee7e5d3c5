use Rattle.record.proofs.Bracket.{opened}
use Rattle.tables.proofs.Seeks.{next_sent, sought_raised, sought_lowered, seat_taken, value_known, seat_free, value_new}
use borrow.Author.Rules.{rules}
use Rattle.tables.proofs.seek.Goals as goal

pub loop-low-init : goal.loop-low-init
loop-low-init c = opened _ _ _

pub compare-requires : goal.compare-requires
compare-requires c = search (rules, next_sent)

pub loop-low-preserved-in-Less : goal.loop-low-preserved-in-Less
loop-low-preserved-in-Less c = search sought_raised

-- by hand: a search loses itself between the old bounds and the new
pub loop-low-preserved : goal.loop-low-preserved
loop-low-preserved c =
    sought_lowered _ _ _ _ _ _ c.requires.0 _ _ c.loop-low.invariant (search rules) _ c.compare.ensures (search rules)

pub returns-in-Equal : goal.returns-in-Equal
returns-in-Equal c = search (seat_taken, value_known)

pub returns : goal.returns
returns c = search (seat_free, value_new)
