use borrow.Author.Rules.{rules}
use Rattle.book.proofs.Lookup.{missed, hit, sought_raised, sought_lowered}
use Rattle.book.proofs.search.find_value.Goals as goal

pub loop-low-preserved-in-Less : goal.loop-low-preserved-in-Less
loop-low-preserved-in-Less c = sought_raised _ _ _ _ _ c.loop-low.invariant c.requires _ (search rules) c.field_order.ensures (search rules)

pub loop-low-preserved : goal.loop-low-preserved
loop-low-preserved c = sought_lowered _ _ _ _ _ c.loop-low.invariant c.requires _ (search rules) c.field_order.ensures (search rules)

pub returns-in-Equal : goal.returns-in-Equal
returns-in-Equal c = hit _ _ _ _ _ c.loop-low.invariant c.requires _ (search rules) c.field_order.ensures (search rules)

pub returns : goal.returns
returns c = missed _ _ _ _ _ c.loop-low.invariant c.requires (search rules)
