use Rattle.page.proofs.Shown.{shown_records}
use Rattle.repeats.proofs.Sought.{sought_none, sought_next, sought_hit, sought_miss}
use borrow.Author.Rules.{rules}
use Rattle.repeats.proofs.blocks.first_by_blocks.Goals as goal

pub loop-from-init : goal.loop-from-init
loop-from-init c = search (rules, sought_none, shown_records)

pub loop-from-preserved : goal.loop-from-preserved
loop-from-preserved c = search (rules, sought_next)

pub returns-then-best-count : goal.returns-then-best-count
returns-then-best-count c = search (rules, sought_hit)

pub returns : goal.returns
returns c = search (rules, sought_miss)
