use Rattle.page.proofs.Shown.{shown_least, shown_most}
use Rattle.repeats.proofs.Sought.{block_begun, block_hit, block_next, block_end}
use Rattle.repeats.proofs.Visits.{filling_tabled}
use borrow.Author.Rules.{rules}
use Rattle.repeats.proofs.blocks.block.Goals as goal

pub loop-place-init : goal.loop-place-init
loop-place-init c = search (rules, block_begun, shown_least, shown_most)

pub visit-seen-requires : goal.visit-seen-requires
visit-seen-requires c = search (rules, filling_tabled)

pub returns-then-seen : goal.returns-then-seen
returns-then-seen c = search (rules, block_hit)

pub loop-place-preserved : goal.loop-place-preserved
loop-place-preserved c = search (rules, block_next)

pub returns : goal.returns
returns c = search (rules, block_end)
