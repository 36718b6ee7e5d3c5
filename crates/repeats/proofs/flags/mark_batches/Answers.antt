use Rattle.page.proofs.Shown.{shown_least, shown_records}
use Rattle.repeats.proofs.Flagging.{index_none, marked_none, marked_length, marked_all}
use borrow.Author.Rules.{rules}
use Rattle.repeats.proofs.flags.mark_batches.Goals as goal

pub mark_block-next-requires : goal.mark_block-next-requires
mark_block-next-requires c = search (rules, marked_none, index_none, shown_least)

pub loop-next-init : goal.loop-next-init
loop-next-init c = search (rules, shown_records)

pub shape_of-flags : goal.shape_of-flags
shape_of-flags c = search (rules, marked_length, shown_least)

pub returns : goal.returns
returns c = search (rules, marked_all, shown_least)
