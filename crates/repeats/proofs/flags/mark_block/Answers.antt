use Rattle.page.proofs.Shown.{shown_records, shown_most}
use Rattle.repeats.proofs.Flagging.{marking_begun, index_few, flag_fits, marking_next, marking_length, marking_end, kept_end}
use Rattle.repeats.proofs.Visits.{filling_tabled}
use borrow.Author.Rules.{rules}
use Rattle.repeats.proofs.flags.mark_block.Goals as goal

pub loop-place-init : goal.loop-place-init
loop-place-init c = search (rules, marking_begun, shown_records, shown_most)

pub visit-seen-requires : goal.visit-seen-requires
visit-seen-requires c = search (rules, filling_tabled)

pub index_after-after-requires : goal.index_after-after-requires
index_after-after-requires c = search (rules, index_few)

pub set_flag-requires : goal.set_flag-requires
set_flag-requires c =
    let i = c.loop-place.invariant in
    flag_fits _ _ _ _ i.1 _ _ _ _ _ _ _ _ i.0 c.loop-place-test.true i.2 _ c.visit-seen.ensures.answer _ c.index_after-after.ensures

pub loop-place-preserved : goal.loop-place-preserved
loop-place-preserved c = search (rules, marking_next)

pub shape_of-flags : goal.shape_of-flags
shape_of-flags c = search (rules, marking_length)

pub returns : goal.returns
returns c = search (rules, marking_end, kept_end)
