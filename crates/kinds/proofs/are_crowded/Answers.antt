use Rattle.page.proofs.Shown.{shown_records}
use Rattle.tables.proofs.Tables.{stands_shown}
use Rattle.kinds.proofs.Counts.{counted_none, counted_tabled, counted_room, counted_next, counted_crowded, counted_all}
use borrow.Author.Rules.{rules}
use Rattle.kinds.proofs.are_crowded.Goals as goal

pub loop-place-init : goal.loop-place-init
loop-place-init c = search (rules, counted_none, shown_records)

pub count-requires : goal.count-requires
count-requires c = search (rules, counted_tabled, counted_room)

pub returns-then-count-gt-MOST : goal.returns-then-count-gt-MOST
returns-then-count-gt-MOST c =
    let i = c.loop-place.invariant in
    let r = c.count.ensures in
    counted_crowded _ _ _ _ _ _ (counted_next _ _ _ _ _ _ i.1 i.0 c.loop-place-test.true (stands_shown _ _ _ _ (search rules, search rules)) _ _ r.more r.after) i.2 (search rules)

pub loop-place-preserved : goal.loop-place-preserved
loop-place-preserved c =
    let i = c.loop-place.invariant in
    let r = c.count.ensures in
    (search rules, counted_next _ _ _ _ _ _ i.1 i.0 c.loop-place-test.true (stands_shown _ _ _ _ (search rules, search rules)) _ _ r.more r.after, i.2)

pub returns : goal.returns
returns c = search (rules, counted_all)
