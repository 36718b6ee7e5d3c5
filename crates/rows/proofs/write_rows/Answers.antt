use mathlib.Core.Path.{refl}
use Rattle.page.proofs.Shown.{shown_records}
use Rattle.report.proofs.Rows.{head_room}
use Rattle.rows.proofs.Turns.{opens, numberable, row_few, row_fits, turned, first_opens, first_numberable, first_fits, opened, rebased, onward, all_kept, finished}
use borrow.Author.Rules.{rules}
use Rattle.rows.proofs.write_rows.Goals as goal

pub write_row-requires : goal.write_row-requires
write_row-requires c = search (rules, head_room)

pub number_next-opened-requires : goal.number_next-opened-requires
number_next-opened-requires c = search (rules, first_numberable, shown_records)

pub write_next-place-requires : goal.write_next-place-requires
write_next-place-requires c = search (rules, first_opens, first_fits, shown_records)

pub loop-written-init : goal.loop-written-init
loop-written-init c =
    let n = c.number_next-opened.ensures in
    rebased (opened c.requires.1 (shown_records _ _ _ refl) c.head_numbers-head.ensures c.write_row.ensures _ _ _ n.answer n.after _ _ _ _ c.write_next-place.ensures)

pub number_next-number-requires : goal.number_next-number-requires
number_next-number-requires c = numberable c.loop-written.invariant c.loop-written-test.true

pub write_next-place-requires-in-loop-written : goal.write_next-place-requires-in-loop-written
write_next-place-requires-in-loop-written c =
    let l = c.loop-written.invariant in
    let t = c.loop-written-test.true in
    let n = c.number_next-number.ensures in
    (c.requires.0, opens l t, row_few l t, row_fits l t _ _ n.answer n.after)

pub loop-written-preserved : goal.loop-written-preserved
loop-written-preserved c =
    let n = c.number_next-number.ensures in
    turned c.loop-written.invariant c.loop-written-test.true _ _ n.answer n.after _ _ c.write_next-place-in-loop-written.ensures

pub shape_of-report : goal.shape_of-report
shape_of-report c =
    let w = c.requires.1 in
    let e = c.head_numbers-head.ensures in
    let p = c.write_row.ensures in
    let n = c.number_next-opened.ensures in
    let g = onward (opened w (shown_records _ _ _ refl) e p _ _ _ n.answer n.after _ _ _ _ c.write_next-place.ensures) c.loop-written.invariant in
    all_kept w (shown_records _ _ _ refl) e p g

pub returns : goal.returns
returns c =
    let w = c.requires.1 in
    let e = c.head_numbers-head.ensures in
    let p = c.write_row.ensures in
    let n = c.number_next-opened.ensures in
    let g = onward (opened w (shown_records _ _ _ refl) e p _ _ _ n.answer n.after _ _ _ _ c.write_next-place.ensures) c.loop-written.invariant in
    finished w (shown_records _ _ _ refl) e p g (search rules)
