use Rattle.calendar.proofs.Counts.{blank_month, other_month, month_digits, year_few, month_read}
use borrow.Author.Rules.{rules}
use Rattle.calendar.proofs.month_of.Goals as goal

pub returns-then-field_blank : goal.returns-then-field_blank
returns-then-field_blank c = search (rules, blank_month)

pub part_number-month-requires : goal.part_number-month-requires
part_number-month-requires c = search (rules, month_digits)

pub part_number-year-requires : goal.part_number-year-requires
part_number-year-requires c = search (rules, month_digits)

pub overflow_add-result : goal.overflow_add-result
overflow_add-result c =
    let p = c.requires in
    let h = year_few _ _ _ p.0 p.1 _ c.month_mmyy.ensures c.if-month_mmyy.true _ c.part_number-year.ensures in
    search rules

pub returns-then-month_mmyy : goal.returns-then-month_mmyy
returns-then-month_mmyy c = search (rules, month_read)

pub returns : goal.returns
returns c = search (rules, other_month)
