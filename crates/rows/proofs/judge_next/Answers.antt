use Rattle.rows.proofs.Judging.{opens_few, opens_start, opens_judgeable, ends_few, is_judged}
use borrow.Author.Rules.{rules}
use Rattle.rows.proofs.judge_next.Goals as goal

pub overflow_add-number : goal.overflow_add-number
overflow_add-number c = let h = opens_few _ _ c.requires.1 in search rules

pub overflow_mul-at : goal.overflow_mul-at
overflow_mul-at c = let h = opens_few _ _ c.requires.1 in search rules

pub slice_bounds-judge_batch-count : goal.slice_bounds-judge_batch-count
slice_bounds-judge_batch-count c = search (rules, opens_start)

pub slice_bounds-judge_batch-start : goal.slice_bounds-judge_batch-start
slice_bounds-judge_batch-start c = search (rules, opens_start)

pub judge_batch-row-requires : goal.judge_batch-row-requires
judge_batch-row-requires c = (c.requires.0, opens_judgeable _ _ c.requires.1)

pub overflow_add-after : goal.overflow_add-after
overflow_add-after c =
    let h = ends_few _ _ c.requires.1 _ _ _ _ c.judge_batch-row.ensures in
    search rules

pub returns : goal.returns
returns c =
    is_judged _ _ c.requires.1 _ _ _ _ c.judge_batch-row.ensures _ c.batch_numbers-numbers.ensures
