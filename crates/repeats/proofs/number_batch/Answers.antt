use Rattle.repeats.proofs.Greatest.{read_after}
use Rattle.repeats.proofs.Schedules.{batched_within, batched_few, batched_small, some_flag, tell_marked, after_marked, tell_up, after_up, tell_down, after_down}
use borrow.Author.Rules.{rules}
use Rattle.repeats.proofs.number_batch.Goals as goal

pub bounds-flags-0 : goal.bounds-flags-0
bounds-flags-0 c = search (rules, some_flag)

pub returns-then-marked : goal.returns-then-marked
returns-then-marked c = search (rules, tell_marked, after_marked)

pub schedule_number-number-requires : goal.schedule_number-number-requires
schedule_number-number-requires c = search (rules, batched_within, batched_small)

pub returns-then-is_after : goal.returns-then-is_after
returns-then-is_after c = search (rules, tell_up, after_up, read_after)

pub mark_batches-requires : goal.mark_batches-requires
mark_batches-requires c = search (rules, batched_within, batched_few)

pub bounds-flags-0-2 : goal.bounds-flags-0-2
bounds-flags-0-2 c = let h = some_flag _ _ c.requires.0 in search rules

pub returns : goal.returns
returns c = search (rules, tell_down, after_down, read_after)
