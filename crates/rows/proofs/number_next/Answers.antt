use Rattle.rows.proofs.Flagging.{left_room, part_batched, part_noted, part_back}
use borrow.Author.Rules.{rules}
use Rattle.rows.proofs.number_next.Goals as goal

pub overflow_sub-from-2 : goal.overflow_sub-from-2
overflow_sub-from-2 c = search (rules, left_room)

pub number_batch-requires : goal.number_batch-requires
number_batch-requires c = (search (rules, part_batched), search (rules, part_noted))

pub returns : goal.returns
returns c = search (rules, part_back)
