use Rattle.record.proofs.Moving.{moved_zero, moved_part, moved_blank}
use borrow.Author.Rules.{rules}
use Rattle.record.proofs.moved.sent_byte.Goals as goal

pub returns-then-i-moved : goal.returns-then-i-moved
returns-then-i-moved c = search (rules, moved_zero)

pub returns-then-j-kept : goal.returns-then-j-kept
returns-then-j-kept c = search (rules, moved_part)

pub returns : goal.returns
returns c = search (rules, moved_blank)
