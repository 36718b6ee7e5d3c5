use Rattle.record.proofs.Moving.{tail_none, tail_on, tail_here, tail_out}
use borrow.Author.Rules.{rules}
use Rattle.record.proofs.moved.tail.Goals as goal

pub loop-last-init : goal.loop-last-init
loop-last-init c = search (rules, tail_none)

pub returns-then-is_filled : goal.returns-then-is_filled
returns-then-is_filled c = search (rules, tail_here)

pub loop-last-preserved : goal.loop-last-preserved
loop-last-preserved c = search (rules, tail_on)

pub returns : goal.returns
returns c = search (rules, tail_out)
