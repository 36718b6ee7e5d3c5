use Rattle.numbers.proofs.Writing.{filled_none, filled_next, filled_all}
use borrow.Author.Rules.{rules}
use Rattle.numbers.proofs.write.Goals as goal

pub loop-byte-init : goal.loop-byte-init
loop-byte-init c = search (rules, filled_none)

pub loop-byte-preserved : goal.loop-byte-preserved
loop-byte-preserved c = search (rules, filled_next)

pub returns : goal.returns
returns c = search (rules, filled_all)
