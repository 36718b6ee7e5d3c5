use Rattle.record.proofs.Chain.{reads}
use Rattle.repeats.proofs.Walks.{ahead_none, ahead_next, ahead_stop, ahead_end, not_of}
use borrow.Author.Rules.{rules}
use Rattle.repeats.proofs.walk.is_repeated.Goals as goal

pub returns-then-not-is_of : goal.returns-then-not-is_of
returns-then-not-is_of c = search (rules, not_of, reads)

pub loop-earlier-init : goal.loop-earlier-init
loop-earlier-init c = search (rules, ahead_none, reads)

pub returns-then-agrees : goal.returns-then-agrees
returns-then-agrees c = search (rules, ahead_stop)

pub loop-earlier-preserved : goal.loop-earlier-preserved
loop-earlier-preserved c = search (rules, ahead_next)

pub returns : goal.returns
returns c = search (rules, ahead_end)
