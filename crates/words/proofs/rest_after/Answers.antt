use Rattle.words.proofs.Weights.{rest_none, rest_apart, rest_next, rest_end}
use borrow.Author.Rules.{rules}
use Rattle.words.proofs.rest_after.Goals as goal

pub loop-i-init : goal.loop-i-init
loop-i-init c = search (rules, rest_none)

pub returns-then-bytes-i : goal.returns-then-bytes-i
returns-then-bytes-i c = search (rules, rest_apart)

pub loop-i-preserved : goal.loop-i-preserved
loop-i-preserved c = search (rules, rest_next)

pub returns : goal.returns
returns c = search (rules, rest_end)
