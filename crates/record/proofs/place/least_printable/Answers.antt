use borrow.Author.Rules.{rules}
use Rattle.record.proofs.Chains.{low_none, low_next, low_end}
use Rattle.record.proofs.place.least_printable.Goals as goal

pub loop-byte-init : goal.loop-byte-init
loop-byte-init c = search (rules, low_none)

pub loop-byte-preserved : goal.loop-byte-preserved
loop-byte-preserved c = search (rules, low_next)

pub returns : goal.returns
returns c = search (rules, low_end)
