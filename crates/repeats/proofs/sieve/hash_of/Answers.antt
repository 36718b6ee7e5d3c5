use Rattle.repeats.proofs.Hashes.{hash_none, hash_next, hash_end}
use borrow.Author.Rules.{rules}
use Rattle.repeats.proofs.sieve.hash_of.Goals as goal

pub loop-k-init : goal.loop-k-init
loop-k-init c = search (rules, hash_none)

pub loop-k-preserved : goal.loop-k-preserved
loop-k-preserved c = search (rules, hash_next)

pub returns : goal.returns
returns c = search (rules, hash_end)
