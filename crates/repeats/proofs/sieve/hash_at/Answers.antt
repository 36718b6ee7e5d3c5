use Rattle.repeats.proofs.Hashes.{hash_there}
use borrow.Author.Rules.{rules}
use Rattle.repeats.proofs.sieve.hash_at.Goals as goal

pub returns : goal.returns
returns c = search (rules, hash_there)
