use mathlib.Core.Path.{◌∙◌, ap}
use native.Mathlib.Omega.{arith}
use lib.ListN.{length}
use Rattle.record.proofs.Held.{held_length}
use Rattle.repeats.specs.Repeats.{numbering}
use Rattle.repeats.proofs.Hashes.{copy_hash}
use borrow.Author.Rules.{rules}
use Rattle.repeats.proofs.sieve.hash_in.Goals as goal

pub hash_of-requires : goal.hash_of-requires
hash_of-requires c = ap length c.in-Some.ensures.1 ∙ held_length _ _ _ (omega arith, omega (arith, c.requires))

pub returns-in-Some : goal.returns-in-Some
unfolding numbering
returns-in-Some c = copy_hash _ _ _ c.in-Some.ensures.1 c.hash_of.ensures

pub returns : goal.returns
returns c = search (rules, copy_hash)
