use native.Mathlib.Omega.{arith}
use Rattle.repeats.specs.Sieve.{word_of}
use Rattle.repeats.proofs.sieve.word.Goals as goal

pub returns : goal.returns
unfolding word_of
returns c = (omega arith, omega arith)
