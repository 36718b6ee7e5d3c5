use native.Mathlib.Omega.{arith}
use Rattle.repeats.specs.Sieve.{mixed}
use Rattle.repeats.proofs.Hashes.{halves_fit, word_fits}
use borrow.Author.Rules.{rules}
use Rattle.repeats.proofs.sieve.mix.Goals as goal

pub overflow_add-result : goal.overflow_add-result
overflow_add-result c = search (rules, halves_fit)

pub overflow_add-result-2 : goal.overflow_add-result-2
overflow_add-result-2 c = search (rules, word_fits)

pub returns : goal.returns
unfolding mixed
returns c = omega arith
