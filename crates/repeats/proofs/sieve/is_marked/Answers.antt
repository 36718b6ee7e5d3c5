use mathlib.Core.Path.{refl}
use Rattle.repeats.specs.Sieve.{is_marked}
use Rattle.repeats.proofs.sieve.is_marked.Goals as goal

pub returns : goal.returns
unfolding is_marked
returns c = refl
