use native.Mathlib.Omega.{arith}
use mathlib.Core.Path.{refl}
use Rattle.book.specs.Book.{past}
use Rattle.book.proofs.reading.end_of.Goals as goal

pub overflow_mul-result : goal.overflow_mul-result
unfolding past
overflow_mul-result c = omega (arith, c.requires)

pub overflow_add-result : goal.overflow_add-result
unfolding past
overflow_add-result c = omega (arith, c.requires)

pub returns : goal.returns
unfolding past
returns c = refl
