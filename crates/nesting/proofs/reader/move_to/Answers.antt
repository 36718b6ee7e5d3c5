use mathlib.Core.Path.{refl}
use Rattle.nesting.specs.Reader.{moved}
use Rattle.nesting.proofs.reader.move_to.Goals as goal

pub returns : goal.returns
unfolding moved
returns c = refl
