use mathlib.Core.Path.{refl}
use Rattle.nesting.specs.Reader.{start}
use Rattle.nesting.proofs.reader.start.Goals as goal

pub returns : goal.returns
unfolding start
returns c = refl
