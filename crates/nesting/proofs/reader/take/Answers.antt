use mathlib.Core.Path.{refl}
use Rattle.nesting.specs.Reader.{taken}
use Rattle.nesting.proofs.reader.take.Goals as goal

pub returns : goal.returns
unfolding taken
returns c = refl
