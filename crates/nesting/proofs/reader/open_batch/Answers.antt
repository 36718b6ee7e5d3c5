use mathlib.Core.Path.{refl}
use Rattle.nesting.specs.Reader.{in_batch}
use Rattle.nesting.proofs.reader.open_batch.Goals as goal

pub returns : goal.returns
unfolding in_batch
returns c = refl
