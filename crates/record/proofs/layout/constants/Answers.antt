use mathlib.Core.Path.{refl}
use Rattle.record.specs.Choice.{choose}
use Rattle.record.specs.Layout.{layout, records, rows, position_in, named}
use Rattle.record.proofs.layout.constants.Goals as goal

pub returns : goal.returns
unfolding named position_in rows records layout choose
returns c = refl
