use Rattle.repeats.specs.Repeats.{numbering}
use Rattle.repeats.proofs.walk.number_field.Goals as goal

pub returns-in-Payments : goal.returns-in-Payments
unfolding numbering
returns-in-Payments c = cc

pub returns-in-Batches : goal.returns-in-Batches
unfolding numbering
returns-in-Batches c = cc
