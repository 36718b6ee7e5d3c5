use Rattle.repeats.proofs.Marks.{mark_is}
use Rattle.repeats.proofs.sieve.mark.Goals as goal

pub returns : goal.returns
returns c = mark_is _ _
