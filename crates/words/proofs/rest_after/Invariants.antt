use Rattle.words.proofs.Weights.{Behind}
use Rattle.words.proofs.rest_after.Given as goal

abbrev pub invariant-loop-i : goal.invariant-loop-i
invariant-loop-i l = Behind l.bytes l.others l.from l.i
