use Rattle.tables.proofs.Comparing.{Agreed}
use Rattle.tables.proofs.kind.first_unlike.Given as goal

abbrev pub invariant-loop-i : goal.invariant-loop-i
invariant-loop-i l = Agreed l.rec l.other l.i
