use Rattle.record.proofs.Copies.{Copied}
use Rattle.record.proofs.place.copy_sent.Given as goal

abbrev pub invariant-loop-i : goal.invariant-loop-i
invariant-loop-i l = Copied l.to l.bytes l.i
