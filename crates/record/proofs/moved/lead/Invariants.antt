use Rattle.record.specs.Place.{value}
use Rattle.record.proofs.Corrected.{Led}
use Rattle.record.proofs.moved.lead.Given as goal

abbrev pub invariant-loop-i : goal.invariant-loop-i
invariant-loop-i l = Led (value l.rec l.place) l.i
