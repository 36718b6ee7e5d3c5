use Prim.Native.Nat.{◌≤◌}
use Rattle.record.specs.Place.{value}
use Rattle.record.proofs.Corrected.{Trailed}
use Rattle.record.proofs.moved.tail.Given as goal

abbrev pub invariant-loop-last : goal.invariant-loop-last
invariant-loop-last l = (l.from ≤ l.last) × (l.last ≤ l.place.width) × Trailed (value l.rec l.place) l.from l.last
