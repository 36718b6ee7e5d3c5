use Prim.Native.Nat.{◌+◌, ◌<◌, ◌^◌}
use Rattle.record.specs.Place.{value}
use Rattle.record.proofs.Numbers.{Read}
use Rattle.record.proofs.place.number.Given as goal

abbrev pub invariant-loop-byte : goal.invariant-loop-byte
invariant-loop-byte l = (l.sum < 10 ^ l.byte-index) × Read (value l.rec l.fn.place) l.from l.to (l.from + l.byte-index) l.sum
