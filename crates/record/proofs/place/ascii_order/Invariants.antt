use lib.ListN.{length}
use Rattle.record.specs.Place.{value}
use Rattle.record.proofs.Orders.{Level}
use Rattle.record.proofs.place.ascii_order.Given as goal

abbrev pub invariant-loop-byte : goal.invariant-loop-byte
invariant-loop-byte l = Level (value l.rec l.fn.place) (value l.other l.fn.there) (length l.yielded)
