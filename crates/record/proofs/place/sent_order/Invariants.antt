use lib.ListN.{length}
use Rattle.record.specs.Place.{sent}
use Rattle.record.proofs.Orders.{Level}
use Rattle.record.proofs.place.sent_order.Given as goal

abbrev pub invariant-loop-byte : goal.invariant-loop-byte
invariant-loop-byte l = Level (sent l.rec l.fn.place) (sent l.other l.fn.there) (length l.yielded)
