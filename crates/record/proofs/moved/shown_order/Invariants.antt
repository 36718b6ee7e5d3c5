use Rattle.record.specs.Moved.{moved_value}
use Rattle.record.proofs.Orders.{Level}
use Rattle.record.proofs.moved.shown_order.Given as goal

abbrev pub invariant-loop-i : goal.invariant-loop-i
invariant-loop-i l = Level (moved_value l.rec l.moved) (moved_value l.other l.there) l.i
