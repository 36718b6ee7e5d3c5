use Rattle.record.specs.Moved.{moved_sent}
use Rattle.record.proofs.Copies.{Copied}
use Rattle.record.proofs.moved.copy_sent.Given as goal

abbrev pub invariant-loop-i : goal.invariant-loop-i
invariant-loop-i l = Copied l.to (moved_sent l.rec l.moved) l.i
