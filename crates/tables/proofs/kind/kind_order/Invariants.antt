use Rattle.tables.proofs.Comparing.{Left}
use Rattle.tables.proofs.kind.kind_order.Given as goal

abbrev pub invariant-loop-k : goal.invariant-loop-k
invariant-loop-k l = Left l.line.ascii l.other_line.ascii l.rec l.other l.k
