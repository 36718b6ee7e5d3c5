use Rattle.book.proofs.Walks.{CodesLeft}
use Rattle.book.proofs.reading.does_ascend.Given as goal

abbrev pub invariant-loop-i : goal.invariant-loop-i
invariant-loop-i l = CodesLeft l.book l.section l.i
