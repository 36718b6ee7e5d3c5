use Rattle.book.proofs.Walks.{FlagsLeft}
use Rattle.book.proofs.reading.has_flags.Given as goal

abbrev pub invariant-loop-i : goal.invariant-loop-i
invariant-loop-i l = FlagsLeft l.book l.section l.i
