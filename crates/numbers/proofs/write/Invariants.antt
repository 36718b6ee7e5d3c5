use lib.ListN.{length}
use Rattle.numbers.proofs.Writing.{Filled}
use Rattle.numbers.proofs.write.Given as goal

abbrev pub invariant-loop-byte : goal.invariant-loop-byte
invariant-loop-byte l = Filled (length l.initial.part) l.number l.part l.left l.byte-index
