use lib.ListN.{length}
use Prim.Native.Nat.{◌-◌}
use Rattle.numbers.proofs.Reading.{Read}
use Rattle.numbers.proofs.read.Given as goal

abbrev pub invariant-loop-byte : goal.invariant-loop-byte
invariant-loop-byte l = Read l.part (length l.part - length l.yielded) l.number
