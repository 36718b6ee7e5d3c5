use Rattle.record.proofs.Chains.{LowPrintable}
use Rattle.record.proofs.place.least_printable.Given as goal

abbrev pub invariant-loop-byte : goal.invariant-loop-byte
invariant-loop-byte l = LowPrintable l.bytes l.byte-index l.least
