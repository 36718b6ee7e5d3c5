use Rattle.page.proofs.Shown.{Replaced}
use Rattle.page.proofs.shift_digits.Given as goal

abbrev pub invariant-loop-byte : goal.invariant-loop-byte
invariant-loop-byte l = Replaced l.initial.bytes l.bytes l.byte-index
