use Rattle.page.proofs.Shown.{Replaced}
use Rattle.page.proofs.translate_all.Given as goal

abbrev pub invariant-loop-byte : goal.invariant-loop-byte
invariant-loop-byte l = Replaced l.initial.bytes l.bytes l.byte-index
