use Prim.Native.Nat.{◌<◌, ◌^◌}
use Rattle.words.proofs.Weights.{Weighed}
use Rattle.words.proofs.word.Given as goal

abbrev pub invariant-loop-byte : goal.invariant-loop-byte
invariant-loop-byte l = (l.number < 256 ^ l.byte-index) × Weighed l.bytes l.from l.byte-index l.number
