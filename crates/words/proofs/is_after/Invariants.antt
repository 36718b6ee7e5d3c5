use Prim.Native.Nat.{◌*◌}
use Rattle.words.proofs.Weights.{Left}
use Rattle.words.proofs.is_after.Given as goal

abbrev pub invariant-loop-i : goal.invariant-loop-i
invariant-loop-i l = Left l.bytes l.others (l.i * 8)
