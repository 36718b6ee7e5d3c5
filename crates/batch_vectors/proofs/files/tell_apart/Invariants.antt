use Rattle.std.proofs.Common.{◌≡◌}
use Rattle.batch_vectors.proofs.files.tell_apart.Given as goal

abbrev pub invariant-loop-place : goal.invariant-loop-place
invariant-loop-place l = l.file.count ≡ l.initial.file.count
