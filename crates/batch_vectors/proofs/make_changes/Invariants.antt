use Rattle.std.proofs.Common.{◌≡◌}
use Rattle.batch_vectors.proofs.make_changes.Given as goal

abbrev pub invariant-loop : goal.invariant-loop
invariant-loop l = l.file.count ≡ l.initial.file.count
