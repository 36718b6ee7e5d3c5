use Rattle.std.proofs.Common.{◌≤◌}
use Rattle.examples.proofs.files.push_payments.Given as goal

abbrev pub invariant-loop-n : goal.invariant-loop-n
invariant-loop-n l = l.initial.file.count ≤ l.file.count
