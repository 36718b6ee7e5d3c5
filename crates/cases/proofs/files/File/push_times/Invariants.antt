use Rattle.std.proofs.Common.{◌≤◌}
use Rattle.cases.proofs.files.File.push_times.Given as goal

abbrev pub invariant-loop : goal.invariant-loop
invariant-loop g l = l.initial.self.count ≤ l.self.count
