use Rattle.std.proofs.Common.{◌<◌}
use Rattle.cases.proofs.words.Words.next_number.Given as goal

abbrev pub invariant-loop-byte : goal.invariant-loop-byte
invariant-loop-byte g l = l.number < g.row.BELOW
