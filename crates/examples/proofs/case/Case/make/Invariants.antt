use Rattle.std.proofs.Common.{length}
use Rattle.examples.proofs.case.Case.make.Given as goal

abbrev pub decreases-loop-name : goal.decreases-loop-name
decreases-loop-name l = length l.words.rest.now
