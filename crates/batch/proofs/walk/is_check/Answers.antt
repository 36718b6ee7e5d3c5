use Rattle.batch.proofs.Laws.{check_is, check_not}
use Rattle.batch.proofs.walk.is_check.Goals as goal

pub returns-in-C : goal.returns-in-C
returns-in-C c = check_is _ c.in-C.is

pub returns-in_default : goal.returns-in_default
returns-in_default c = check_not _ c.in_default.not-C
