use Rattle.survey.proofs.Highs.{high_none, high_eight}
use Rattle.survey.proofs.reach.Goals as goal

pub returns-then-file-end : goal.returns-then-file-end
returns-then-file-end c = high_none _ _

pub returns-then-written_valid : goal.returns-then-written_valid
returns-then-written_valid c = high_eight _ _ _ _ c.written_valid.ensures c.if-written_valid.true

pub returns : goal.returns
returns c = high_none _ _
