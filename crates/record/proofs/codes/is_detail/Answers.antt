use Rattle.record.specs.Codes.{is_detail}
use Rattle.record.proofs.OtherCodes.{not_detail}
use Rattle.record.proofs.codes.is_detail.Goals as goal

pub returns-in-Detail : goal.returns-in-Detail
unfolding is_detail
returns-in-Detail c = cc

pub returns-in_default : goal.returns-in_default
returns-in_default c = not_detail _ c.in_default.not-Detail
