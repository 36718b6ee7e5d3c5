use Rattle.record.proofs.Chains.{alike_of}
use Rattle.record.proofs.place.sent_same.Goals as goal

pub returns : goal.returns
returns c = alike_of _ _ _ _ c.sent.ensures.0 c.sent-2.ensures.0 _ c.eq.ensures
