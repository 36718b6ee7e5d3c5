use Rattle.record.proofs.written_is.Goals as goal

pub returns : goal.returns
returns c = cc
