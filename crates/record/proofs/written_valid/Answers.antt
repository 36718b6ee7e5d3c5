use Rattle.record.proofs.written_valid.Goals as goal

pub returns : goal.returns
returns c = cc
