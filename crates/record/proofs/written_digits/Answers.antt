use Rattle.record.proofs.written_digits.Goals as goal

pub returns : goal.returns
returns c = cc
