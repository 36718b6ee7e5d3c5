use Rattle.record.proofs.moved.move_right.Goals as goal

pub returns : goal.returns
returns c = cc
