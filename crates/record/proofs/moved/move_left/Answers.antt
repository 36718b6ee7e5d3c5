use Rattle.record.proofs.moved.move_left.Goals as goal

pub returns : goal.returns
returns c = cc
