use Rattle.record.specs.Codes.{letter_in}
use Rattle.record.proofs.OtherCodes.{no_letter}
use Rattle.record.proofs.codes.letter_in.Goals as goal

pub returns-in_default : goal.returns-in_default
returns-in_default c = no_letter _ c.in_default.not-Batch c.in_default.not-Detail

pub returns-in-Batch : goal.returns-in-Batch
unfolding letter_in
returns-in-Batch c = cc

pub returns-in-Batch-2 : goal.returns-in-Batch-2
unfolding letter_in
returns-in-Batch-2 c = cc
