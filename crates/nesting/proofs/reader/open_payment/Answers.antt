use Rattle.nesting.specs.Reader.{in_payment}
use Rattle.nesting.proofs.reader.open_payment.Goals as goal

pub returns : goal.returns
unfolding in_payment
returns c = cc
