use Rattle.nesting.specs.Reader.{owns}
use Rattle.nesting.proofs.Coding.{same_bytes}
use Rattle.nesting.proofs.reader.is_own.Goals as goal

pub returns : goal.returns
unfolding owns
returns c = cc (same_bytes c.payment_id.result c.args.state.id)
