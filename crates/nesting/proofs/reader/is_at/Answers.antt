use Rattle.nesting.specs.Reader.{is_at}
use Rattle.nesting.proofs.Coding.{same_place}
use Rattle.nesting.proofs.reader.is_at.Goals as goal

pub returns : goal.returns
unfolding is_at
returns c = cc (same_place c.args.state.place c.args.place)
