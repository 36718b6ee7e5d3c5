use Rattle.batch.specs.Walk.{with_account}
use Rattle.batch.proofs.Rooms.{positive_room, negative_room}
use Rattle.batch.proofs.payment.with_account.Goals as goal

pub enter-sum-requires : goal.enter-sum-requires
enter-sum-requires c = let p = c.requires in (positive_room _ p.0 _ p.1, negative_room _ p.0 _ p.1)

pub returns : goal.returns
unfolding with_account
returns c = cc
