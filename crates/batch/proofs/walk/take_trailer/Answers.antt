use Rattle.batch.proofs.Rooms.{room}
use Rattle.batch.proofs.Laws.{trailer_taken}
use borrow.Author.Rules.{rules}
use Rattle.batch.proofs.walk.take_trailer.Goals as goal

pub end-ended-requires : goal.end-ended-requires
end-ended-requires c = search (rules, room)

pub returns : goal.returns
returns c = search (rules, trailer_taken)
