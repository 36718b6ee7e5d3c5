use Prim.Native.Nat.{◌*◌}
use Rattle.book.specs.Book.{listed_at}
use Rattle.batch.proofs.Turns.{Walking}
use Rattle.batch.proofs.pass.walk_batch.Given as goal

abbrev pub invariant-loop-index : goal.invariant-loop-index
invariant-loop-index l =
    Walking (listed_at l.book l.shelves) l.fn.today l.first.ascii l.rest l.first.number l.repeats l.told (record { state = l.state; climbing = l.climbing; records = l.index }) (l.index * 850)
