use Rattle.book.proofs.Chains.{usable_read}
use Rattle.batch_vectors.proofs.show_table.Goals as goal

pub show_rows-requires : goal.show_rows-requires
show_rows-requires g c = usable_read _ _ _ c.read_book.ensures c.in-Some.is
