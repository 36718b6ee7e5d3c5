use Rattle.book.proofs.Chains.{usable_read}
use Rattle.book_vectors.proofs.show_book.Goals as goal

pub show_sections-requires : goal.show_sections-requires
show_sections-requires g c = usable_read _ _ _ c.read_book.ensures c.in-Some.is
