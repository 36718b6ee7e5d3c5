-- Each public function's contract allows one result for the same arguments: stated over the contract itself.
-- Assumes nothing.
use mathlib.Core.Path.{◌≡◌, sym, ◌∙◌}
use Rattle.std.specs.Prelude.{option_copied}
use Rattle.record.proofs.Unique.{OneResult}
use Rattle.book.proofs.Chains.{opened_one}
use Rattle.book.proofs.reading.read_book.Reads as read-book
use Rattle.book.proofs.search.find.Reads as find
use Rattle.book.proofs.search.flag.Reads as flag
use Rattle.book.proofs.search.look_up.Reads as look_up

pub read_book_unique : OneResult read-book.Post
read_book_unique κs a r s x y p q = opened_one _ r s p q

-- of a part of the book the contract fixes whether there is one, and its bytes; it cannot speak of an address
pub find_unique : (κs : _) (a : _) (r s : _) (x y : _) → find.Post κs a r x → find.Post κs a s y → option_copied r ≡ option_copied s
find_unique κs a r s x y p q = p ∙ sym q

pub flag_unique : OneResult flag.Post
flag_unique κs a r s x y p q = p ∙ sym q

pub look_up_unique : OneResult look_up.Post
look_up_unique κs a r s x y p q = p ∙ sym q
