-- Each public function's contract allows one result for the same arguments: stated over the contract itself.
-- Assumes nothing.
use mathlib.Core.Path.{◌≡◌, sym, ◌∙◌}
use Rattle.numbers.proofs.wide.Reads as wide
use Rattle.numbers.proofs.read.Reads as read
use Rattle.numbers.proofs.write.Reads as write

pub wide_unique : (κs : _) (a : _) (r s : _) (x y : _) → wide.Post κs a r x → wide.Post κs a s y → r ≡ s
wide_unique κs a r s x y p q = p.0 ∙ sym q.0

pub read_unique : (κs : _) (a : _) (r s : _) (x y : _) → read.Post κs a r x → read.Post κs a s y → r ≡ s
read_unique κs a r s x y p q = p.0 ∙ sym q.0

-- `x.0` and `y.0` are the part afterwards
pub write_unique : (κs : _) (a : _) (r s : _) (x y : _) → write.Post κs a r x → write.Post κs a s y → x.0.now ≡ y.0.now
write_unique κs a r s x y p q = p ∙ sym q
