-- Each public function's contract allows one result for the same arguments: stated over the contract itself.
-- Assumes nothing.
use mathlib.Core.Path.{◌≡◌, sym, ◌∙◌}
use Rattle.report.proofs.row_at.Reads as row_at
use Rattle.report.proofs.room_for.Reads as room_for
use Rattle.report.proofs.write_row.Reads as write-row

pub row_at_unique : (κs : _) (a : _) (r s : _) (x y : _) → row_at.Post κs a r x → row_at.Post κs a s y → r ≡ s
row_at_unique κs a r s x y p q = p ∙ sym q

pub room_for_unique : (κs : _) (a : _) (r s : _) (x y : _) → room_for.Post κs a r x → room_for.Post κs a s y → r ≡ s
room_for_unique κs a r s x y p q = p ∙ sym q

-- `x.0` and `y.0` are the report afterwards
pub write_row_unique : (κs : _) (a : _) (r s : _) (x y : _) → write-row.Post κs a r x → write-row.Post κs a s y → x.0.now ≡ y.0.now
write_row_unique κs a r s x y p q = p ∙ sym q
