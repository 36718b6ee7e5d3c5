-- The public function's contract allows one result for the same arguments: stated over the contract itself.
-- Assumes nothing.
use mathlib.Core.Path.{sym, ◌∙◌}
use Rattle.record.proofs.Unique.{OneResult}
use Rattle.words.proofs.is_after.Reads as is_after_holds

pub is_after_unique : OneResult is_after_holds.Post
is_after_unique κs a r s x y p q = p ∙ sym q
