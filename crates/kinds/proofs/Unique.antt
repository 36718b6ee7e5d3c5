-- The public function's contract allows one result for the same arguments: stated over the contract itself.
-- Assumes nothing.
use mathlib.Core.Path.{sym, ◌∙◌}
use Rattle.record.proofs.Unique.{OneResult}
use Rattle.kinds.proofs.are_crowded.Reads as are-crowded

pub are_crowded_unique : OneResult are-crowded.Post
are_crowded_unique κs a r s x y p q = p ∙ sym q
