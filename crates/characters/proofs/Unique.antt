-- Each public function's contract allows one result for the same arguments: stated over the contract itself.
-- Assumes nothing.
use mathlib.Core.Path.{sym, ◌∙◌}
use Rattle.record.proofs.Unique.{OneResult}
use Rattle.characters.proofs.is_clean.Reads as is-clean

pub is_clean_unique : OneResult is-clean.Post
is_clean_unique κs a r s x y p q = p ∙ sym q
