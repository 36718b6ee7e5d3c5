-- Each public function's contract allows one result for the same arguments: stated over the contract itself.
-- Assumes nothing.
use mathlib.Core.Path.{sym, ◌∙◌}
use Rattle.record.proofs.Unique.{OneResult}
use Rattle.nesting.proofs.reader.is_at.Reads as is_at
use Rattle.nesting.proofs.reader.fits.Reads as fits
use Rattle.nesting.proofs.reader.start.Reads as start
use Rattle.nesting.proofs.reader.after.Reads as after

pub is_at_unique : OneResult is_at.Post
is_at_unique κs a r s x y p q = p ∙ sym q

pub fits_unique : OneResult fits.Post
fits_unique κs a r s x y p q = p ∙ sym q

pub start_unique : OneResult start.Post
start_unique κs a r s x y p q = p ∙ sym q

pub after_unique : OneResult after.Post
after_unique κs a r s x y p q = p ∙ sym q
