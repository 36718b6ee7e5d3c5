-- Each public function's contract allows one result for the same arguments: stated over the contract itself.
-- Assumes nothing.
use mathlib.Core.Path.{◌≡◌, sym, ◌∙◌}
use Rattle.record.proofs.Unique.{OneResult}
use Rattle.repeats.proofs.climb.climb.Reads as climb
use Rattle.repeats.proofs.first_repeat.Reads as first-repeat
use Rattle.repeats.proofs.number_batch.Reads as number-batch

pub climb_unique : OneResult climb.Post
climb_unique κs a r s x y p q = p ∙ sym q

pub first_repeat_unique : OneResult first-repeat.Post
first_repeat_unique κs a r s x y p q = p ∙ sym q

-- behind five arguments, `.0` is the flags afterwards
pub number_batch_unique : (κs : _) (a : _) (r s : _) (x y : _) → number-batch.Post κs a r x → number-batch.Post κs a s y → (r ≡ s) × (x.1.1.1.1.1.0.now ≡ y.1.1.1.1.1.0.now)
number_batch_unique κs a r s x y p q = (p.0 ∙ sym q.0, p.1 ∙ sym q.1)
