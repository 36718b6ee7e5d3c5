-- Each public function's contract allows one result for the same arguments: stated over the contract itself.
-- Assumes nothing.
use mathlib.Core.Path.{sym, ◌∙◌}
use Rattle.record.proofs.Unique.{OneResult}
use Rattle.money.proofs.field_amount.Reads as field-amount
use Rattle.money.proofs.plus.Reads as plus
use Rattle.money.proofs.is_equal.Reads as is-equal
use Rattle.money.proofs.is_above.Reads as is-above
use Rattle.money.proofs.enter.Reads as enter
use Rattle.money.proofs.comes_to.Reads as comes-to

pub field_amount_unique : OneResult field-amount.Post
field_amount_unique κs a r s x y p q = p ∙ sym q

pub plus_unique : OneResult plus.Post
plus_unique κs a r s x y p q = p ∙ sym q

pub is_equal_unique : OneResult is-equal.Post
is_equal_unique κs a r s x y p q = p ∙ sym q

pub is_above_unique : OneResult is-above.Post
is_above_unique κs a r s x y p q = p ∙ sym q

pub enter_unique : OneResult enter.Post
enter_unique κs a r s x y p q = p ∙ sym q

pub comes_to_unique : OneResult comes-to.Post
comes_to_unique κs a r s x y p q = p ∙ sym q
