-- Each public function's contract allows one result for the same arguments: stated over the contract itself.
-- Assumes nothing.
use mathlib.Core.Path.{◌≡◌, sym, ◌∙◌}
use Rattle.page.proofs.translate.Reads as translate
use Rattle.page.proofs.translate_all.Reads as translate-all
use Rattle.page.proofs.is_ascii.Reads as is_ascii

-- any two results that a contract allows for the same arguments are equal
abbrev OneResult : {K : Type 0} {A R X : K → Type 0} → ((κs : K) → A κs → R κs → X κs → Type 0) → Type 0
OneResult {K} {A} {R} {X} Q = (κs : K) (a : A κs) (r s : R κs) (x y : X κs) → Q κs a r x → Q κs a s y → r ≡ s

pub translate_unique : OneResult translate.Post
translate_unique κs a r s x y p q = p ∙ sym q

-- `.0` is the bytes afterwards
pub translate_all_unique : (κs : _) (a : _) (r s : _) (x y : _) → translate-all.Post κs a r x → translate-all.Post κs a s y → x.0.now ≡ y.0.now
translate_all_unique κs a r s x y p q = p ∙ sym q

pub is_ascii_unique : OneResult is_ascii.Post
is_ascii_unique κs a r s x y p q = p ∙ sym q
