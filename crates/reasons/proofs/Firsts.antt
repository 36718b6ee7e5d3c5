-- The first finding, kept along a walk.
-- Assumes nothing.
use mathlib.Core.Path.{◌≡◌, refl, ap, ◌∙◌}
use mathlib.Core.List.{List, [], ◌∷◌, ◌++◌}
use Prim.Native.Nat.{ℕ}
use Rattle.std.specs.Prelude.{Ok, Err}
use Rattle.reasons.specs.declared.Reason.{Reason}
use Rattle.reasons.specs.declared.Finding.{Finding}
use Rattle.reasons.specs.Findings.{Checked, found, sound, first, noted, after}

-- a walk may keep the first finding and go on
pub after_append : (f : Checked Finding) (xs ys : List (Checked Finding)) → after f (xs ++ ys) ≡ after (after f xs) ys
unfolding after
after_append f [] ys = refl
after_append f (x ∷ xs) ys = after_append (noted f x) xs ys

-- a finding stays
pub stays : (f : Finding) (xs : List (Checked Finding)) → after (Err f) xs ≡ Err f
unfolding after noted
stays f [] = refl
stays f (x ∷ xs) = stays f xs

begin : (x : Checked Finding) (xs : List (Checked Finding)) → after sound xs ≡ first xs → after x xs ≡ noted x (first xs)
unfolding noted
begin (Ok tt) xs h = h
begin (Err f) xs h = stays f xs

-- from nothing, what is kept is the first
pub after_sound : (xs : List (Checked Finding)) → after sound xs ≡ first xs
unfolding after first noted
after_sound [] = refl
after_sound (x ∷ xs) = begin x xs (after_sound xs)

-- one finding more, of which the reason was worked out; and the last
pub more : (f g z : Checked Finding) (r s : Checked Reason) (n k : ℕ) (xs : List (Checked Finding)) → g ≡ noted f (found r n k) → r ≡ s → z ≡ after g xs
    → z ≡ after f (found s n k ∷ xs)
unfolding after
more f g z r s n k xs e h q = q ∙ ap (λ (u : Checked Finding). after u xs) (e ∙ ap (λ (v : Checked Reason). noted f (found v n k)) h)

pub last : (f g : Checked Finding) (r s : Checked Reason) (n k : ℕ) → g ≡ noted f (found r n k) → r ≡ s → g ≡ after f (found s n k ∷ [])
unfolding after
last f g r s n k e h = e ∙ ap (λ (v : Checked Reason). noted f (found v n k)) h
