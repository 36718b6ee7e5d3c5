-- Sections as bytes: what a section's bytes say, and the only entries that bytes can be.
-- Assumes nothing.
use mathlib.Core.Path.{◌≡◌, refl, sym, ap}
use mathlib.Core.Bool.{true}
use mathlib.Core.List.{List, [], ◌∷◌, ◌++◌, append_assoc}
use Prim.Native.Nat.{ℕ, zero, suc, ◌+◌, ◌*◌, ◌≤◌}
use native.Mathlib.Nat.{suc-mul}
use native.Mathlib.Omega.{arith}
use lib.ListN.{length, take, drop, length-take, length-drop, length-append}
use lib.Seq.{take_at, drop_at, take-add}
use Rattle.record.specs.Choice.{◌and◌}
use Rattle.record.proofs.Chain.{and_left, and_right}
use Rattle.book.specs.declared.Kind.{Kind}
use Rattle.book.specs.Book.{flagged, Each, joined, cut}
use Rattle.book.specs.Book.Each.{none, more}
use Rattle.book.specs.Reading.{flags}

-- entries and the bytes that they make
module _ (k : Kind) where
  pub joined_length : (es : List (List ℕ)) → Each k es → length (joined es) ≡ length es * k.entry
  unfolding joined
  joined_length [] none = omega arith
  joined_length (e ∷ es) (more _ _ l f r) = simp (length-append, suc-mul) (omega (arith, l, joined_length es r))

  pub cut_joined : (es : List (List ℕ)) (rest : List ℕ) → Each k es → cut k.entry (length es) (joined es ++ rest) ≡ es
  unfolding cut joined
  cut_joined [] rest none = refl
  cut_joined (e ∷ es) rest (more _ _ l f r) =
      rw (append_assoc e (joined es) rest, take_at e (joined es ++ rest) k.entry l, drop_at e (joined es ++ rest) k.entry l, cut_joined es rest r)

  pub each_flags : (es : List (List ℕ)) → Each k es → flags k.code es ≡ true
  unfolding flags ◌and◌
  each_flags [] none = refl
  each_flags (e ∷ es) (more _ _ l f r) = rw f (each_flags es r)

  pub cut_each : (n : ℕ) (xs : List ℕ) → n * k.entry ≤ length xs → flags k.code (cut k.entry n xs) ≡ true → Each k (cut k.entry n xs)
  unfolding cut flags
  cut_each zero xs h e = none
  cut_each (suc n) xs h e =
      let m : k.entry + n * k.entry ≤ length xs = omega (arith, suc-mul n k.entry) in
      more (take k.entry xs) (cut k.entry n (drop k.entry xs)) (simp length-take (omega arith)) (and_left _ _ e)
      (cut_each n (drop k.entry xs) (simp length-drop (omega arith)) (and_right (flagged k.code (take k.entry xs)) _ e))

pub cut_count : (w n : ℕ) (xs : List ℕ) → length (cut w n xs) ≡ n
unfolding cut
cut_count w zero xs = refl
cut_count w (suc n) xs = ap suc (cut_count w n (drop w xs))

pub joined_cut : (w n : ℕ) (xs : List ℕ) → joined (cut w n xs) ≡ take (n * w) xs
unfolding cut joined
joined_cut w zero xs =
    let z : 0 * w ≡ 0 = omega arith in
    rw z
joined_cut w (suc n) xs =
    let z : suc n * w ≡ w + n * w = omega (arith, suc-mul n w) in
    rw (z, joined_cut w n (drop w xs)) (sym (take-add w (n * w) xs))
