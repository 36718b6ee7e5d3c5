-- Alike is equal.
-- Assumes nothing.
use mathlib.Core.Path.{◌≡◌, refl, sym}
use mathlib.Core.Bool.{true, true≢false}
use mathlib.Core.List.{List, [], ◌∷◌}
use Prim.Native.Nat.{ℕ}
use lib.Dec.{eqb}
use borrow.Author.Tests.{eq-eqb, eqb-true}
use Rattle.record.specs.Choice.{◌and◌}
use Rattle.record.specs.Tests.{alike}
use Rattle.record.proofs.Chain.{and_left, and_right}

-- values that are alike are equal, and a value is alike to itself
pub alike_equal : (xs ys : List ℕ) → alike xs ys ≡ true → xs ≡ ys
unfolding alike
alike_equal [] [] e = refl
alike_equal [] (y ∷ ys) e = absurd (true≢false (sym e))
alike_equal (x ∷ xs) [] e = absurd (true≢false (sym e))
alike_equal (x ∷ xs) (y ∷ ys) e =
    let h : x ≡ y = eqb-true x y (and_left (eqb x y) (alike xs ys) e) in
    let t : xs ≡ ys = alike_equal xs ys (and_right (eqb x y) (alike xs ys) e) in
    λ i. h i ∷ t i

pub alike_self : (xs : List ℕ) → alike xs xs ≡ true
unfolding alike ◌and◌
alike_self [] = refl
alike_self (x ∷ xs) = rw (eq-eqb x x refl) (alike_self xs)
