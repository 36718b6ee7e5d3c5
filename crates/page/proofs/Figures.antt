-- Bytes that are all digits, and their translation in a row.
-- Assumes nothing.
use mathlib.Core.Path.{◌≡◌, refl, ap}
use mathlib.Core.Bool.{Bool, true, ◌&&◌}
use Rattle.std.specs.List.{list_all}
use mathlib.Core.List.{List, [], ◌∷◌}
use Prim.Native.Nat.{ℕ, zero, suc, ◌+◌, ◌≤◌, ◌<◌}
use native.Mathlib.Omega.{arith}
use lib.Dec.{leb}
use lib.ListN.{length, get_or, set}
use borrow.Author.Tests.{leb-true}
use Rattle.page.specs.CodePage.{sent_digits}
use Rattle.page.proofs.CodePage.{both_left, both_right, digit_lands}
use Rattle.page.proofs.Shown.{Replaced, replaced_length, replaced_left, replaced_next}

-- the test of every byte
pub digits_all : (xs : List ℕ) → list_all (λ x. leb 0x30 x && leb x 0x39) xs ≡ sent_digits xs
unfolding sent_digits
digits_all [] = refl
digits_all (x ∷ xs) = ap (λ (b : Bool). (leb 0x30 x && leb x 0x39) && b) (digits_all xs)

figure_at : (xs : List ℕ) (i : ℕ) → sent_digits xs ≡ true → i < length xs → (0x30 ≤ get_or xs i 0) × (get_or xs i 0 ≤ 0x39)
unfolding sent_digits
figure_at [] i e h = absurd (omega (arith, h))
figure_at (x ∷ xs) zero e h =
    let b = both_left (leb 0x30 x && leb x 0x39) (sent_digits xs) e in
    (leb-true 0x30 x (both_left (leb 0x30 x) (leb x 0x39) b), leb-true x 0x39 (both_right (leb 0x30 x) (leb x 0x39) b))
figure_at (x ∷ xs) (suc i) e h = figure_at xs i (both_right (leb 0x30 x && leb x 0x39) (sent_digits xs) e) (omega (arith, h))

-- a digit that is still to be translated
module _ (before bytes : List ℕ) (i : ℕ) (d : sent_digits before ≡ true) (c : Replaced before bytes i) (h : i < length bytes) where
  figure : (0x30 ≤ get_or bytes i 0) × (get_or bytes i 0 ≤ 0x39)
  figure = rw (replaced_left before bytes i c h) (figure_at before i d (omega (arith, h, replaced_length before bytes i c)))

  pub shift_room : get_or bytes i 0 + 0xC0 < 256
  shift_room = omega (arith, figure)

  pub shift_next : Replaced before (set bytes i (get_or bytes i 0 + 0xC0)) (i + 1)
  shift_next = replaced_next before bytes i c _ h (digit_lands (get_or bytes i 0) figure.0 figure.1)
