-- What a chain of iterators over bytes says, in the words of the documents.
-- Assumes nothing.
use mathlib.Core.Path.{◌≡◌, refl, ap, sym, ◌∙◌}
use mathlib.Core.Bool.{Bool, true, false, ◌&&◌}
use mathlib.Core.List.{List, [], ◌∷◌}
use Prim.Native.Nat.{ℕ, ◌+◌, ◌≤◌, ◌<◌, min, max}
use native.Mathlib.Omega.{arith}
use lib.Bits.{bit_xor}
use native.Mathlib.Numerals.{add-one}
use lib.Dec.{leb, eqb}
use lib.ListN.{length, drop, get_or, drop_of_length-le}
use lib.Seq.{drop-cons}
use borrow.Author.Tests.{le-leb, lt-leb, leb-true, leb-false}
use Rattle.std.specs.Cmp.Lexicographic.{pointwise}
use Rattle.std.specs.List.{fold, list_all}
use Rattle.std.specs.Prelude.{nat_eq}
use Rattle.record.specs.Choice.{◌and◌, choose}
use Rattle.record.specs.Place.{near, least_printable}
use Rattle.record.specs.Tests.{every, least_from, alike}
use Rattle.record.proofs.Chain.{and_true}
use Rattle.record.proofs.Every.{and_swap}

-- `all`
pub every_all : (q : ℕ → Bool) (xs : List ℕ) → list_all q xs ≡ every q xs
unfolding every ◌and◌
every_all q [] = refl
every_all q (x ∷ xs) = go (q x) ∙ ap (λ (b : Bool). q x and b) (every_all q xs)
  where
    go : (b : Bool) → (b && list_all q xs) ≡ (b and list_all q xs)
    go true = refl
    go false = refl

-- `==`
pub alike_pointwise : (xs ys : List ℕ) → pointwise nat_eq xs ys ≡ alike xs ys
unfolding alike ◌and◌
alike_pointwise [] [] = refl
alike_pointwise [] (y ∷ ys) = refl
alike_pointwise (x ∷ xs) [] = refl
alike_pointwise (x ∷ xs) (y ∷ ys) = go (eqb x y) ∙ ap (λ (b : Bool). eqb x y and b) (alike_pointwise xs ys)
  where
    go : (b : Bool) → (b && pointwise nat_eq xs ys) ≡ (b and pointwise nat_eq xs ys)
    go true = refl
    go false = refl

-- the same of two lists that are known by other names
module _ (xs ys cs ds : List ℕ) (p : xs ≡ cs) (q : ys ≡ ds) where
  pub alike_of : (r : Bool) → r ≡ pointwise nat_eq xs ys → r ≡ alike cs ds
  alike_of r e = e ∙ alike_pointwise xs ys ∙ ap (alike xs) q ∙ ap (λ (zs : List ℕ). alike zs ds) p

-- the folds
least_swap : (x y : ℕ) → min x y ≡ min y x
least_swap x y = omega arith

pub least_fold : (n : ℕ) (xs : List ℕ) → fold (λ a x. min a x) n xs ≡ least_from n xs
unfolding least_from
least_fold n [] = refl
least_fold n (x ∷ xs) = least_fold (min n x) xs ∙ ap (λ (m : ℕ). least_from m xs) (least_swap n x)

-- the least so far and what is left decide
unfoldable pub LowPrintable : List ℕ → ℕ → ℕ → Type 0
LowPrintable xs i low = least_printable 0xFF xs ≡ least_printable low (drop i xs)

pub low_none : (xs : List ℕ) → LowPrintable xs 0 0xFF
unfolding LowPrintable
low_none xs = refl

pub low_next : (xs : List ℕ) (i low y r : ℕ) → i < length xs → y ≡ choose (leb (get_or xs i 0) 0x7E) (get_or xs i 0) 0 → r ≡ min y low → LowPrintable xs i low → LowPrintable xs (i + 1) r
unfolding LowPrintable least_printable
low_next xs i low y r h e t l = l ∙ rw (add-one, drop-cons xs i 0, t, e)

pub low_end : (xs : List ℕ) (i low : ℕ) → length xs ≤ i → LowPrintable xs i low → low ≡ least_printable 0xFF xs
unfolding LowPrintable least_printable
low_end xs i low h l = sym (l ∙ rw (drop_of_length-le xs))

below_max : (a x y : ℕ) → leb (max x y) a ≡ (leb x a and leb y a)
unfolding ◌and◌
below_max a x y = go (leb x a) refl (leb y a) refl
  where
    go : (s : Bool) → leb x a ≡ s → (t : Bool) → leb y a ≡ t → leb (max x y) a ≡ (leb x a and leb y a)
    go true e true f = rw (e, f) (le-leb (max x y) a (omega (arith, leb-true x a e, leb-true y a f)))
    go true e false f = rw (e, f) (lt-leb (max x y) a (omega (arith, leb-false y a f)))
    go false e t f = rw e (lt-leb (max x y) a (omega (arith, leb-false x a e)))

greatest_swap : (x y : ℕ) → max x y ≡ max y x
greatest_swap x y = omega arith

near_from : (z n : ℕ) (xs : List ℕ) → leb (fold (λ a x. max a (bit_xor x z)) n xs) 9 ≡ (leb n 9 and every (near z) xs)
unfolding every near
near_from z n [] = sym (and_true (leb n 9))
near_from z n (x ∷ xs) =
    near_from z (max n (bit_xor x z)) xs
    ∙ rw (greatest_swap n (bit_xor x z), below_max 9 (bit_xor x z) n) (and_swap (leb (bit_xor x z) 9) (leb n 9) (every (near z) xs))

pub near_fold : (z r : ℕ) (xs : List ℕ) → r ≡ fold (λ a x. max a (bit_xor x z)) 0 xs → leb r 9 ≡ every (near z) xs
unfolding ◌and◌
near_fold z r xs e = rw e (near_from z 0 xs)
