-- What stands at a place, and a test of every byte of a part of it, from the front: what is left decides.
-- Assumes nothing.
use mathlib.Core.Path.{◌≡◌, refl, sym, ap, ◌∙◌}
use mathlib.Core.Bool.{Bool, true, false}
use mathlib.Core.List.{List, [], ◌∷◌, ◌++◌}
use Prim.Native.Nat.{ℕ, zero, suc, ◌+◌, ◌-◌, ◌≤◌, ◌<◌, min}
use native.Mathlib.Nat.{le_of_suc-le-suc, not-suc-le-zero}
use native.Mathlib.Omega.{arith}
use lib.Dec.{leb}
use borrow.Author.Tests.{lt-leb, le-leb, leb-true, leb-false}
use lib.ListN.{length, take, drop, get_or, length-take, length-drop, take-append-drop}
use lib.Seq.{get_or-drop, get_or-take, slice, take-nil, take_all}
use Rattle.record.specs.declared.place.Place.{Place}
use Rattle.record.specs.Choice.{◌and◌}
use Rattle.record.specs.Place.{Within, value}
use Rattle.record.specs.Tests.{every, digit, digits, valid, least_from}
use Rattle.record.proofs.Chain.{and_left, and_right, and_true}
use Rattle.page.proofs.Shown.{shown_byte, shown_length, shown_at}

-- a value has as many bytes as its place is wide, and each is the record's
pub value_length : (rec : List ℕ) (p : Place) → Within rec p → length (value rec p) ≡ p.width
unfolding value Within
value_length rec p h = simp (shown_length, length-take, length-drop) (omega arith)

value_at : (rec : List ℕ) (p : Place) (i : ℕ) → Within rec p → i < p.width → get_or (value rec p) i 0 ≡ shown_byte p.ascii (get_or rec (p.start + i) 0)
unfolding value Within
value_at rec p i w h =
    let n : i < length (take p.width (drop p.start rec)) = simp (length-take, length-drop) (omega arith) in
    shown_at p.ascii (take p.width (drop p.start rec)) i n ∙ rw (get_or-take, get_or-drop)

module _ (rec : List ℕ) (p : Place) (i : ℕ) (w : Within rec p) (h : i < p.width) where
  pub value_plain : p.ascii ≡ false → get_or rec (p.start + i) 0 ≡ get_or (value rec p) i 0
  value_plain a = sym (value_at rec p i w h ∙ rw a)

-- a part that is the whole
pub whole : (rec : List ℕ) (p : Place) (n : ℕ) → Within rec p → p.width ≡ n → slice 0 n (value rec p) ≡ value rec p
whole rec p n w e = take_all n (value rec p) (omega (arith, value_length rec p w))

-- a part of a list, by its beginning and its length
pub slice_from : (from to : ℕ) (xs : List ℕ) → slice from to xs ≡ take (to - from) (drop from xs)
slice_from zero to xs =
    let n : to - 0 ≡ to = omega arith in
    rw n
slice_from (suc from) zero xs =
    let n : 0 - suc from ≡ 0 = omega arith in
    rw n
slice_from (suc from) (suc to) [] = sym (take-nil (suc to - suc from))
slice_from (suc from) (suc to) (x ∷ xs) =
    let n : suc to - suc from ≡ to - from = omega arith in
    rw n (slice_from from to xs)

-- a test that holds of every byte holds of each
pub every_at : (q : ℕ → Bool) (xs : List ℕ) (i : ℕ) → i < length xs → every q xs ≡ true → q (get_or xs i 0) ≡ true
unfolding every
every_at q [] i h e = absurd (not-suc-le-zero h)
every_at q (x ∷ xs) zero h e = and_left (q x) (every q xs) e
every_at q (x ∷ xs) (suc i) h e = every_at q xs i (le_of_suc-le-suc h) (and_right (q x) (every q xs) e)

-- a test that holds of every byte holds of those in front, and of those behind
pub every_take : (q : ℕ → Bool) (n : ℕ) (xs : List ℕ) → every q xs ≡ true → every q (take n xs) ≡ true
unfolding every ◌and◌
every_take q zero xs e = refl
every_take q (suc n) [] e = refl
every_take q (suc n) (x ∷ xs) e = rw (and_left (q x) (every q xs) e) (every_take q n xs (and_right (q x) (every q xs) e))

pub every_drop : (q : ℕ → Bool) (n : ℕ) (xs : List ℕ) → every q xs ≡ true → every q (drop n xs) ≡ true
unfolding every
every_drop q zero xs e = e
every_drop q (suc n) [] e = e
every_drop q (suc n) (x ∷ xs) e = every_drop q n xs (and_right (q x) (every q xs) e)

every_both : (q : ℕ → Bool) (xs ys : List ℕ) → every q xs ≡ true → every q ys ≡ true → every q (xs ++ ys) ≡ true
unfolding every ◌and◌
every_both q [] ys e h = h
every_both q (x ∷ xs) ys e h = rw (and_left (q x) (every q xs) e) (every_both q xs ys (and_right (q x) (every q xs) e) h)

-- a test that holds of every byte holds of every byte of a part
pub every_slice : (q : ℕ → Bool) (from to : ℕ) (xs : List ℕ) → every q xs ≡ true → every q (slice from to xs) ≡ true
every_slice q from to xs e = every_drop q from (take to xs) (every_take q to xs e)

pub digits_part : (from to : ℕ) (xs : List ℕ) (r : Bool) → r ≡ digits xs → r ≡ true → digits (slice from to xs) ≡ true
unfolding digits
digits_part from to xs r e h = every_slice digit from to xs (sym e ∙ h)

-- two parts that are digits
pub digits_halves : (xs : List ℕ) → digits (take 10 xs) ≡ true → digits (drop 10 xs) ≡ true → digits xs ≡ true
unfolding digits
digits_halves xs e h = ap (every digit) (sym (take-append-drop 10 xs)) ∙ every_both digit (take 10 xs) (drop 10 xs) e h

pub digit_in : (x : ℕ) → 0xF0 ≤ x → x ≤ 0xF9 → digit x ≡ true
unfolding digit ◌and◌
digit_in x h k = rw (le-leb 0xF0 x, le-leb x 0xF9)

pub digit_range : (x : ℕ) → digit x ≡ true → (0xF0 ≤ x) × (x ≤ 0xF9)
unfolding digit
digit_range x e = (leb-true 0xF0 x (and_left (leb 0xF0 x) (leb x 0xF9) e), leb-true x 0xF9 (and_right (leb 0xF0 x) (leb x 0xF9) e))

-- the least byte decides
pub above_min : (a x y : ℕ) → leb a (min x y) ≡ (leb a x and leb a y)
unfolding ◌and◌
above_min a x y = go (leb a x) refl (leb a y) refl
  where
    go : (s : Bool) → leb a x ≡ s → (t : Bool) → leb a y ≡ t → leb a (min x y) ≡ (leb a x and leb a y)
    go true e true f = rw (e, f) (le-leb a (min x y) (omega (arith, leb-true a x e, leb-true a y f)))
    go true e false f = rw (e, f) (lt-leb a (min x y) (omega (arith, leb-false a y f)))
    go false e t f = rw e (lt-leb a (min x y) (omega (arith, leb-false a x e)))

pub and_swap : (a b c : Bool) → ((a and b) and c) ≡ (b and (a and c))
unfolding ◌and◌
and_swap true true c = refl
and_swap true false c = refl
and_swap false true c = refl
and_swap false false c = refl

least_valid : (xs : List ℕ) (n : ℕ) → leb 0x40 (least_from n xs) ≡ (leb 0x40 n and every (λ (x : ℕ). leb 0x40 x) xs)
unfolding least_from every
least_valid [] n = sym (and_true (leb 0x40 n))
least_valid (x ∷ xs) n =
    least_valid xs (min x n) ∙ rw (above_min 0x40 x n) (and_swap (leb 0x40 x) (leb 0x40 n) (every (λ (x : ℕ). leb 0x40 x) xs))

pub valid_is : (xs : List ℕ) (r : ℕ) → r ≡ least_from 0xFF xs → leb 0x40 r ≡ valid xs
unfolding valid ◌and◌
valid_is xs r e = rw e (least_valid xs 0xFF)
