-- The numbers of a section, and bytes cut into entries.
-- Assumes nothing.
use mathlib.Core.Path.{◌≡◌}
use mathlib.Core.List.{List, [], ◌∷◌}
use Prim.Native.Nat.{ℕ, suc, ◌+◌, ◌-◌, ◌*◌, ◌^◌, ◌≤◌, ◌<◌}
use native.Mathlib.Numerals.{add-one}
use native.Mathlib.Nat.{pow-le-pow_right, mul-le-mul_right, suc-mul}
use native.Mathlib.Omega.{arith}
use lib.ListN.{length, take, drop, length-take}
use lib.Seq.{drop-drop}
use Rattle.numbers.specs.Numbers.{number_in}
use Rattle.book.specs.Book.{cut}
use Rattle.book.specs.Reading.{size_at, kind_at}

-- a section's length and kind, as the code takes their bytes out of the book
pub size_read : (bs : List ℕ) (at n : ℕ) → n ≡ number_in (take (at + 4 - at) (drop at bs)) → n ≡ size_at bs at
unfolding size_at
size_read bs at n e =
    let w : at + 4 - at ≡ 4 = omega arith in
    rw w at e

pub size_small : (bs : List ℕ) (at n : ℕ) → n < 256 ^ length (take (at + 4 - at) (drop at bs)) → n < 4294967296
size_small bs at n h =
    let w : length (take (at + 4 - at) (drop at bs)) ≤ 4 = rw length-take (omega arith) in
    omega (arith, h, pow-le-pow_right {n = 256} (omega arith) w)

pub kind_read : (bs : List ℕ) (at n : ℕ) → n ≡ number_in (take (at + 6 - (at + 4)) (drop (at + 4) bs)) → n ≡ kind_at bs at
unfolding kind_at
kind_read bs at n e =
    let w : at + 6 - (at + 4) ≡ 2 = omega arith in
    rw w at e

-- i entries lie before the ones that are left
pub before : (i n w : ℕ) → i < n → i * w + w ≤ n * w
before i n w h =
    let s : suc i * w ≤ n * w = mul-le-mul_right w h in
    omega (arith, suc-mul i w, s)

pub next_place : (start i w at : ℕ) → at ≡ start + i * w → at + w ≡ start + (i + 1) * w
next_place start i w at e = rw (add-one, suc-mul) (omega arith)

-- one entry of those that are left
pub cut_next : (w n i : ℕ) (bs : List ℕ) (at : ℕ) → i < n → cut w (n - i) (drop at bs) ≡ take w (drop at bs) ∷ cut w (n - (i + 1)) (drop (at + w) bs)
unfolding cut
cut_next w n i bs at h =
    let m : n - i ≡ suc (n - (i + 1)) = omega arith in
    rw m (rw (drop-drop w at bs))

pub cut_none : (w n i : ℕ) (xs : List ℕ) → n ≤ i → cut w (n - i) xs ≡ []
unfolding cut
cut_none w n i xs h =
    let m : n - i ≡ 0 = omega arith in
    rw m
