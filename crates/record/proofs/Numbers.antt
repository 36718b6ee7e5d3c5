-- The number that digits write, once for every width.
-- Assumes nothing.
use mathlib.Core.Path.{◌≡◌, refl, sym, ◌∙◌}
use mathlib.Core.Bool.{true}
use mathlib.Core.List.{List, [], ◌∷◌, ◌++◌}
use Prim.Native.Nat.{ℕ, suc, ◌+◌, ◌-◌, ◌*◌, ◌^◌, ◌≤◌, ◌<◌}
use native.Mathlib.Numerals.{add-one}
use native.Mathlib.Nat.{pow-suc, pow-zero, pow-le-pow_right, add-mul, mul_assoc, mul_comm, mul-le-mul_right, lt_of_lt_of_le}
use native.Mathlib.Omega.{arith}
use lib.ListN.{length, take, get_or}
use lib.Seq.{slice, slice-cons, slice_empty, length-slice, get_or-drop, get_or-take}
use Rattle.record.specs.declared.place.Place.{Place}
use Rattle.record.specs.Place.{Within, value}
use Rattle.record.specs.Tests.{every, digit, digits}
use Rattle.record.specs.Numeral.{numeral, numeral_from}
use Rattle.record.proofs.Chain.{and_left, and_right}
use Rattle.record.proofs.Every.{value_length, every_at, digit_range}

-- a byte that was read from a part that is digits
pub digit_at : (rec : List ℕ) (p : Place) (from to i x : ℕ) → Within rec p → to ≤ p.width → from ≤ i → i < to → digits (slice from to (value rec p)) ≡ true
    → x ≡ get_or (value rec p) i 0 → (0xF0 ≤ x) × (x ≤ 0xF9)
unfolding digits
digit_at rec p from to i x w k l h e t =
    let n : to ≤ length (value rec p) = omega (arith, value_length rec p w) in
    let j : i - from < length (slice from to (value rec p)) = omega (arith, length-slice from to (value rec p) n) in
    let s : from + (i - from) ≡ i = omega arith in
    let a : get_or (slice from to (value rec p)) (i - from) 0 ≡ get_or (value rec p) i 0 =
    get_or-drop from (take to (value rec p)) (i - from) 0 ∙ rw s (get_or-take to (value rec p) i 0 h) in
    digit_range x (rw (t ∙ sym a) (every_at digit (slice from to (value rec p)) (i - from) j e))

-- the number so far has as many digits as were read
pub room : (s i n : ℕ) → s < 10 ^ i → i < n → n ≤ 18 → s < 100000000000000000
room s i n h k l =
    let j : i ≤ 17 = omega arith in
    omega (arith, pow-le-pow_right {n = 10} (omega arith) j)

pub grow : (s i d : ℕ) → s < 10 ^ i → d ≤ 9 → s * 10 + d < 10 ^ (i + 1)
grow s i d h l =
    let e : i + 1 ≡ suc i = omega arith in
    rw e (rw pow-suc (omega arith))

-- a number, digit by digit: what is left decides
unfoldable pub Read : List ℕ → ℕ → ℕ → ℕ → ℕ → Type 0
Read xs from to i n = numeral (slice from to xs) ≡ numeral_from n (slice i to xs)

pub read_none : (xs : List ℕ) (from to : ℕ) → Read xs from to from 0
unfolding Read numeral
read_none xs from to = refl

pub read_next : (rec : List ℕ) (p : Place) (from to i n d : ℕ) → Within rec p → to ≤ p.width → i < to → d ≡ get_or (value rec p) i 0 - 0xF0
    → Read (value rec p) from to i n → Read (value rec p) from to (i + 1) (n * 10 + d)
unfolding Read numeral_from
read_next rec p from to i n d w l h e r =
    let k : to ≤ length (value rec p) = omega (arith, value_length rec p w) in
    r ∙ rw (slice-cons i to (value rec p) 0, add-one, e)

pub read_end : (xs : List ℕ) (from to i n : ℕ) → i ≤ to → to ≤ i → Read xs from to i n → n ≡ numeral (slice from to xs)
unfolding Read numeral_from
read_end xs from to i n h k r =
    let e : i ≡ to = omega arith in
    sym (r ∙ rw (e, slice_empty))

-- digits before digits
num_append : (xs ys : List ℕ) (n : ℕ) → numeral_from n (xs ++ ys) ≡ numeral_from (numeral_from n xs) ys
unfolding numeral_from
num_append [] ys n = refl
num_append (x ∷ xs) ys n = num_append xs ys (n * 10 + (x - 0xF0))

num_from : (xs : List ℕ) (n : ℕ) → numeral_from n xs ≡ n * 10 ^ length xs + numeral_from 0 xs
unfolding numeral_from
num_from [] n = simp (pow-zero) (omega arith)
num_from (x ∷ xs) n =
    rw (num_from xs (n * 10 + (x - 0xF0)), num_from xs (0 * 10 + (x - 0xF0)), pow-suc, add-mul, mul_assoc n 10, mul_comm 10 (10 ^ length xs))
    (omega arith)

-- the number of a part before and a part after
pub numeral_append : (xs ys : List ℕ) → numeral (xs ++ ys) ≡ numeral xs * 10 ^ length ys + numeral ys
unfolding numeral
numeral_append xs ys = num_append xs ys 0 ∙ num_from ys (numeral_from 0 xs)

num_below : (xs : List ℕ) (n : ℕ) → every digit xs ≡ true → numeral_from n xs < (n + 1) * 10 ^ length xs
unfolding numeral_from every
num_below [] n e = omega arith
num_below (x ∷ xs) n e =
    let d = digit_range x (and_left (digit x) (every digit xs) e) in
    let r = num_below xs (n * 10 + (x - 0xF0)) (and_right (digit x) (every digit xs) e) in
    let m : n * 10 + (x - 0xF0) + 1 ≤ (n + 1) * 10 = omega (arith, d) in
    rw (pow-suc, mul_comm (10 ^ length xs) 10, ← mul_assoc (n + 1) 10 (10 ^ length xs)) (lt_of_lt_of_le r (mul-le-mul_right (10 ^ length xs) m))

-- n digits write a number below 10 ^ n
pub numeral_below : (xs : List ℕ) → digits xs ≡ true → numeral xs < 10 ^ length xs
unfolding digits numeral
numeral_below xs e = omega (arith, num_below xs 0 e)
