-- Little-endian bytes: how many they are, the number that they write, and back.
-- Assumes nothing.
use mathlib.Core.Path.{◌≡◌, refl, ap}
use mathlib.Core.List.{List, [], ◌∷◌}
use Prim.Native.Nat.{ℕ, zero, suc, ◌+◌, ◌*◌, ◌/◌, ◌%◌, ◌^◌, ◌<◌}
use native.Mathlib.Nat.{pow-suc}
use native.Mathlib.Omega.{arith}
use lib.ListN.{length, take, drop, get_or}
use Rattle.numbers.specs.Numbers.{little, number_in}

pub little_length : (width n : ℕ) → length (little width n) ≡ width
unfolding little
little_length zero n = refl
little_length (suc width) n = ap suc (little_length width (n / 256))

-- every element is a byte
unfoldable pub Bytes : List ℕ → Type 0
Bytes [] = Unit {0}
Bytes (x ∷ xs) = (x < 256) × Bytes xs

pub bytes_all : (xs : List ℕ) → ((i : ℕ) → get_or xs i 0 < 256) → Bytes xs
unfolding Bytes
bytes_all [] h = tt
bytes_all (x ∷ xs) h = (h 0, bytes_all xs (λ i. h (suc i)))

pub bytes_take : (n : ℕ) (xs : List ℕ) → Bytes xs → Bytes (take n xs)
unfolding Bytes
bytes_take zero xs b = tt
bytes_take (suc n) [] b = tt
bytes_take (suc n) (x ∷ xs) b = (b.0, bytes_take n xs b.1)

pub bytes_drop : (n : ℕ) (xs : List ℕ) → Bytes xs → Bytes (drop n xs)
unfolding Bytes
bytes_drop zero xs b = b
bytes_drop (suc n) [] b = tt
bytes_drop (suc n) (x ∷ xs) b = bytes_drop n xs b.1

-- a number that fits so many bytes is the one that they write
pub little_number : (width n : ℕ) → n < 256 ^ width → number_in (little width n) ≡ n
unfolding little number_in
little_number zero n h = omega (arith, h)
little_number (suc width) n h = rw (little_number width (n / 256) (omega (arith, rw pow-suc at h))) (omega arith)

-- and bytes are those of the number that they write
pub number_little : (xs : List ℕ) → Bytes xs → little (length xs) (number_in xs) ≡ xs
unfolding little number_in Bytes
number_little [] b = refl
number_little (x ∷ xs) b =
    let h : (x + number_in xs * 256) % 256 ≡ x = omega (arith, b.0) in
    let d : (x + number_in xs * 256) / 256 ≡ number_in xs = omega (arith, b.0) in
    rw (h, d, number_little xs b.1)
