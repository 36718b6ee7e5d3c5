-- Tests of what a field holds.
use Rattle.std.specs.Prelude.{ℕ, min, Bool, true, false, not, List, [], ◌∷◌, leb, eqb}
use Rattle.record.specs.Choice.{◌and◌}

-- the test holds of every byte
unfoldable pub every : (ℕ → Bool) → List ℕ → Bool
every p [] = true
every p (x ∷ xs) = p x and every p xs

-- every byte is b
unfoldable pub only : ℕ → List ℕ → Bool
only b xs = every (λ (x : ℕ). eqb x b) xs

-- all blank: hex 40 (01 Bytes)
abbrev pub blank : List ℕ → Bool
blank xs = only 0x40 xs

-- all zeros: hex F0 (01 Others, fields 36 and 48)
abbrev pub zeros : List ℕ → Bool
zeros xs = only 0xF0 xs

-- a digit is F0 to F9 (01 Bytes)
unfoldable pub digit : ℕ → Bool
digit x = leb 0xF0 x and leb x 0xF9

-- all digits (01 Batch reasons: a non-digit is badly shaped)
unfoldable pub digits : List ℕ → Bool
digits xs = every digit xs

-- no byte is blank (01 Batch reasons, field 7)
unfoldable pub solid : List ℕ → Bool
solid xs = every (λ (x : ℕ). not (eqb x 0x40)) xs

-- no byte is below hex 40 (004 section 1.4, 01 file answer 7)
unfoldable pub valid : List ℕ → Bool
valid xs = every (λ (x : ℕ). leb 0x40 x) xs

-- the least of n and the bytes: how the code decides `valid`
unfoldable pub least_from : ℕ → List ℕ → ℕ
least_from n [] = n
least_from n (x ∷ xs) = least_from (min x n) xs

-- the same bytes, over the full width (01 Bytes)
unfoldable pub alike : List ℕ → List ℕ → Bool
alike [] [] = true
alike [] (y ∷ ys) = false
alike (x ∷ xs) [] = false
alike (x ∷ xs) (y ∷ ys) = eqb x y and alike xs ys
