-- The number that digits write.
use Rattle.std.specs.Prelude.{ℕ, ◌+◌, ◌-◌, ◌*◌, List, [], ◌∷◌}

-- the number, where the digits read before these made n
unfoldable pub numeral_from : ℕ → List ℕ → ℕ
numeral_from n [] = n
numeral_from n (x ∷ xs) = numeral_from (n * 10 + (x - 0xF0)) xs

-- the number that a field of digits writes (004 section 1.7: zero padded on the left)
unfoldable pub numeral : List ℕ → ℕ
numeral xs = numeral_from 0 xs
