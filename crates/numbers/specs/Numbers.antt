-- Little-endian numbers (01 Code book: lengths and kinds; 01 Report: the numbers of a row).
use Rattle.std.specs.Prelude.{ℕ, zero, suc, ◌+◌, ◌*◌, ◌/◌, ◌%◌, List, [], ◌∷◌}

-- a number in so many bytes, the least first
unfoldable pub little : ℕ → ℕ → List ℕ
little zero n = []
little (suc width) n = n % 256 ∷ little width (n / 256)

-- the number that bytes write, the least first
unfoldable pub number_in : List ℕ → ℕ
number_in [] = 0
number_in (x ∷ xs) = x + number_in xs * 256
