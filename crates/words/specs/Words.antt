-- Eight bytes as one number.
use Rattle.std.specs.Prelude.{ℕ, ◌+◌, ◌*◌, List, [], ◌∷◌}

-- behind a number, bytes of which each counts 256 times the next
unfoldable pub weight_from : ℕ → List ℕ → ℕ
weight_from n [] = n
weight_from n (x ∷ xs) = weight_from (n * 256 + x) xs

-- the number of bytes, the first counting most
unfoldable pub weight : List ℕ → ℕ
weight xs = weight_from 0 xs
