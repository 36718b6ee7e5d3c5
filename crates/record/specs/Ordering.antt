-- The order of values by bytes (01 Code book): the first byte that differs decides, and a beginning stands before the whole.
use Rattle.std.specs.Prelude.{ℕ, Bool, true, false, List, [], ◌∷◌, ltb}
use Rattle.std.specs.declared.cmp.Ordering.{Ordering}
use Rattle.std.specs.declared.cmp.Ordering.TheVariants.{Less, Equal, Greater}
use Rattle.record.specs.Choice.{choose}

-- how the first stands to the second
unfoldable pub order : List ℕ → List ℕ → Ordering
order [] [] = Equal
order [] (y ∷ ys) = Less
order (x ∷ xs) [] = Greater
order (x ∷ xs) (y ∷ ys) = choose (ltb x y) Less (choose (ltb y x) Greater (order xs ys))

-- the first stands before the second
unfoldable pub is_before : Ordering → Bool
is_before Less = true
is_before Equal = false
is_before Greater = false

-- the first stands after the second
unfoldable pub is_after : Ordering → Bool
is_after Less = false
is_after Equal = false
is_after Greater = true
