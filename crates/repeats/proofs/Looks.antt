-- The numbers of one record more, and of none.
-- Assumes nothing.
use mathlib.Core.Path.{◌≡◌, refl}
use mathlib.Core.Bool.{Bool, true, false}
use mathlib.Core.List.{List, [], ◌∷◌, ◌++◌}
use Prim.Native.Nat.{ℕ}
use Rattle.record.specs.Choice.{choose}
use Rattle.record.specs.Value.{held}
use Rattle.nesting.specs.Division.{Record}
use Rattle.repeats.specs.declared.Sort.{Sort}
use Rattle.repeats.specs.Repeats.{numbering, is_of, numbers, Topped}

-- the numbers of one record more
pub choose_append : (b : Bool) (x : List ℕ) (xs ys : List (List ℕ)) → choose b (x ∷ (xs ++ ys)) (xs ++ ys) ≡ choose b (x ∷ xs) xs ++ ys
unfolding choose
choose_append true x xs ys = refl
choose_append false x xs ys = refl

pub numbers_snoc : (sort : Sort) (rs : List Record) (r : Record) → numbers sort (rs ++ r ∷ []) ≡ numbers sort rs ++ choose (is_of sort r) (held r (numbering sort) ∷ []) []
unfolding numbers
numbers_snoc sort [] r = refl
numbers_snoc sort (x ∷ rs) r = rw (numbers_snoc sort rs r) (choose_append (is_of sort x) (held x (numbering sort)) (numbers sort rs) _)

-- over no numbers, any will do
pub topped_none : (greatest : List ℕ) → Topped greatest []
unfolding Topped
topped_none greatest = tt
