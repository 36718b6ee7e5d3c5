-- How kinds are compared. No promise to other crates rests on it: the proofs tie it to Kind.antt.
use Rattle.std.specs.Prelude.{ℕ, suc, ◌+◌, ◌≤◌, ◌<◌, List, [], ◌∷◌, eqb, take, drop, get_or}
use Rattle.record.specs.declared.Field.{Field}
use Rattle.record.specs.Choice.{choose}
use Rattle.record.specs.Fields.{fixed}
use Rattle.tables.specs.Kind.{kind_fields}

-- the bytes of the kind's fields as they were sent: positions 23 to 54
unfoldable pub stretch : List ℕ → List ℕ
stretch rec = take 32 (drop 22 rec)

-- how many bytes, from the front, are the same in both
unfoldable pub common : List ℕ → List ℕ → ℕ
common [] ys = 0
common (x ∷ xs) [] = 0
common (x ∷ xs) (y ∷ ys) = choose (eqb x y) (suc (common xs ys)) 0

-- the kind's field at k, counted from 0
unfoldable pub kind_field : ℕ → Field
kind_field k = get_or kind_fields k (fixed 1 0)

-- the fields lie within the first n bytes of the stretch
unfoldable pub Under : ℕ → List Field → Type 0
Under n [] = Unit {0}
Under n (f ∷ fs) = (23 ≤ f.start) × (f.start + f.width ≤ 23 + n) × Under n fs

-- the fields end behind the first n bytes of the stretch
unfoldable pub Over : ℕ → List Field → Type 0
Over n [] = Unit {0}
Over n (f ∷ fs) = (23 + n < f.start + f.width) × Over n fs
