-- The kind of a DT: its TAS/BETC (02 W1; 004 section 2.5).
use Rattle.std.specs.Prelude.{ℕ, List, [], ◌∷◌, ◌++◌, map}
use Rattle.record.specs.declared.Field.{Field}
use Rattle.record.specs.Value.{held}
use Rattle.record.specs.Layout.{layout, position_in, Record as Table}
use Rattle.nesting.specs.Division.{Record}

-- the fields of a DT that make its kind: 004's 78 to 86, positions 23 to 54 (02 W1)
unfoldable pub kind_fields : List Field
kind_fields = map (position_in (layout Table.Account)) (78 ∷ 79 ∷ 80 ∷ 81 ∷ 82 ∷ 83 ∷ 84 ∷ 85 ∷ 86 ∷ [])

-- what fields of a record hold, side by side
unfoldable pub held_by : Record → List Field → List ℕ
held_by t [] = []
held_by t (f ∷ fs) = held t f ++ held_by t fs

-- the kind of a DT; an all-blank one is a kind
unfoldable pub kind : Record → List ℕ
kind t = held_by t kind_fields
