-- A table of places: records in ascending order of a key, what a field holds or a DT's kind, each value once.
use Rattle.std.specs.Prelude.{ℕ, ◌+◌, ◌-◌, ◌*◌, ◌<◌, ◌≤◌, ◌≡◌, Bool, true, false, not, List, [], ◌∷◌, ◌++◌, ltb, length, take, drop, get_or}
use Rattle.std.specs.declared.cmp.Ordering.TheVariants.{Less}
use Rattle.record.specs.Choice.{◌and◌, ◌or◌, choose}
use Rattle.record.specs.Value.{held}
use Rattle.record.specs.Tests.{alike}
use Rattle.record.specs.Ordering.{order, is_before}
use Rattle.nesting.specs.Records.{record_at}
use Rattle.tables.specs.declared.Entry.{Entry}
use Rattle.tables.specs.declared.Entry.TheVariants.{Known, New, Full}
use Rattle.tables.specs.declared.Key.{Key}
use Rattle.tables.specs.declared.Key.TheVariants.{Value, Kind}
use Rattle.tables.specs.Kind.{kind}

-- the bytes have a whole record at the place, and its number is small
abbrev pub Stands : ℕ → ℕ → List ℕ → Type 0
Stands first place bytes = (place * 850 + 850 ≤ length bytes) × (first + place < 131072)

-- the value that a record has by the key
abbrev pub key_of : Key → List ℕ → List ℕ
key_of (Value field) rec = held rec field
key_of Kind rec = kind rec

-- the key's field lies in a record; a kind's do
abbrev pub InRecord : Key → Type 0
InRecord (Value field) = (1 ≤ field.start) × (field.start + field.width ≤ 851)
InRecord Kind = Unit {0}

-- the answer says that the table held the value
unfoldable pub tells_known : Entry → Bool
tells_known Known = true
tells_known New = false
tells_known Full = false

-- one of these values
unfoldable pub member : List ℕ → List (List ℕ) → Bool
member x [] = false
member x (y ∷ ys) = alike y x or member x ys

-- how many of these values stand before this one
unfoldable pub rank : List ℕ → List (List ℕ) → ℕ
rank x [] = 0
rank x (y ∷ ys) = choose (is_before (order y x)) 1 0 + rank x ys

-- the table with one place more at the seat; those from there on move up, and what follows the first `count` loses its first
unfoldable pub inserted_at : List ℕ → ℕ → ℕ → ℕ → List ℕ
inserted_at table count seat place = take seat table ++ place ∷ (take (count - seat) (drop seat table) ++ drop (count + 1) table)

module _ (first : ℕ) (key : Key) (bytes : List ℕ) where
  -- the value of the record at the place; the record at place 0 has the number `first`
  abbrev pub value_at : ℕ → List ℕ
  value_at place = key_of key (record_at first place bytes)

  -- the values of the records at these places
  unfoldable pub values_at : List ℕ → List (List ℕ)
  values_at [] = []
  values_at (p ∷ ps) = value_at p ∷ values_at ps

  -- the first `count` places of the table are those of whole records, in ascending order of their values
  pub record Tabled (table : List ℕ) (count : ℕ) : Type 0 where
    pub size : count ≤ length table
    pub few : length table ≤ 65536
    pub stand : (i : ℕ) → i < count → Stands first (get_or table i 0) bytes
    pub ascending : (i j : ℕ) → i < j → j < count → order (value_at (get_or table i 0)) (value_at (get_or table j 0)) ≡ Less

  -- the values that the table holds
  abbrev pub kept : List ℕ → ℕ → List (List ℕ)
  kept table count = values_at (take count table)

  module _ (table : List ℕ) (count place : ℕ) where
    -- the table holds the record's value
    unfoldable pub is_known : Bool
    is_known = member (value_at place) (kept table count)

    -- it does not, and has room for it
    unfoldable pub is_new : Bool
    is_new = not is_known and ltb count (length table)

    -- what became of the record
    unfoldable pub entry_of : Entry
    entry_of = choose is_known Known (choose is_new New Full)

    -- how many places the table holds after it
    unfoldable pub count_after : ℕ
    count_after = choose is_new (count + 1) count

    -- the table after it: a new value stands behind those before it, and what follows moves up by one place
    unfoldable pub table_after : List ℕ
    table_after = choose is_new (inserted_at table count (rank (value_at place) (kept table count)) place) table
