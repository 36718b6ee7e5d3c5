-- Where a field's bytes stand in a record: known to `locate` and `byte` alone.
use Rattle.std.specs.Prelude.{ℕ, ◌+◌, ◌≤◌, min, ◌≡◌, Bool, false, List, [], ◌∷◌, leb, length, take, drop}
use Rattle.std.specs.Int.Bits.{bit_xor}
use Rattle.record.specs.declared.Field.{Field}
use Rattle.record.specs.declared.Line.{Line}
use Rattle.record.specs.declared.place.Place.{Place}
use Rattle.page.specs.CodePage.{shown}
use Rattle.record.specs.Choice.{choose}
use Rattle.record.specs.Value.{written, seen}

-- the place lies in the record
unfoldable pub Within : List ℕ → Place → Type 0
Within rec p = p.start + p.width ≤ length rec

-- the bytes at the place, as the rules see them
unfoldable pub value : List ℕ → Place → List ℕ
value rec p = shown p.ascii (take p.width (drop p.start rec))

-- the same place, of bytes that are taken as they were sent
abbrev pub plain : Place → Place
plain p = record { start = p.start; width = p.width; ascii = false }

-- the bytes at the place, as they were sent
abbrev pub sent : List ℕ → Place → List ℕ
sent rec p = value rec (plain p)

-- a digit, by the bits in which it differs from the byte of zero: F0, or 30 in ASCII
unfoldable pub near : ℕ → ℕ → Bool
near base x = leb (bit_xor x base) 9

-- the least of n and the bytes, those above 7E taken for 0: how the code decides `valid` of ASCII
unfoldable pub least_printable : ℕ → List ℕ → ℕ
least_printable n [] = n
least_printable n (x ∷ xs) = least_printable (min (choose (leb x 0x7E) x 0) n) xs

-- what `locate` promises: the place has the field's bytes
pub record PlaceOf (rec : List ℕ) (line : Line) (f : Field) (p : Place) : Type 0 where
  pub within : Within rec p
  pub wide : p.width ≡ f.width
  pub coded : p.ascii ≡ line.ascii
  pub holds : value rec p ≡ written (seen line rec) f

-- what `whole` promises: the place of all these bytes
pub record WholeOf (bytes : List ℕ) (p : Place) : Type 0 where
  pub within : Within bytes p
  pub wide : p.width ≡ length bytes
  pub plain : p.ascii ≡ false
  pub holds : value bytes p ≡ bytes
