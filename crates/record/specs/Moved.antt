-- Where a value stands that has to be moved (02 W3): zeros, a part of the record, and blanks. Of the promises to other crates `field_part`'s alone names any of it: when there is no part.
use Rattle.std.specs.Prelude.{ℕ, ◌+◌, ◌-◌, ◌≤◌, ◌≡◌, Bool, true, false, not, Option, MatchOption, List, ◌++◌, eqb, length, get_or, replicate}
use Rattle.record.specs.declared.Justification.{Justification}
use Rattle.record.specs.declared.Justification.TheVariants.{Text, Number, Right, Fixed}
use Rattle.record.specs.declared.Field.{Field}
use Rattle.record.specs.declared.Line.{Line}
use Rattle.record.specs.declared.place.Place.{Place}
use Rattle.record.specs.declared.moved.Moved.{Moved}
use Rattle.record.specs.Choice.{◌and◌, choose}
use Rattle.record.specs.Correction.{corrected}
use Rattle.record.specs.Place.{Within, value, sent}
use Rattle.record.specs.Tests.{every}
use Rattle.record.specs.Value.{written}

-- the byte is no blank
abbrev pub filled : ℕ → Bool
filled x = not (eqb x 0x40)

-- the bytes begin where the value does: only what is fixed may begin with a blank
unfoldable pub in_front : Justification → List ℕ → Bool
in_front Text xs = filled (get_or xs 0 0x40)
in_front Number xs = filled (get_or xs 0 0x40)
in_front Right xs = filled (get_or xs 0 0x40)
in_front Fixed xs = true

-- the bytes end where the value does: a number may not end with a blank
unfoldable pub in_back : Justification → List ℕ → Bool
in_back Text xs = true
in_back Number xs = filled (get_or xs (length xs - 1) 0x40)
in_back Right xs = filled (get_or xs (length xs - 1) 0x40)
in_back Fixed xs = true

-- the bytes need no correction, as far as their ends show
unfoldable pub in_place : Justification → List ℕ → Bool
in_place j xs = in_front j xs and in_back j xs

-- the blanks of a moved value
abbrev pub blanks : Moved → ℕ
blanks m = m.width - (m.zeros + m.kept.width)

-- its bytes as the rules see them
unfoldable pub moved_value : List ℕ → Moved → List ℕ
moved_value rec m = replicate m.zeros 0xF0 ++ (value rec m.kept ++ replicate (blanks m) 0x40)

-- its bytes as they were sent, or would have been
unfoldable pub moved_sent : List ℕ → Moved → List ℕ
moved_sent rec m =
    replicate m.zeros (choose m.kept.ascii 0x30 0xF0) ++ (sent rec m.kept ++ replicate (blanks m) (choose m.kept.ascii 0x20 0x40))

-- its part lies in the record, and zeros and part in its width
pub record Fits (rec : List ℕ) (m : Moved) : Type 0 where
  pub within : Within rec m.kept
  pub room : m.zeros + m.kept.width ≤ m.width

-- the part of a place from one byte up to another
abbrev pub part_of : Place → ℕ → ℕ → Place
part_of p from to = record { start = p.start + from; width = to - from; ascii = p.ascii }

-- what stands from one byte on, moved left
abbrev pub left_of : Place → ℕ → Moved
left_of p from = record { zeros = 0; kept = part_of p from p.width; width = p.width }

-- what stands from one byte up to another, moved right
abbrev pub right_of : Place → ℕ → ℕ → Moved
right_of p from to = record { zeros = p.width - (to - from); kept = part_of p from to; width = p.width }

-- what `find` promises: the corrected value of the bytes at a place
pub record Found (rec : List ℕ) (p : Place) (j : Justification) (m : Moved) : Type 0 where
  pub fits : Fits rec m
  pub wide : m.width ≡ p.width
  pub holds : moved_value rec m ≡ corrected j (value rec p)

-- what `deciding` promises of a value: a test that no blank passes fails, or asks of the value what it asks of this part, if a zero passes it
abbrev pub Deciding : List ℕ → List ℕ → Option Place → Type 0
Deciding rec xs o =
    MatchOption o ((q : ℕ → Bool) → q 0x40 ≡ false → every q xs ≡ false)
    (λ p. Within rec p × ((q : ℕ → Bool) → q 0xF0 ≡ true → every q xs ≡ every q (value rec p)))

-- what the field holds is a part of the record: nothing is translated, and its ends show that nothing is moved
unfoldable pub readable : Line → Field → List ℕ → Bool
readable line f rec = not line.ascii and in_place f.justification (written rec f)
