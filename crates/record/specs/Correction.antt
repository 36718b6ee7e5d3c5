-- Justification, as it is corrected (02 W3, 004 section 1.7): what the bytes of a field mean. A blank is hex 40 and nothing else.
use Rattle.std.specs.Prelude.{ℕ, ◌-◌, List, [], ◌∷◌, ◌++◌, eqb, length, replicate}
use Rattle.record.specs.declared.Justification.{Justification}
use Rattle.record.specs.declared.Justification.TheVariants.{Text, Number, Right, Fixed}
use Rattle.record.specs.Choice.{choose}
use Rattle.record.specs.Tests.{blank, digits}

-- without the blanks in front
unfoldable pub from_first : List ℕ → List ℕ
from_first [] = []
from_first (x ∷ xs) = choose (eqb x 0x40) (from_first xs) (x ∷ xs)

-- without the blanks behind
unfoldable pub up_to_last : List ℕ → List ℕ
up_to_last [] = []
up_to_last (x ∷ xs) = choose (blank (x ∷ xs)) [] (x ∷ up_to_last xs)

-- without the blanks at both ends
unfoldable pub trimmed : List ℕ → List ℕ
trimmed xs = up_to_last (from_first xs)

-- text: moved left and padded with blanks to full width
unfoldable pub moved_left : List ℕ → List ℕ
moved_left xs = from_first xs ++ replicate (length xs - length (from_first xs)) 0x40

-- field 7: moved right and padded with zeros to full width
unfoldable pub moved_right : List ℕ → List ℕ
moved_right xs = replicate (length xs - length (trimmed xs)) 0xF0 ++ trimmed xs

-- a number: one solid run of digits with blanks before or after it is padded with zeros on the left; any other shape is moved like text
unfoldable pub zero_padded : List ℕ → List ℕ
zero_padded xs = choose (digits (trimmed xs)) (moved_right xs) (moved_left xs)

-- what the bytes mean; all blank means all blank
unfoldable pub corrected : Justification → List ℕ → List ℕ
corrected Text xs = moved_left xs
corrected Number xs = choose (blank xs) xs (zero_padded xs)
corrected Right xs = choose (blank xs) xs (moved_right xs)
corrected Fixed xs = xs
