-- ASCII files (02 W2): which they are, and the bytes of code page 037 that theirs become.
use Rattle.std.specs.Prelude.{◌≡◌, ℕ, ◌+◌, ◌≤◌, ◌<◌, Bool, true, false, ◌&&◌, List, [], ◌∷◌, ◌++◌, map, leb, eqb, get_or, replicate}

-- the bytes of the printable characters, hex 20 to 7E, in code page 037: sixteen a line
unfoldable pub code_page : List ℕ
code_page =
    0x40 ∷ 0x5A ∷ 0x7F ∷ 0x7B ∷ 0x5B ∷ 0x6C ∷ 0x50 ∷ 0x7D ∷ 0x4D ∷ 0x5D ∷ 0x5C ∷ 0x4E ∷ 0x6B ∷ 0x60 ∷ 0x4B ∷ 0x61  -- blank to /
    ∷ 0xF0 ∷ 0xF1 ∷ 0xF2 ∷ 0xF3 ∷ 0xF4 ∷ 0xF5 ∷ 0xF6 ∷ 0xF7 ∷ 0xF8 ∷ 0xF9 ∷ 0x7A ∷ 0x5E ∷ 0x4C ∷ 0x7E ∷ 0x6E ∷ 0x6F  -- 0 to ?
    ∷ 0x7C ∷ 0xC1 ∷ 0xC2 ∷ 0xC3 ∷ 0xC4 ∷ 0xC5 ∷ 0xC6 ∷ 0xC7 ∷ 0xC8 ∷ 0xC9 ∷ 0xD1 ∷ 0xD2 ∷ 0xD3 ∷ 0xD4 ∷ 0xD5 ∷ 0xD6  -- @ to O
    ∷ 0xD7 ∷ 0xD8 ∷ 0xD9 ∷ 0xE2 ∷ 0xE3 ∷ 0xE4 ∷ 0xE5 ∷ 0xE6 ∷ 0xE7 ∷ 0xE8 ∷ 0xE9 ∷ 0xBA ∷ 0xE0 ∷ 0xBB ∷ 0xB0 ∷ 0x6D  -- P to _
    ∷ 0x79 ∷ 0x81 ∷ 0x82 ∷ 0x83 ∷ 0x84 ∷ 0x85 ∷ 0x86 ∷ 0x87 ∷ 0x88 ∷ 0x89 ∷ 0x91 ∷ 0x92 ∷ 0x93 ∷ 0x94 ∷ 0x95 ∷ 0x96  -- ` to o
    ∷ 0x97 ∷ 0x98 ∷ 0x99 ∷ 0xA2 ∷ 0xA3 ∷ 0xA4 ∷ 0xA5 ∷ 0xA6 ∷ 0xA7 ∷ 0xA8 ∷ 0xA9 ∷ 0xC0 ∷ 0x4F ∷ 0xD0 ∷ 0xA1 ∷ []  -- p to ~

-- characters in a row that land in a row: the first in ASCII, the first in EBCDIC, how many
pub record Row : Type 0 where
  pub sent : ℕ
  pub lands : ℕ
  pub count : ℕ

abbrev row : ℕ → ℕ → ℕ → Row
row sent lands count = record { sent = sent; lands = lands; count = count }

-- where letters, digits, blank and hyphen stand (01 Bytes)
unfoldable pub landings : List Row
landings =
    row 0x41 0xC1 9  -- A to I
    ∷ row 0x4A 0xD1 9  -- J to R
    ∷ row 0x53 0xE2 8  -- S to Z
    ∷ row 0x61 0x81 9  -- a to i
    ∷ row 0x6A 0x91 9  -- j to r
    ∷ row 0x73 0xA2 8  -- s to z
    ∷ row 0x30 0xF0 10  -- 0 to 9
    ∷ row 0x20 0x40 1  -- blank
    ∷ row 0x2D 0x60 1  -- hyphen
    ∷ []

-- the byte is a printable character's
abbrev pub Printable : ℕ → Type 0
Printable b = (0x20 ≤ b) × (b ≤ 0x7E)

-- a printable byte becomes its character's, any other 3F
unfoldable pub ebcdic : ℕ → ℕ
ebcdic b = get_or (replicate 0x20 0x3F ++ code_page) b 0x3F

-- every byte is a digit, as ASCII files send it
unfoldable pub sent_digits : List ℕ → Bool
sent_digits [] = true
sent_digits (x ∷ xs) = (leb 0x30 x && leb x 0x39) && sent_digits xs

-- the characters of these rows land so
abbrev pub Lands : List Row → Type 0
Lands [] = Unit {0}
Lands (r ∷ rs) = ((k : ℕ) → k < r.count → ebcdic (r.sent + k) ≡ r.lands + k) × Lands rs

-- bytes as the rules see them: of an ASCII file translated, of any other as they are
unfoldable pub shown : Bool → List ℕ → List ℕ
shown true bytes = map ebcdic bytes
shown false bytes = bytes

-- a file is ASCII whose first two bytes are 46 48
unfoldable pub is_ascii : List ℕ → Bool
is_ascii [] = false
is_ascii (x ∷ []) = false
is_ascii (x ∷ y ∷ rest) = eqb x 0x46 && eqb y 0x48

-- the whole file, translated if it is ASCII
unfoldable pub translated : List ℕ → List ℕ
translated file = shown (is_ascii file) file

-- a text and the same in EBCDIC: printable characters, each translated
unfoldable pub twins : List ℕ → List ℕ → Bool
twins [] [] = true
twins [] (t ∷ ts) = false
twins (a ∷ chars) [] = false
twins (a ∷ chars) (t ∷ ts) = (leb 0x20 a && leb a 0x7E) && (eqb (ebcdic a) t && twins chars ts)
