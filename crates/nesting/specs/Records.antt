-- The records of a file: the file cut every 850 bytes (01 Bytes).
use Rattle.std.specs.Prelude.{◌≡◌, false, List, [], ◌∷◌, ◌++◌, ℕ, zero, suc, ◌+◌, ◌*◌, ◌/◌, ◌%◌, ◌≤◌, length, take, drop}
use Rattle.record.specs.declared.Line.{Line}
use Rattle.record.specs.Value.{seen}
use Rattle.nesting.specs.Division.{Record}

-- the line of the record with this number; its bytes are EBCDIC, as they were sent or translated (02 W2)
abbrev pub line_of : ℕ → Line
line_of number = record { number = number; ascii = false }

-- the first `count` records of the bytes, as the rules see them; the first has this number
unfoldable pub cut : ℕ → ℕ → List ℕ → List Record
cut number zero bytes = []
cut number (suc count) bytes = seen (line_of number) (take 850 bytes) ∷ cut (number + 1) count (drop 850 bytes)

-- the record at a place, counted from 0, as the rules see it; the record at place 0 has the number `first`
unfoldable pub record_at : ℕ → ℕ → List ℕ → Record
record_at first place bytes = seen (line_of (first + place)) (take 850 (drop (place * 850) bytes))

-- the records of a file, numbered from 1 (01 Bytes)
unfoldable pub records : List ℕ → List Record
records file = cut 1 (length file / 850) file

-- the bytes of records, one after the other
unfoldable pub joined : List Record → List ℕ
joined [] = []
joined (r ∷ rs) = r ++ joined rs

-- whole records, at most 65,535: what file answers 2 and 3 leave (01 File answers)
pub record Cuttable (file : List ℕ) : Type 0 where
  pub whole : length file % 850 ≡ 0
  pub few : length file ≤ 65535 * 850
