-- The bytes of the report's rows, and where they stand (01 Report).
use Rattle.std.specs.Prelude.{ℕ, ◌+◌, ◌*◌, List, [], ◌∷◌, ◌++◌, length, take, drop}
use Rattle.numbers.specs.Numbers.{little}

-- a row: its numbers one after the other (01 Report: 8-byte little-endian numbers)
unfoldable pub row_bytes : List ℕ → List ℕ
row_bytes [] = []
row_bytes (n ∷ ns) = little 8 n ++ row_bytes ns

-- rows one after the other (01 Report: rows stand in file order)
unfoldable pub rows_bytes : List (List ℕ) → List ℕ
rows_bytes [] = []
rows_bytes (row ∷ rows) = row_bytes row ++ rows_bytes rows

-- where a batch's row begins, the batches counted from 0: behind the head's 64 bytes and 64 for each earlier row (01 Report)
unfoldable pub row_at : ℕ → ℕ
row_at place = 64 + place * 64

-- the room that the head and the rows of so many batches need: up to where the next row would begin (01 File answers, 6)
unfoldable pub room_for : ℕ → ℕ
room_for batches = row_at batches

-- bytes written over others from a place on; every other byte stays
unfoldable pub over : List ℕ → ℕ → List ℕ → List ℕ
over before at bytes = take at before ++ (bytes ++ drop (at + length bytes) before)
