-- Where a batch stands in a file, what it adds to the report, and where the flags of the batches to come stand meanwhile.
use Rattle.std.specs.Prelude.{ℕ, Option, ◌+◌, ◌-◌, ◌<◌, ◌≤◌, ◌≡◌, Bool, List, ◌∷◌, ◌++◌, length, take, drop}
use Rattle.calendar.specs.declared.Day.{Day}
use Rattle.book.specs.Book.{Contents}
use Rattle.nesting.specs.Division.{Batch, Division, DivisionOf, batch_lines, records_before}
use Rattle.nesting.specs.Records.{records, Cuttable}
use Rattle.report.specs.Rows.{row_bytes, row_at, room_for, over}
use Rattle.repeats.specs.Schedules.{Noted, numbers_before, numbers_from, Batched}
use Rattle.batch.specs.Batch.{row_of}
use Rattle.rows.specs.declared.Judged.{Judged}
use Rattle.rows.specs.Report.{batch_row}

-- the batch stands in the file's division after the earlier ones, and so many records before it
pub record Stands (file : List ℕ) (place : ℕ) (earlier : List Batch) (b : Batch) : Type 0 where
  pub division : Division
  pub divided : DivisionOf (records file) division
  pub later : List Batch
  pub batches : division.batches ≡ earlier ++ b ∷ later
  pub before : place ≡ records_before earlier

-- a batch stands there
pub record Opens (file : List ℕ) (place : ℕ) : Type 0 where
  pub cuttable : Cuttable file
  pub earlier : List Batch
  pub batch : Batch
  pub stands : Stands file place earlier batch

-- the numbers of the batch's row, an earlier batch having its schedule number or not, and the records up to its end
unfoldable pub judged : Contents → Option Day → Bool → ℕ → Batch → Judged
judged book today repeats place b = record { numbers = batch_row (row_of book today repeats (place + 1) b); place = place + length (batch_lines b) }

-- they are those of the batch that stands there
abbrev pub IsJudged : Contents → Option Day → List ℕ → Bool → ℕ → Judged → Type 0
IsJudged book today file repeats place r = (earlier : List Batch) (b : Batch) → Stands file place earlier b → r ≡ judged book today repeats place b

-- the records up to its end, and the report with its row behind so many others
abbrev pub IsWritten : Contents → Option Day → List ℕ → Bool → ℕ → ℕ → List ℕ → ℕ → List ℕ → Type 0
IsWritten book today file repeats place written report next after =
    (earlier : List Batch) (b : Batch) → Stands file place earlier b
    → (next ≡ (judged book today repeats place b).place) × (after ≡ over report (row_at written) (row_bytes (judged book today repeats place b).numbers))

-- the flags of the batches whose rows are to come stand in the room of those rows, a byte each, up to where the last will end
unfoldable pub flags_at : ℕ → ℕ → ℕ
flags_at batches written = room_for batches - (batches - written)

unfoldable pub flags_in : ℕ → ℕ → List ℕ → List ℕ
flags_in batches written report = take (batches - written) (drop (flags_at batches written) report)

-- a batch's header stands at the place, so many rows are written, and the numbers before it are noted
pub record Numberable (file : List ℕ) (place : ℕ) (greatest : List ℕ) (marked : Bool) (batches written : ℕ) (report : List ℕ) : Type 0 where
  pub left : written < batches
  pub few : batches < 65536
  pub room : room_for batches ≤ length report
  pub batched : Batched file place (flags_in batches written report)
  pub noted : Noted (numbers_before file place) (numbers_from file place) greatest marked (flags_in batches written report)
