-- The report of an accepted file (01 Report): the head, a row for each batch in file order, and every byte past the last row as it was.
use Rattle.std.specs.Prelude.{Ok, Err, ℕ, Option, ◌+◌, ◌≤◌, ◌≡◌, List, [], ◌∷◌, ◌++◌, map, length, drop}
use Rattle.record.specs.Fields.{schedule_number}
use Rattle.record.specs.Value.{held}
use Rattle.money.specs.declared.Amount.{Amount}
use Rattle.money.specs.Money.{split}
use Rattle.calendar.specs.declared.Day.{Day}
use Rattle.book.specs.Book.{Contents}
use Rattle.nesting.specs.Division.{Batch, Division, DivisionOf, batch_lines, lines, payment_count}
use Rattle.nesting.specs.Paid.{paid_by_all}
use Rattle.nesting.specs.Records.{records, Cuttable}
use Rattle.report.specs.Rows.{row_bytes, rows_bytes, room_for}
use Rattle.tables.specs.Tables.{member}
use Rattle.reasons.specs.declared.Finding.{Finding}
use Rattle.reasons.specs.Findings.{Checked, number_of}
use Rattle.batch.specs.declared.Row.{Row}
use Rattle.batch.specs.Batch.{row_of}

-- the head: 0, 0, records, payments, total div 10^10, total mod 10^10, batches, 0
unfoldable pub head_row : ℕ → ℕ → Amount → ℕ → List ℕ
head_row records payments total batches = 0 ∷ 0 ∷ records ∷ payments ∷ total.high ∷ total.low ∷ batches ∷ 0 ∷ []

-- reason, record at fault, field at fault; zeros when sound
unfoldable pub finding_row : Checked Finding → List ℕ
finding_row (Ok u) = 0 ∷ 0 ∷ 0 ∷ []
finding_row (Err f) = number_of f.reason ∷ f.record_number ∷ f.field ∷ []

-- a batch: number of its first record, its record count, payments, total div and mod 10^10, and its finding
unfoldable pub batch_row : Row → List ℕ
batch_row r = r.first_record ∷ r.records ∷ r.payments ∷ r.total.high ∷ r.total.low ∷ finding_row r.finding

-- a batch's schedule number (field 6)
abbrev pub schedule_of : Batch → List ℕ
schedule_of b = held b.header schedule_number

-- the rows of batches in file order, after the earlier ones, with a book that lists this and today lent or not; the first has the header's
-- number n
unfoldable pub batch_rows : Contents → Option Day → ℕ → List Batch → List Batch → List (List ℕ)
batch_rows book today n earlier [] = []
batch_rows book today n earlier (b ∷ bs) =
    batch_row (row_of book today (member (schedule_of b) (map schedule_of earlier)) n b)
    ∷ batch_rows book today (n + length (batch_lines b)) (earlier ++ b ∷ []) bs

-- the head of a file's division: its records, its payments and what they come to, its batches
unfoldable pub head_of : Division → List ℕ
head_of d = head_row (length (lines d)) (payment_count d.batches) (split (paid_by_all d.batches)) (length d.batches)

-- the rows of its batches; FH is record 1
unfoldable pub rows_of : Contents → Option Day → Division → List (List ℕ)
rows_of book today d = batch_rows book today 2 [] d.batches

-- the report afterwards: the head, the rows, then what it held from there on
unfoldable pub reported : List ℕ → List ℕ → List (List ℕ) → List ℕ
reported before head rows = row_bytes head ++ (rows_bytes rows ++ drop (room_for (length rows)) before)

-- a file that nests, what its division comes to, and a report that has room for its rows (01 File answers, 6)
pub record Writable (file : List ℕ) (payments : ℕ) (total : Amount) (batches : ℕ) (report : List ℕ) : Type 0 where
  pub cuttable : Cuttable file
  pub division : Division
  pub divided : DivisionOf (records file) division
  pub paid : payment_count division.batches ≡ payments
  pub summed : split (paid_by_all division.batches) ≡ total
  pub count : length division.batches ≡ batches
  pub room : room_for batches ≤ length report

-- the head and the rows are those of the file's division
abbrev pub Written : Contents → Option Day → List ℕ → List ℕ → List ℕ → Type 0
Written book today file before after = (d : Division) → DivisionOf (records file) d → after ≡ reported before (head_of d) (rows_of book today d)
