-- What the entry promises: the first reason that applies and the report as it was, or 0 and the head and the rows of the file's division (01 File answers, Report);
-- of a file that is ASCII, what it promises of the translated file (02 W2). What is lent for today is a real day, or nothing (02 W4).
use Rattle.std.specs.Prelude.{ℕ, ◌+◌, ◌*◌, List, length}
use Rattle.page.specs.CodePage.{translated}
use Rattle.calendar.specs.Clock.{today_of}
use Rattle.book.specs.Book.{Contents, Lists}
use Rattle.nesting.specs.Division.{Division, DivisionOf}
use Rattle.nesting.specs.Records.{records}
use Rattle.verdict.specs.declared.reason.Reason.{Reason}
use Rattle.verdict.specs.Answer.{number_of, Applies, Refused}
use Rattle.rows.specs.Report.{head_of, rows_of, reported}

-- the number returned and the report afterwards
pub data Judged (file book today report : List ℕ) : ℕ → List ℕ → Type 0 where
  refused : (k : Reason) (m : ℕ) → Refused file book today (length report) k m → Judged file book today report (number_of k * 100000 + m) report
  accepted : ((j : Reason) → Applies file book today (length report) j → ⊥) → (c : Contents) → Lists book c → (d : Division) → DivisionOf (records file) d
      → Judged file book today report 0 (reported report (head_of d) (rows_of c (today_of today) d))

-- the answer and the report are those of the translated file; a file that is not ASCII is its own translation (02 W2)
abbrev pub Promised : List ℕ → List ℕ → List ℕ → List ℕ → ℕ → List ℕ → Type 0
Promised file book today report answer after = Judged (translated file) book today report answer after
