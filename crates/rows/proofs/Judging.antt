-- The batch that begins at a place is judged: the rest of the file begins with it.
-- Assumes nothing.
use Rattle.std.specs.Prelude.{Option}
use mathlib.Core.Path.{◌≡◌, ap, ◌∙◌}
use mathlib.Core.Bool.{Bool}
use mathlib.Core.List.{List}
use Prim.Native.Nat.{ℕ, ◌+◌, ◌-◌, ◌*◌, ◌/◌, ◌<◌, ◌≤◌}
use native.Mathlib.Omega.{arith}
use lib.ListN.{length, take, drop}
use Rattle.page.specs.CodePage.{shown}
use Rattle.page.proofs.Shown.{shown_length, shown_take, shown_drop}
use Rattle.calendar.specs.declared.Day.{Day}
use Rattle.book.specs.Book.{Contents}
use Rattle.nesting.specs.Division.{batch_lines}
use Rattle.batch.specs.declared.Row.{Row}
use Rattle.batch.specs.Batch.{Judgeable, IsRow, row_of}
use Rattle.report.specs.Rows.{row_bytes, row_at, over}
use Rattle.rows.specs.declared.Judged.{Judged}
use Rattle.rows.specs.Report.{batch_row}
use Rattle.rows.specs.Standing.{Opens, judged, IsJudged, IsWritten}
use Rattle.rows.proofs.Places.{rest_of, rest, counted, batch_of, judgeable}

module _ (ascii : Bool) (sent : List ℕ) {place : ℕ} (s : Opens (shown ascii sent) place) where
  abbrev f : List ℕ
  f = shown ascii sent

  size : place + length (batch_lines s.batch) + length (rest s.cuttable s.stands) ≡ length f / 850
  size = counted s.cuttable s.stands

  -- the place
  pub opens_few : place < 65535
  opens_few = omega (arith, size, s.cuttable.few)

  pub opens_start : place * 850 ≤ length sent
  opens_start = omega (arith, size, shown_length ascii sent)

  -- the rest of the file as the rules see it
  rest_is : shown ascii (rest_of sent place) ≡ rest_of f place
  rest_is = rw (shown_length ascii sent) (shown_take ascii (length sent - place * 850) (drop (place * 850) sent) ∙ ap (take (length sent - place * 850)) (shown_drop ascii (place * 850) sent))

  pub opens_judgeable : Judgeable (place + 1) (shown ascii (rest_of sent place))
  opens_judgeable = rw rest_is (judgeable s.cuttable s.stands)

  module _ (book : Contents) (today : Option Day) (repeats : Bool) (row : Row) (told : IsRow book today repeats (place + 1) (shown ascii (rest_of sent place)) row) where
    r : IsRow book today repeats (place + 1) (rest_of f place) row
    r = rw rest_is at told

    -- the batch's end
    pub ends_few : place + row.records ≤ 65535
    unfolding row_of
    ends_few =
        let e : row.records ≡ length (batch_lines s.batch) = ap (λ (q : Row). q.records) (r s.batch (batch_of s.cuttable s.stands)) in
        omega (arith, e, size, s.cuttable.few)

    -- what was found of it is what was asked
    pub is_judged : (ns : List ℕ) → ns ≡ batch_row row → IsJudged book today f repeats place (record { numbers = ns; place = place + row.records })
    unfolding judged row_of
    is_judged ns q earlier b t =
        let e : row ≡ row_of book today repeats (place + 1) b = r b (batch_of s.cuttable t) in
        let m : row.records ≡ length (batch_lines b) = ap (λ (q : Row). q.records) e in
        let o : ns ≡ batch_row (row_of book today repeats (place + 1) b) = q ∙ ap batch_row e in
        rw (o, m)

-- its row is written behind so many others
pub is_written : (book : Contents) (today : Option Day) (file : List ℕ) (repeats : Bool) (place written at : ℕ) (report after : List ℕ) (r : Judged) → IsJudged book today file repeats place r → at ≡ row_at written
    → after ≡ over report at (row_bytes r.numbers) → IsWritten book today file repeats place written report r.place after
is_written book today file repeats place written at report after r j q p earlier b t =
    let e : r ≡ judged book today repeats place b = j earlier b t in
    (ap (λ (x : Judged). x.place) e, p ∙ rw (q, e))
