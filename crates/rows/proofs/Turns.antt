-- The loop over a file's batches: the rows so far and those of the batches left are the report's.
-- Assumes nothing.
use Rattle.std.specs.Prelude.{Option, Ok, Err}
use Rattle.reasons.specs.declared.Finding.{Finding}
use Rattle.reasons.specs.Findings.{Checked}
use mathlib.Core.Path.{◌≡◌, refl, sym, ap, ◌∙◌}
use mathlib.Core.Bool.{Bool, false, true≢false}
use mathlib.Core.List.{List, [], ◌∷◌, ◌++◌, map, append_assoc, append-nil}
use Prim.Native.Nat.{ℕ, suc, ◌+◌, ◌-◌, ◌/◌, ◌<◌, ◌≤◌}
use native.Mathlib.Omega.{arith}
use lib.ListN.{length, take, drop, length-append, take-append-drop}
use lib.Seq.{length-take-le, take-take, take_at}
use Rattle.money.specs.declared.Amount.{Amount}
use Rattle.calendar.specs.declared.Day.{Day}
use Rattle.std.specs.Prelude.{None}
use Rattle.book.specs.Book.{Contents}
use Rattle.nesting.specs.Division.{Batch, Division, DivisionOf, batch_lines, records_before, lines}
use Rattle.nesting.specs.Records.{records}
use Rattle.nesting.proofs.Cuts.{cut_length}
use Rattle.nesting.proofs.OneDivision.{one_division}
use Rattle.report.specs.Rows.{row_bytes, rows_bytes, row_at, room_for, over}
use Rattle.report.proofs.Rows.{Eights, row_length, rows_snoc, rows_end, head_room, row_room, over_length}
use Rattle.repeats.specs.declared.Numbering.{Numbering}
use Rattle.tables.specs.Tables.{member}
use Rattle.repeats.specs.Schedules.{Noted, numbers_before, numbers_from, Batched, numbered, flagged}
use Rattle.repeats.proofs.Looks.{topped_none}
use Rattle.repeats.proofs.Schedules.{noted_next}
use Rattle.batch.specs.Batch.{row_of}
use Rattle.rows.specs.declared.Judged.{Judged}
use Rattle.rows.specs.Report.{head_row, finding_row, batch_row, schedule_of, batch_rows, head_of, rows_of, reported, Writable, Written}
use Rattle.rows.specs.Standing.{Stands, Opens, judged, IsWritten, flags_at, flags_in, Numberable}
use Rattle.rows.proofs.Places.{counted, number_is, before_is, before_after, from_here, from_after, is_batched}
use Rattle.rows.proofs.Sizes.{place_next, batches_few, batches_size}
use Rattle.rows.proofs.Reported.{reported_is, eights_next}
use Rattle.rows.proofs.Overs.{take_through}
use Rattle.rows.proofs.Flagging.{flags_end, flags_length, row_next, flagged_fits, rows_stay, rest_stays, flags_stay}

-- the first of batches, and none
first_of : (bs : List Batch) → 1 ≤ length bs → (b : Batch) × (rest : List Batch) × (bs ≡ b ∷ rest)
first_of [] h = absurd (omega arith)
first_of (b ∷ bs) h = (b, bs, refl)

none_left : (bs : List Batch) → length bs ≡ 0 → bs ≡ []
none_left [] h = refl
none_left (b ∷ bs) h = absurd (omega arith)

-- a report that has all rows, and behind them what it had
all_rows : (first report : List ℕ) (rows : List (List ℕ)) (batches : ℕ) → Eights rows → length rows ≡ batches
    → take (row_at batches) report ≡ take (row_at 0) first ++ rows_bytes rows → drop (room_for batches) report ≡ drop (room_for batches) first
    → report ≡ over first (row_at 0) (rows_bytes rows)
unfolding over room_for
all_rows first report rows batches h n f r =
    let e : row_at 0 + length (rows_bytes rows) ≡ row_at batches = rows_end rows h ∙ ap row_at n in
    sym (take-append-drop (row_at batches) report) ∙ (λ i. f i ++ r i) ∙ rw e (append_assoc (take (row_at 0) first) (rows_bytes rows) (drop (row_at batches) first))

-- what a row says of its finding is three numbers
three : (f : Checked Finding) → length (finding_row f) ≡ 3
unfolding finding_row
three (Ok tt) = refl
three (Err f) = refl

-- the report `first` has the head; behind it the rows of the earlier batches stand in the report, those of the later ones are left, and
-- what is known of their numbers is noted
pub record Going (book : Contents) (today : Option Day) (file : List ℕ) (payments batches : ℕ) (first report greatest : List ℕ) (marked : Bool) (place written : ℕ) : Type 0 where
  pub total : Amount
  pub writable : Writable file payments total batches first
  pub earlier : List Batch
  pub later : List Batch
  pub whole : writable.division.batches ≡ earlier ++ later
  pub start : place ≡ records_before earlier
  pub noted : Noted (map schedule_of earlier) (map schedule_of later) greatest marked (flags_in batches written report)
  pub rows : List (List ℕ)
  pub eights : Eights rows
  pub size : length rows ≡ written
  pub turns : written ≡ length earlier
  pub long : length report ≡ length first
  pub front : take (row_at written) report ≡ take (row_at 0) first ++ rows_bytes rows
  pub rear : drop (room_for batches) report ≡ drop (room_for batches) first
  pub decides : rows_of book today writable.division ≡ rows ++ batch_rows book today (place + 1) earlier later

module _ {book : Contents} {today : Option Day} {file : List ℕ} {payments batches : ℕ} {first report greatest : List ℕ} {marked : Bool} {place written : ℕ}
    (g : Going book today file payments batches first report greatest marked place written) where
  abbrev w : Writable file payments g.total batches first
  w = g.writable

  -- each row more is a batch less
  left : length g.later + written ≡ batches
  left =
      let l : length w.division.batches ≡ length g.earlier + length g.later = rw g.whole (length-append g.earlier g.later) in
      omega (arith, l, w.count, g.turns)

  room : room_for batches ≤ length report
  room = rw g.long w.room

  -- a batch is left
  module _ (h : written < batches) where
    next : (b : Batch) × (later : List Batch) × (g.later ≡ b ∷ later)
    next = first_of g.later (omega (arith, left))

    abbrev b : Batch
    b = next.0

    abbrev later : List Batch
    later = next.1

    -- it stands at the place
    stands : Stands file place g.earlier b
    stands =
        record {
          division = w.division;
          divided = w.divided;
          later = later;
          batches = g.whole ∙ ap (λ (bs : List Batch). g.earlier ++ bs) next.2;
          before = g.start;
        }

    pub opens : Opens file place
    opens = record { cuttable = w.cuttable; earlier = g.earlier; batch = b; stands = stands }

    left_here : length (b ∷ later) ≡ batches - written
    left_here =
        let e : length g.later ≡ length (b ∷ later) = ap length next.2 in
        omega (arith, left, e)

    -- there are few batches
    batches_below : batches < 65536
    unfolding stands
    batches_below =
        omega (arith, counted w.cuttable stands, w.cuttable.few, batches_few g.earlier, g.start, g.turns, left_here, batches_few later, batches_size later (w.division.trailer ∷ []))

    pub row_few : written < 65536
    row_few = omega (arith, batches_below)

    -- its header, and what is known of the numbers
    batched : Batched file place (flags_in batches written report)
    unfolding stands
    batched = is_batched w.cuttable stands (flags_in batches written report) (flags_length batches written report h room ∙ sym left_here)

    noted_here : Noted (numbers_before file place) (numbers_from file place) greatest marked (flags_in batches written report)
    unfolding stands
    noted_here =
        let e : map schedule_of g.later ≡ map schedule_of (b ∷ later) = ap (map schedule_of) next.2 in
        rw (before_is w.cuttable stands, from_here w.cuttable stands, ← e) g.noted

    pub numberable : Numberable file place greatest marked batches written report
    numberable = record { left = h; few = batches_below; room = room; batched = batched; noted = noted_here }

    -- after it
    module _ (n : Numbering) (mid : List ℕ) (e : n ≡ numbered file place greatest marked)
        (o : mid ≡ over report (flags_at batches written) (flagged file place greatest marked (flags_in batches written report))) where
      abbrev flags : List ℕ
      flags = flagged file place greatest marked (flags_in batches written report)

      fits : length flags ≡ batches - written
      fits = flagged_fits file place greatest marked batches written report numberable

      mid_length : length mid ≡ length report
      mid_length =
          rw o (over_length report (flags_at batches written) flags (rw fits (omega (arith, flags_end batches written h, room))))

      -- its row has room
      pub row_fits : row_at written + 64 ≤ length mid
      row_fits = rw mid_length (row_room (row_at written) written batches (length report) refl h room)

      repeats_is : n.repeats ≡ member (schedule_of b) (map schedule_of g.earlier)
      unfolding numbered
      repeats_is = rw (e, number_is w.cuttable stands, before_is w.cuttable stands)

      noted_after : (flags' : List ℕ) → flags' ≡ drop 1 flags → Noted (map schedule_of (g.earlier ++ b ∷ [])) (map schedule_of later) n.greatest n.marked flags'
      unfolding stands
      noted_after flags' q =
          rw (q, e, ← before_after w.cuttable stands, ← from_after w.cuttable stands (flags_in batches written report) batched)
          (noted_next file place batched greatest marked noted_here)

      -- the rows with one more
      front_after : (row : List ℕ) → length row ≡ 64 → row_at written ≤ length (over report (flags_at batches written) flags) → (after : List ℕ)
          → after ≡ over (over report (flags_at batches written) flags) (row_at written) row
          → take (row_at (written + 1)) after ≡ (take (row_at 0) first ++ rows_bytes g.rows) ++ row
      front_after row l i after a =
          let s : row_at (written + 1) ≡ row_at written + length row = rw l (row_next written) in
          rw (a, s)
          (take_through (over report (flags_at batches written) flags) (row_at written) row i
          ∙ ap (λ (xs : List ℕ). xs ++ row) (rows_stay batches written report flags row h room fits l i ∙ g.front))

      pub turned : (next' : ℕ) (after : List ℕ) → IsWritten book today file n.repeats place written mid next' after → Going book today file payments batches first after n.greatest n.marked next' (written + 1)
      unfolding judged batch_rows batch_row stands
      turned next' after j =
          let r : Judged = judged book today n.repeats place b in
          let eight : length r.numbers ≡ 8 = ap (λ (k : ℕ). suc (suc (suc (suc (suc k))))) (three (row_of book today n.repeats (place + 1) b).finding) in
          let bytes : length (row_bytes r.numbers) ≡ 64 = row_length r.numbers eight in
          let z : next' ≡ place + length (batch_lines b) = (j g.earlier b stands).0 in
          let m : place + 1 + length (batch_lines b) ≡ next' + 1 = omega (arith, z) in
          let a : after ≡ over (over report (flags_at batches written) flags) (row_at written) (row_bytes r.numbers) = (j g.earlier b stands).1 ∙ rw o in
          let i : row_at written ≤ length (over report (flags_at batches written) flags) = rw (← o) (omega (arith, row_fits)) in
          let k : r.numbers ≡ batch_row (row_of book today (member (schedule_of b) (map schedule_of g.earlier)) (place + 1) b) =
          ap (λ (t : Bool). batch_row (row_of book today t (place + 1) b)) repeats_is in
          record {
            total = g.total;
            writable = w;
            earlier = g.earlier ++ b ∷ [];
            later = later;
            whole = stands.batches ∙ sym (append_assoc g.earlier (b ∷ []) later);
            start = omega (arith, z, g.start, place_next g.earlier b);
            noted = noted_after (flags_in batches (written + 1) after) (rw a (flags_stay batches written report flags (row_bytes r.numbers) h room fits bytes i));
            rows = g.rows ++ r.numbers ∷ [];
            eights = eights_next g.rows r.numbers g.eights eight;
            size = rw length-append (omega (arith, g.size));
            turns = rw length-append (omega (arith, g.turns));
            long = rw a (over_length (over report (flags_at batches written) flags) (row_at written) (row_bytes r.numbers) (rw (bytes, ← o) (row_fits))) ∙ ap length (sym o) ∙ mid_length ∙ g.long;
            front = front_after (row_bytes r.numbers) bytes i after a ∙ rw (rows_snoc g.rows r.numbers) (append_assoc (take (row_at 0) first) (rows_bytes g.rows) (row_bytes r.numbers));
            rear = rw a (rest_stays batches written report flags (row_bytes r.numbers) h room fits bytes i) ∙ g.rear;
            decides =
                g.decides ∙ ap (λ (bs : List Batch). g.rows ++ batch_rows book today (place + 1) g.earlier bs) next.2
                ∙ (λ i. g.rows ++ sym k i ∷ batch_rows book today (m i) (g.earlier ++ b ∷ []) later)
                ∙ sym (append_assoc g.rows (r.numbers ∷ []) _);
          }

-- the same of another report with the head, which differs at the rows alone
module _ {book : Contents} {today : Option Day} {file : List ℕ} {payments batches : ℕ} {first report greatest : List ℕ} {marked : Bool} {place written : ℕ}
    (g : Going book today file payments batches first report greatest marked place written) where
  based : (other : List ℕ) → length other ≡ length first → take (row_at 0) other ≡ take (row_at 0) first → drop (room_for batches) other ≡ drop (room_for batches) first
      → Going book today file payments batches other report greatest marked place written
  based other l f r =
      record {
        total = g.total;
        writable =
            record {
              cuttable = g.writable.cuttable;
              division = g.writable.division;
              divided = g.writable.divided;
              paid = g.writable.paid;
              summed = g.writable.summed;
              count = g.writable.count;
              room = rw l g.writable.room;
            };
        earlier = g.earlier;
        later = g.later;
        whole = g.whole;
        start = g.start;
        noted = g.noted;
        rows = g.rows;
        eights = g.eights;
        size = g.size;
        turns = g.turns;
        long = g.long ∙ sym l;
        front = g.front ∙ ap (λ (xs : List ℕ). xs ++ rows_bytes g.rows) (sym f);
        rear = g.rear ∙ sym r;
        decides = g.decides;
      }

  head_stays : take (row_at 0) report ≡ take (row_at 0) first
  unfolding row_at room_for
  head_stays =
      let n : length (take (row_at 0) first) ≡ row_at 0 = length-take-le (row_at 0) first (omega (arith, g.writable.room)) in
      sym (take-take (row_at 0) (row_at written) report (omega arith)) ∙ ap (take (row_at 0)) g.front ∙ take_at (take (row_at 0) first) (rows_bytes g.rows) (row_at 0) n

-- of the report that it is itself, and back
module _ {book : Contents} {today : Option Day} {file : List ℕ} {payments batches : ℕ} {first report greatest : List ℕ} {marked : Bool} {place written : ℕ}
    (g : Going book today file payments batches first report greatest marked place written) where
  pub rebased : Going book today file payments batches report report greatest marked place written
  rebased = based g report g.long (head_stays g) g.rear

  pub onward : {later greatest' : List ℕ} {marked' : Bool} {place' written' : ℕ} → Going book today file payments batches report later greatest' marked' place' written'
      → Going book today file payments batches first later greatest' marked' place' written'
  onward h = based h first (sym g.long) (sym (head_stays g)) (sym g.rear)

-- the head is written, and what the file's division comes to is what it says
module _ {file : List ℕ} {payments : ℕ} {total : Amount} {batches : ℕ} {before head first : List ℕ} (w : Writable file payments total batches before)
    {count : ℕ} (n : count ≡ length file / 850) (e : head ≡ head_row count payments total batches) (p : first ≡ over before 0 (row_bytes head)) where
  head_eight : length head ≡ 8
  unfolding head_row
  head_eight = ap length e

  head_is : (d : Division) → DivisionOf (records file) d → head ≡ head_of d
  unfolding head_of records
  head_is d h =
      let o : w.division ≡ d = one_division (records file) w.division d w.divided h in
      let l : length file / 850 ≡ length (lines d) = sym (ap length h.whole ∙ cut_length 1 (length file / 850) file) in
      e ∙ rw (n, l, ← w.paid, ← w.summed, ← w.count, o)

  head_kept : length first ≡ length before
  head_kept = rw p (over_length before 0 (row_bytes head) (rw (row_length head head_eight) (omega (arith, head_room batches (length before) w.room))))

  -- before the first batch
  pub begun : (book : Contents) (today : Option Day) (greatest : List ℕ) → Going book today file payments batches first first greatest false 1 0
  unfolding rows_of rows_bytes
  begun book today greatest =
      record {
        total = total;
        writable =
            record {
              cuttable = w.cuttable;
              division = w.division;
              divided = w.divided;
              paid = w.paid;
              summed = w.summed;
              count = w.count;
              room = rw head_kept w.room;
            };
        earlier = [];
        later = w.division.batches;
        whole = refl;
        start = refl;
        noted = record { rising = λ e. topped_none greatest; marks = λ e. absurd (true≢false (sym e)) };
        rows = [];
        eights = tt;
        size = refl;
        turns = refl;
        long = refl;
        front = sym (append-nil (take (row_at 0) first));
        rear = refl;
        decides = refl;
      }

  -- there is a batch
  pub some : 0 < batches
  some = omega (arith, w.divided.legal.some_batches, w.count)

  -- the first batch stands behind FH, whatever the book lists and whatever the day
  nothing : Contents
  nothing = record { systems = []; locations = []; betcs = []; types = []; states = []; countries = []; currencies = [] }

  pub first_opens : Opens file 1
  first_opens = opens (begun nothing None []) some

  pub first_numberable : (greatest : List ℕ) → Numberable file 1 greatest false batches 0 first
  first_numberable greatest = numberable (begun nothing None greatest) some

  module _ (greatest : List ℕ) (o : Numbering) (mid : List ℕ) (q : o ≡ numbered file 1 greatest false)
      (f : mid ≡ over first (flags_at batches 0) (flagged file 1 greatest false (flags_in batches 0 first))) where
    pub first_fits : row_at 0 + 64 ≤ length mid
    first_fits = row_fits (begun nothing None greatest) some o mid q f

    -- after it
    pub opened : (book : Contents) (today : Option Day) (place : ℕ) (after : List ℕ) → IsWritten book today file o.repeats 1 0 mid place after → Going book today file payments batches first after o.greatest o.marked place 1
    opened book today place after j = turned (begun book today greatest) some o mid q f place after j

  -- the report keeps its length
  pub all_kept : {book : Contents} {today : Option Day} {report greatest : List ℕ} {marked : Bool} {place written : ℕ} → Going book today file payments batches first report greatest marked place written
      → length report ≡ length before
  all_kept g = g.long ∙ head_kept

  -- after the last
  pub finished : {book : Contents} {today : Option Day} {report greatest : List ℕ} {marked : Bool} {place written : ℕ} → Going book today file payments batches first report greatest marked place written
      → batches ≤ written → Written book today file before report
  unfolding batch_rows
  finished {book} {today} {report} {place = place} {written = written} g h d q =
      let n : g.later ≡ [] = none_left g.later (omega (arith, left g)) in
      let all : written ≡ batches = omega (arith, left g, ap length n) in
      let k : rows_of book today g.writable.division ≡ g.rows =
      g.decides ∙ ap (λ (bs : List Batch). g.rows ++ batch_rows book today (place + 1) g.earlier bs) n ∙ append-nil g.rows in
      let o : g.writable.division ≡ d = one_division (records file) g.writable.division d g.writable.divided q in
      let m : rows_of book today d ≡ g.rows = ap (rows_of book today) (sym o) ∙ k in
      let stand : report ≡ over first (row_at 0) (rows_bytes g.rows) = all_rows first report g.rows batches g.eights (g.size ∙ all) (rw all at g.front) g.rear in
      stand ∙ ap (λ (f : List ℕ). over f (row_at 0) (rows_bytes g.rows)) p ∙ reported_is before head g.rows head_eight g.eights
      ∙ (λ i. reported before (head_is d q i) (sym m i))
