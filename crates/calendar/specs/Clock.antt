-- Today, and the rules that need it (02 W4).
use Rattle.std.specs.Prelude.{ℕ, ◌+◌, ◌-◌, Bool, true, List, Option, None, Some, leb, eqb, length}
use Rattle.std.proofs.Math.Seq.{slice}
use Rattle.record.specs.Choice.{◌and◌, ◌or◌, choose}
use Rattle.record.specs.Numeral.{numeral}
use Rattle.calendar.specs.declared.Day.{Day}
use Rattle.calendar.specs.declared.Month.{Month}
use Rattle.calendar.specs.declared.Span.{Span}
use Rattle.calendar.specs.declared.Span.TheVariants.{Ahead, Back}
use Rattle.calendar.specs.Calendar.{days_in, plain_date, month_year, day_number}

-- the day that YYYYMMDD writes
unfoldable pub day_in : List ℕ → Day
day_in xs =
    record {
      year = numeral (slice 0 4 xs);
      month = numeral (slice 4 6 xs);
      number = day_number (numeral (slice 0 4 xs)) (numeral (slice 4 6 xs)) (numeral (slice 6 8 xs));
    }

-- the month that MMYY writes: years 00 to 99 mean 2000 to 2099; what is no such month is at fault in its own field, and is none here
unfoldable pub month_in : List ℕ → Option Month
month_in xs = choose (month_year xs) (Some (record { year = 2000 + numeral (slice 2 4 xs); month = numeral (slice 0 2 xs) })) None

-- a month's first day and its last
unfoldable pub first_day : Month → ℕ
first_day m = day_number m.year m.month 1

unfoldable pub last_day : Month → ℕ
last_day m = day_number m.year m.month (days_in m.year m.month)

-- eight digits of a real day are lent
unfoldable pub lent_day : List ℕ → Bool
lent_day xs = eqb (length xs) 8 and plain_date xs

-- a real day is lent, or nothing
unfoldable pub lendable : List ℕ → Bool
lendable xs = eqb (length xs) 0 or lent_day xs

-- today, where it is lent
unfoldable pub today_of : List ℕ → Option Day
today_of xs = choose (lent_day xs) (Some (day_in xs)) None

-- the signed difference of two days by their numbers: how many the first lies ahead of the second, or back of it
unfoldable pub difference : ℕ → ℕ → Span
difference n m = choose (leb m n) (Ahead (n - m)) (Back (m - n))

-- at most k days ahead: what lies back is not ahead at all
unfoldable pub ahead_at_most : ℕ → Span → Bool
ahead_at_most k (Ahead n) = leb n k
ahead_at_most k (Back n) = true

-- at most k days back
unfoldable pub back_at_most : ℕ → Span → Bool
back_at_most k (Ahead n) = true
back_at_most k (Back n) = leb n k

-- the creation date is not after today (field 17)
unfoldable pub created : Day → Day → Bool
created today day = ahead_at_most 0 (difference day.number today.number)

-- the accounting year is not above today's, except January when today is in December
unfoldable pub year_allowed : Day → Month → Bool
year_allowed today month = leb month.year today.year or (eqb month.month 1 and eqb today.month 12)

-- the accounting month's first day is at most 31 days ahead, and its last day at most 180 days back; and its year is allowed, which the 31
-- days imply (field 20)
unfoldable pub accountable : Day → Month → Bool
accountable today month =
    ahead_at_most 31 (difference (first_day month) today.number)
    and back_at_most 180 (difference (last_day month) today.number)
    and year_allowed today month

-- the day lies in the month
unfoldable pub lies_in : Month → Day → Bool
lies_in month day = eqb day.year month.year and eqb day.month month.month

-- the issue date lies in the accounting month, is at most 180 days old and at most 30 days ahead (field 59)
unfoldable pub issued : Day → Month → Day → Bool
issued today month day =
    lies_in month day
    and back_at_most 180 (difference day.number today.number)
    and ahead_at_most 30 (difference day.number today.number)
