-- The Gregorian calendar, and dates as fields write them (01 Date).
use Rattle.std.specs.Prelude.{ℕ, ◌+◌, ◌-◌, ◌*◌, ◌/◌, ◌%◌, Bool, not, List, [], ◌∷◌, leb, eqb, get_or, take}
use Rattle.std.proofs.Math.Seq.{slice}
use Rattle.record.specs.Choice.{◌and◌, ◌or◌, choose}
use Rattle.record.specs.Tests.{digits}
use Rattle.record.specs.Numeral.{numeral}

-- d divides n
abbrev pub divides : ℕ → ℕ → Bool
divides d n = eqb (n % d) 0

-- every fourth year, but of the full centuries only every fourth
unfoldable pub leap : ℕ → Bool
leap y = divides 4 y and (not (divides 100 y) or divides 400 y)

-- the days of each month, from January on, in a leap year or not
unfoldable pub lengths : Bool → List ℕ
lengths l = 31 ∷ choose l 29 28 ∷ 31 ∷ 30 ∷ 31 ∷ 30 ∷ 31 ∷ 31 ∷ 30 ∷ 31 ∷ 30 ∷ 31 ∷ []

-- the days of month m, counted from 1; of what is no month, none
unfoldable pub days_in : ℕ → ℕ → ℕ
days_in y m = get_or (0 ∷ lengths (leap y)) m 0

-- a day of the years 0001 to 9999
unfoldable pub real_day : ℕ → ℕ → ℕ → Bool
real_day y m d = leb 1 y and leb y 9999 and leb 1 d and leb d (days_in y m)

-- hyphens (hex 60) where CCYY-MM-DD has them, and digits elsewhere
unfoldable pub dashes : List ℕ → Bool
dashes xs =
    digits (slice 0 4 xs) and eqb (get_or xs 4 0) 0x60 and digits (slice 5 7 xs) and eqb (get_or xs 7 0) 0x60 and digits (slice 8 10 xs)

-- a date CCYY-MM-DD (004 fields 8 and 56)
unfoldable pub dashed_date : List ℕ → Bool
dashed_date xs = dashes xs and real_day (numeral (slice 0 4 xs)) (numeral (slice 5 7 xs)) (numeral (slice 8 10 xs))

-- a date YYYYMMDD (004 fields 17 and 59)
unfoldable pub plain_date : List ℕ → Bool
plain_date xs = digits xs and real_day (numeral (slice 0 4 xs)) (numeral (slice 4 6 xs)) (numeral (slice 6 8 xs))

-- MMYY with a month 01 to 12 (004 field 20)
unfoldable pub month_year : List ℕ → Bool
month_year xs = digits xs and leb 1 (numeral (slice 0 2 xs)) and leb (numeral (slice 0 2 xs)) 12

-- the days of months
unfoldable pub days_of : List ℕ → ℕ
days_of [] = 0
days_of (n ∷ ns) = n + days_of ns

-- the days of the years 0001 to y: 365 each, and one more every fourth year, but of the full centuries only every fourth
unfoldable pub years_through : ℕ → ℕ
years_through y = 365 * y + (y / 4 + y / 400 - y / 100)

-- the number of a day: 0001-01-01 is day 1 (02 W4)
unfoldable pub day_number : ℕ → ℕ → ℕ → ℕ
day_number y m d = years_through (y - 1) + days_of (take (m - 1) (lengths (leap y))) + d
