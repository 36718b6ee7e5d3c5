-- Worked examples of dates, each with its answer, and that every one is right.
-- Assumes nothing.
use Prim.Native.Nat.{ℕ, zero, suc, ◌+◌, ◌/◌, ◌%◌}
use mathlib.Core.Path.{◌≡◌, refl}
use mathlib.Core.Bool.{Bool, true, false, beq}
use mathlib.Core.List.{List, [], ◌∷◌, ◌++◌}
use lib.ListN.{take, drop}
use Rattle.record.specs.Choice.{◌and◌, ◌or◌, choose}
use Rattle.record.specs.Tests.{every, digit, digits}
use Rattle.record.specs.Numeral.{numeral, numeral_from}
use Rattle.calendar.specs.Calendar.{leap, lengths, days_in, real_day, dashes, dashed_date, plain_date}

-- the k last digits of a number, in EBCDIC
text : ℕ → ℕ → List ℕ
text zero n = []
text (suc k) n = text k (n / 10) ++ (0xF0 + n % 10) ∷ []

dashed : List ℕ → List ℕ
dashed xs = take 4 xs ++ 0x60 ∷ take 2 (drop 4 xs) ++ 0x60 ∷ drop 6 xs

pub right : List (ℕ × Bool) → Bool
right [] = true
right (r ∷ rs) = beq (plain_date (text 8 r.0)) r.1 and beq (dashed_date (dashed (text 8 r.0))) r.1 and right rs

-- YYYYMMDD; 2024-02-29, 2000-02-29 and 1900-02-29 are document 01's
pub dates : List (ℕ × Bool)
dates =
    (20240229, true) ∷ (20000229, true) ∷ (19000229, false) ∷ (20230229, false) ∷ (00010101, true) ∷ (00000101, false) ∷ (99991231, true)
    ∷ (20240430, true) ∷ (20240431, false) ∷ (20241301, false) ∷ (20240001, false) ∷ (20240100, false) ∷ (20240131, true) ∷ (20240132, false) ∷ []

pub dates_right : right dates ≡ true
unfolding right dates text dashed plain_date dashed_date dashes real_day days_in lengths leap digits digit every numeral numeral_from choose ◌and◌ ◌or◌
dates_right = refl
