-- Dates in fields: the parts of a field that has the shape are digits, and the numbers that they write decide.
-- Assumes nothing.
use mathlib.Core.Path.{◌≡◌, sym, ap, ◌∙◌}
use mathlib.Core.Bool.{Bool, true}
use mathlib.Core.List.{List}
use Prim.Native.Nat.{ℕ}
use lib.Dec.{eqb}
use lib.ListN.{get_or}
use lib.Seq.{slice, take_all}
use native.Mathlib.Omega.{arith}
use Rattle.page.specs.CodePage.{shown}
use Rattle.record.specs.declared.Field.{Field}
use Rattle.record.specs.Choice.{◌and◌}
use Rattle.record.specs.Tests.{digits}
use Rattle.record.specs.Numeral.{numeral}
use Rattle.record.specs.Value.{Has, written}
use Rattle.record.proofs.Held.{written_length}
use Rattle.record.proofs.Chain.{and_left, and_right, and_yes}
use Rattle.calendar.specs.Calendar.{real_day, dashes, dashed_date, plain_date}

-- the shape, where it was tested
module _ (xs : List ℕ) (r : Bool) (e : r ≡ dashes xs) (t : r ≡ true) where
  after_year : (digits (slice 0 4 xs) and eqb (get_or xs 4 0) 0x60 and digits (slice 5 7 xs) and eqb (get_or xs 7 0) 0x60 and digits (slice 8 10 xs)) ≡ true
  unfolding dashes
  after_year = sym e ∙ t

  pub year_digits : digits (slice 0 4 xs) ≡ true
  year_digits = and_left _ _ after_year

  after_month : (digits (slice 5 7 xs) and eqb (get_or xs 7 0) 0x60 and digits (slice 8 10 xs)) ≡ true
  after_month = and_right (eqb (get_or xs 4 0) 0x60) _ (and_right (digits (slice 0 4 xs)) _ after_year)

  pub month_digits : digits (slice 5 7 xs) ≡ true
  month_digits = and_left _ _ after_month

  pub day_digits : digits (slice 8 10 xs) ≡ true
  day_digits = and_right (eqb (get_or xs 7 0) 0x60) _ (and_right (digits (slice 5 7 xs)) _ after_month)

-- the numbers that were read decide
module _ (xs : List ℕ) (r b : Bool) (y m d : ℕ) (t : r ≡ true) (f : b ≡ real_day y m d) where
  pub dashed_read : r ≡ dashes xs → y ≡ numeral (slice 0 4 xs) → m ≡ numeral (slice 5 7 xs) → d ≡ numeral (slice 8 10 xs) → b ≡ dashed_date xs
  unfolding dashed_date
  dashed_read e p q s = and_yes _ _ _ (sym e ∙ t) (f ∙ rw (p, q, s))

  pub plain_read : r ≡ digits xs → y ≡ numeral (slice 0 4 xs) → m ≡ numeral (slice 4 6 xs) → d ≡ numeral (slice 6 8 xs) → b ≡ plain_date xs
  unfolding plain_date
  plain_read e p q s = and_yes _ _ _ (sym e ∙ t) (f ∙ rw (p, q, s))

-- a field of eight bytes, read over its full width
pub eight : (ascii : Bool) (rec : List ℕ) (f : Field) (r : Bool) → Has rec f → f.width ≡ 8 → r ≡ digits (slice 0 8 (written (shown ascii rec) f)) → r ≡ digits (written (shown ascii rec) f)
eight ascii rec f r h w e = e ∙ ap digits (take_all 8 (written (shown ascii rec) f) (omega (arith, written_length ascii rec f h)))
