-- Day numbers as the code works them out, and dates as they are read.
-- Assumes nothing.
use mathlib.Core.Path.{◌≡◌, refl, sym, ◌∙◌, subst}
use mathlib.Core.Bool.{Bool, true, false, true≢false}
use mathlib.Core.List.{List, ◌∷◌}
use Prim.Native.Nat.{ℕ, ◌+◌, ◌-◌, ◌*◌, ◌/◌, ◌^◌, ◌≤◌, ◌<◌}
use native.Mathlib.Omega.{arith}
use lib.Dec.{eqb, leb}
use borrow.Author.Tests.{eqb-true, leb-true, le-leb, lt-leb}
use lib.ListN.{length, take, get_or, length-take, length-drop}
use lib.Seq.{slice}
use Rattle.std.specs.Prelude.{None, Some}
use Rattle.page.specs.CodePage.{shown}
use Rattle.record.specs.declared.Field.{Field}
use Rattle.record.specs.Choice.{◌and◌, choose}
use Rattle.record.specs.Tests.{blank, digits}
use Rattle.record.specs.Numeral.{numeral}
use Rattle.record.specs.Value.{Has, held}
use Rattle.record.proofs.Held.{held_length, filled_digits}
use Rattle.record.proofs.Numbers.{numeral_below}
use Rattle.record.proofs.Every.{digits_part}
use Rattle.record.proofs.Chain.{and_left, and_right}
use Rattle.calendar.specs.declared.Month.{Month}
use Rattle.calendar.specs.Calendar.{leap, lengths, days_in, real_day, plain_date, month_year, days_of, years_through, day_number}
use Rattle.calendar.specs.Clock.{day_in, month_in}
use Rattle.calendar.proofs.Days.{below, below_at, real}

-- the days before a month, beside those of months in which February has thirty: none, one or two more are counted there
gap : Bool → ℕ → ℕ
gap l m = choose (leb m 2) 0 (choose l 1 2)

evenly : Bool → ℕ → Bool
evenly l m = eqb ((367 * m - 362) / 12) (days_of (take (m - 1) (lengths l)) + gap l m) and leb (days_of (take (m - 1) (lengths l))) 335

all_evenly : (l : Bool) → below (evenly l) 13 ≡ true
unfolding below evenly gap lengths days_of choose ◌and◌
all_evenly true = refl
all_evenly false = refl

module _ (y m : ℕ) (h : m ≤ 12) where
  abbrev before : ℕ
  before = days_of (take (m - 1) (lengths (leap y)))

  even_is : (367 * m - 362) / 12 ≡ before + gap (leap y) m
  unfolding evenly
  even_is = eqb-true _ _ (and_left _ _ (below_at (evenly (leap y)) 13 m (all_evenly (leap y)) (omega arith)))

  pub before_few : (n : ℕ) → n ≡ before → n ≤ 335
  unfolding evenly
  before_few n e =
      let k = leb-true before 335 (and_right (eqb ((367 * m - 362) / 12) (before + gap (leap y) m)) _ (below_at (evenly (leap y)) 13 m (all_evenly (leap y)) (omega arith))) in
      omega (arith, e, k)

  gap_is : (b l : Bool) → leb m 2 ≡ b → leap y ≡ l → gap (leap y) m ≡ choose b 0 (choose l 1 2)
  unfolding gap
  gap_is b l e f = rw (e, f)

  pub before_early : m ≤ 2 → (367 * m - 362) / 12 ≡ before
  unfolding choose
  before_early k = omega (arith, even_is, gap_is true (leap y) (le-leb m 2 k) refl)

  pub before_leap : 2 < m → (r : Bool) → r ≡ leap y → r ≡ true → (367 * m - 362) / 12 - 1 ≡ before
  unfolding choose
  before_leap k r e t = omega (arith, even_is, gap_is false true (lt-leb m 2 k) (sym e ∙ t))

  pub before_common : 2 < m → (r : Bool) → r ≡ leap y → r ≡ false → (367 * m - 362) / 12 - 2 ≡ before
  unfolding choose
  before_common k r e t = omega (arith, even_is, gap_is false false (lt-leb m 2 k) (sym e ∙ t))

-- the days before, put together
pub numbered : (y m d b : ℕ) → b ≡ days_of (take (m - 1) (lengths (leap y)))
    → 365 * (y - 1) + ((y - 1) / 4 + (y - 1) / 400 - (y - 1) / 100) + b + d ≡ day_number y m d
unfolding day_number years_through
numbered y m d b e = rw e

-- no month has more than 31 days, and what is no month has none
few_days : Bool → ℕ → Bool
few_days l m = leb (get_or (0 ∷ lengths l) m 0) 31

all_few : (l : Bool) → below (few_days l) 13 ≡ true
unfolding below few_days lengths choose ◌and◌
all_few true = refl
all_few false = refl

pub days_few : (y m n : ℕ) → m ≤ 12 → n ≡ days_in y m → n ≤ 31
unfolding days_in few_days
days_few y m n h e = omega (arith, e, leb-true (get_or (0 ∷ lengths (leap y)) m 0) 31 (below_at (few_days (leap y)) 13 m (all_few (leap y)) (omega arith)))

-- a date YYYYMMDD, as it is read
module _ (xs : List ℕ) (p : plain_date xs ≡ true) where
  date_digits : digits xs ≡ true
  unfolding plain_date
  date_digits = and_left _ _ p

  pub date_part : (from to : ℕ) → digits (slice from to xs) ≡ true
  date_part from to = digits_part from to xs (digits xs) refl date_digits

  module _ (y m d : ℕ) (a : y ≡ numeral (slice 0 4 xs)) (b : m ≡ numeral (slice 4 6 xs)) (c : d ≡ numeral (slice 6 8 xs)) where
    date_real : real_day y m d ≡ true
    unfolding plain_date
    date_real = rw (a, b, c) (and_right (digits xs) _ p)

    pub date_bounds : (1 ≤ y) × (y ≤ 9999) × (1 ≤ m) × (m ≤ 12) × (d ≤ 31)
    date_bounds =
        let r = real y m d date_real in
        (r.year_from, r.year_to, r.month_from, r.month_to, omega (arith, r.day_to, days_few y m (days_in y m) r.month_to refl))

    pub day_read : (n : ℕ) → n ≡ day_number y m d → record { year = y; month = m; number = n } ≡ day_in xs
    unfolding day_in
    day_read n e = rw (e, a, b, c)

-- a month MMYY, as it is read
module _ (ascii : Bool) (rec : List ℕ) (f : Field) (h : Has rec f) (w : f.width ≡ 4) where
  abbrev v : List ℕ
  v = held (shown ascii rec) f

  blank_digits : (b : Bool) → digits v ≡ b → blank v ≡ true → b ≡ false
  blank_digits true d e = absurd (true≢false (sym e ∙ filled_digits v (omega (arith, held_length ascii rec f h, w)) d))
  blank_digits false d e = refl

  pub blank_month : (r : Bool) → r ≡ blank v → r ≡ true → None ≡ month_in v
  unfolding month_in month_year choose ◌and◌
  blank_month r e t = rw (blank_digits (digits v) refl (sym e ∙ t))

  module _ (r : Bool) (e : r ≡ month_year v) where
    pub other_month : r ≡ false → None ≡ month_in v
    unfolding month_in choose
    other_month t = rw (sym e ∙ t)

    module _ (t : r ≡ true) where
      pub month_digits : digits v ≡ true
      unfolding month_year
      month_digits = and_left _ _ (sym e ∙ t)

      pub year_few : (y : ℕ) → y ≡ numeral (slice 2 4 v) → y ≤ 99
      year_few y q =
          let d = digits_part 2 4 v (digits v) refl month_digits in
          let n : length (slice 2 4 v) ≡ 2 = simp (length-take, length-drop) (omega (arith, held_length ascii rec f h, w)) in
          let k = subst (λ (i : ℕ). numeral (slice 2 4 v) < 10 ^ i) n (numeral_below (slice 2 4 v) d) in
          omega (arith, q, k)

      pub month_read : (y m : ℕ) → m ≡ numeral (slice 0 2 v) → y ≡ numeral (slice 2 4 v) → Some (record { year = 2000 + y; month = m }) ≡ month_in v
      unfolding month_in choose
      month_read y m p q = rw (sym e ∙ t, p, q)

  -- a month that is one has its year and its number in their ranges
  pub month_bounds : month_year v ≡ true → (m : Month) → Some m ≡ month_in v → (1 ≤ m.year) × (m.year ≤ 9999) × (1 ≤ m.month) × (m.month ≤ 12)
  unfolding month_in month_year choose
  month_bounds t m e =
      let q : m ≡ record { year = 2000 + numeral (slice 2 4 v); month = numeral (slice 0 2 v) } = cc (rw t at e) in
      let y = year_few true (sym t) refl (numeral (slice 2 4 v)) refl in
      let k = and_right (digits v) _ t in
      rw q (omega arith, omega (arith, y), leb-true 1 (numeral (slice 0 2 v)) (and_left _ _ k), leb-true (numeral (slice 0 2 v)) 12 (and_right (leb 1 (numeral (slice 0 2 v))) _ k))
