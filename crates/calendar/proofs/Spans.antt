-- Today as it is lent, and how far a day lies from it.
-- Assumes nothing.
use mathlib.Core.Path.{◌≡◌, sym, ap, ◌∙◌}
use mathlib.Core.Bool.{Bool, true, false}
use mathlib.Core.List.{List}
use Prim.Native.Nat.{ℕ}
use native.Mathlib.Omega.{arith}
use lib.Dec.{leb, eqb}
use borrow.Author.Tests.{eq-eqb, eqb-true}
use lib.ListN.{length}
use lib.Seq.{take_all}
use Rattle.page.specs.CodePage.{shown}
use Rattle.record.specs.declared.Justification.TheVariants.{Fixed}
use Rattle.record.specs.Choice.{choose}
use Rattle.record.specs.Value.{written}
use Rattle.record.proofs.Chain.{and_yes, and_left, and_right}
use Rattle.calendar.specs.declared.Day.{Day}
use Rattle.calendar.specs.declared.Span.{Span}
use Rattle.calendar.specs.declared.Span.TheVariants.{Ahead, Back}
use Rattle.std.specs.Prelude.{None, Some}
use Rattle.calendar.specs.Calendar.{plain_date}
use Rattle.calendar.specs.Clock.{day_in, lent_day, today_of, difference, ahead_at_most, back_at_most, created}

module _ (most n : ℕ) (s : Span) where
  pub ahead_ahead : s ≡ Ahead n → leb n most ≡ ahead_at_most most s
  unfolding ahead_at_most
  ahead_ahead e = rw e

  pub ahead_back : s ≡ Back n → true ≡ ahead_at_most most s
  unfolding ahead_at_most
  ahead_back e = rw e

  pub back_ahead : s ≡ Ahead n → true ≡ back_at_most most s
  unfolding back_at_most
  back_ahead e = rw e

  pub back_back : s ≡ Back n → leb n most ≡ back_at_most most s
  unfolding back_at_most
  back_back e = rw e

-- the test of a day
pub created_is : (today day : Day) (s : Span) (r : Bool) → s ≡ difference day.number today.number → r ≡ ahead_at_most 0 s → r ≡ created today day
unfolding created
created_is today day s r e h = rw (← e) h

-- today, as it is lent: eight bytes are read from the first on
module _ (xs : List ℕ) (w : length xs ≡ 8) where
  pub lent_bytes : written (shown false xs) (record { start = 1; width = 8; justification = Fixed }) ≡ xs
  unfolding written shown
  lent_bytes = take_all 8 xs (omega (arith, w))

  pub lent_read : (r : Bool) → r ≡ plain_date (written (shown false xs) (record { start = 1; width = 8; justification = Fixed })) → r ≡ lent_day xs
  unfolding lent_day
  lent_read r e = and_yes _ _ _ (eq-eqb (length xs) 8 w) (e ∙ ap plain_date lent_bytes)

module _ (xs : List ℕ) (r : Bool) (e : r ≡ lent_day xs) where
  pub unlent : r ≡ false → None ≡ today_of xs
  unfolding today_of choose
  unlent t = rw (sym e ∙ t)

  module _ (t : r ≡ true) where
    pub lent_eight : length xs ≡ 8
    unfolding lent_day
    lent_eight = eqb-true _ _ (and_left _ _ (sym e ∙ t))

    pub lent_date : plain_date (written (shown false xs) (record { start = 1; width = 8; justification = Fixed })) ≡ true
    unfolding lent_day
    lent_date = ap plain_date (lent_bytes xs lent_eight) ∙ and_right (eqb (length xs) 8) _ (sym e ∙ t)

    pub lent_today : (d : Day) → d ≡ day_in (written (shown false xs) (record { start = 1; width = 8; justification = Fixed })) → Some d ≡ today_of xs
    unfolding today_of choose
    lent_today d q = rw (sym e ∙ t, q, lent_bytes xs lent_eight)
