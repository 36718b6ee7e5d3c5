-- Dates that are held against today (02 W4).
-- Assumes nothing.
use mathlib.Core.Path.{◌≡◌, refl, sym, ap, ◌∙◌}
use mathlib.Core.Bool.{Bool, true, false}
use mathlib.Core.List.{List}
use Prim.Native.Nat.{ℕ}
use Rattle.std.specs.Prelude.{Ok, Err}
use Rattle.record.specs.declared.Field.{Field}
use Rattle.record.specs.declared.Justification.TheVariants.{Fixed}
use Rattle.record.specs.Choice.{choose}
use Rattle.record.specs.Tests.{blank, digits}
use Rattle.record.specs.Value.{written, held}
use Rattle.record.proofs.Held.{held_fixed}
use Rattle.record.proofs.Chain.{chain, reads}
use Rattle.calendar.specs.declared.Day.{Day}
use Rattle.calendar.specs.Calendar.{plain_date, month_year}
use Rattle.calendar.specs.Clock.{day_in}
use Rattle.reasons.specs.declared.Reason.TheVariants.{Blank, Shape, NoDay}
use Rattle.reasons.specs.Findings.{sound}
use Rattle.reasons.specs.Reasons.{plain_day, month_and_year}

-- the date, and the month, of a field that draws no other reason
module _ (v : List ℕ) where
  pub a_date : (u : Unit {0}) → Ok u ≡ plain_day v → plain_date v ≡ true
  unfolding plain_day choose
  a_date u e = go (blank v) (plain_date v) refl e
    where
      go : (b d : Bool) → plain_date v ≡ d → Ok u ≡ choose b (Err Blank) (choose d sound (Err NoDay)) → plain_date v ≡ true
      go true d p q = cc
      go false true p q = p
      go false false p q = cc

  pub a_month : (u : Unit {0}) → Ok u ≡ month_and_year v → month_year v ≡ true
  unfolding month_and_year choose
  a_month u e = go (blank v) (digits v) (month_year v) refl e
    where
      go : (b d m : Bool) → month_year v ≡ m → Ok u ≡ choose b (Err Blank) (choose d (choose m sound (Err NoDay)) (Err Shape)) → month_year v ≡ true
      go true d m p q = cc
      go false true true p q = p
      go false true false p q = cc
      go false false m p q = cc

-- a date is read as it stands
module _ (rec : List ℕ) (f : Field) (j : f.justification ≡ Fixed) where
  pub date_written : plain_date (held rec f) ≡ true → plain_date (written rec f) ≡ true
  date_written e = ap plain_date (sym (held_fixed rec f j)) ∙ e

  -- and its rule is asked of the day that was read
  pub day_told : (rule : Day → Bool) (d : Day) (r u : Bool) → d ≡ day_in (written rec f) → r ≡ rule d → r ≡ u → rule (day_in (held rec f)) ≡ u
  day_told rule d r u e h t = ap (λ (v : List ℕ). rule (day_in v)) (held_fixed rec f j) ∙ ap rule (sym e) ∙ sym h ∙ t

pub ruleset dates = (a_date, a_month, chain, reads, day_told, date_written)
