-- Leap years and the days of a month, by the month's number.
-- Assumes nothing.
use mathlib.Core.Path.{◌≡◌, refl, sym, ◌∙◌}
use mathlib.Core.Bool.{Bool, true, false}
use mathlib.Core.List.{◌∷◌}
use mathlib.Core.Logic.{◌⊎◌, inl, inr, ⊎_elim}
use Prim.Native.Nat.{ℕ, zero, suc, ◌%◌, ◌≤◌, ◌<◌}
use native.Mathlib.Nat.{eq-or-lt_of_le, le_of_suc-le-suc, lt_irrefl}
use native.Mathlib.Omega.{arith}
use lib.Dec.{eqb, leb}
use borrow.Author.Tests.{eq-eqb, ne_eqb, eqb-true, leb-true, leb-false}
use lib.ListN.{get_or, get_or-eq_default}
use Rattle.record.specs.Choice.{◌and◌, ◌or◌, choose}
use Rattle.record.proofs.Chain.{and_left, and_right}
use Rattle.calendar.specs.Calendar.{leap, lengths, days_in, real_day}

module _ (y : ℕ) where
  pub not_fourth : (y % 4 ≡ 0 → ⊥) → false ≡ leap y
  unfolding leap ◌and◌
  not_fourth h = rw (ne_eqb (y % 4) 0 h)

  pub no_century : y % 4 ≡ 0 → (y % 100 ≡ 0 → ⊥) → true ≡ leap y
  unfolding leap ◌and◌ ◌or◌
  no_century h k = rw (eq-eqb (y % 4) 0 h, ne_eqb (y % 100) 0 k)

  pub century : y % 4 ≡ 0 → y % 100 ≡ 0 → eqb (y % 400) 0 ≡ leap y
  unfolding leap ◌and◌ ◌or◌
  century h k = rw (eq-eqb (y % 4) 0 h, eq-eqb (y % 100) 0 k)

module _ (y m : ℕ) where
  module _ (r : Bool) (e : r ≡ leap y) (h : m ≡ 2) where
    pub february_leap : r ≡ true → 29 ≡ days_in y m
    unfolding days_in lengths choose
    february_leap t = rw (h, sym e ∙ t)

    pub february : r ≡ false → 28 ≡ days_in y m
    unfolding days_in lengths choose
    february t = rw (h, sym e ∙ t)

  pub no_month_below : m < 1 → 0 ≡ days_in y m
  unfolding days_in
  no_month_below h =
      let z : m ≡ 0 = omega arith in
      rw z

  pub no_month_above : 12 < m → 0 ≡ days_in y m
  unfolding days_in lengths
  no_month_above h = sym (get_or-eq_default (0 ∷ lengths (leap y)) 0 h)

  pub thirty : (m ≡ 4) ⊎ ((m ≡ 6) ⊎ ((m ≡ 9) ⊎ (m ≡ 11))) → 30 ≡ days_in y m
  unfolding days_in lengths
  thirty (inl e) = rw e
  thirty (inr (inl e)) = rw e
  thirty (inr (inr (inl e))) = rw e
  thirty (inr (inr (inr e))) = rw e

-- a test that holds below n, computed
unfoldable pub below : (ℕ → Bool) → ℕ → Bool
below p zero = true
below p (suc n) = p n and below p n

pub below_at : (p : ℕ → Bool) (n m : ℕ) → below p n ≡ true → m < n → p m ≡ true
unfolding below
below_at p zero m e h = absurd (omega (arith, h))
below_at p (suc n) m e h =
    ⊎_elim
    (λ (q : m ≡ n). rw q (and_left (p n) (below p n) e))
    (λ (q : m < n). below_at p n m (and_right (p n) (below p n) e) q)
    (eq-or-lt_of_le (le_of_suc-le-suc h))

-- no month, February, or a month of thirty days
short : ℕ → Bool
short m = eqb m 0 or eqb m 2 or eqb m 4 or eqb m 6 or eqb m 9 or eqb m 11

-- every other number up to 12 is a month of 31 days
long : Bool → ℕ → Bool
long l m = short m or eqb 31 (get_or (0 ∷ lengths l) m 0)

all_long : (l : Bool) → below (long l) 13 ≡ true
unfolding below long short lengths ◌and◌ ◌or◌
all_long l = refl

pub thirty_one : (y m : ℕ) → 1 ≤ m → m ≤ 12 → ((m ≡ 4) ⊎ ((m ≡ 6) ⊎ ((m ≡ 9) ⊎ (m ≡ 11))) → ⊥) → (m ≡ 2 → ⊥) → 31 ≡ days_in y m
unfolding days_in long short ◌or◌
thirty_one y m h k b c =
    let t = below_at (long (leap y)) 13 m (all_long (leap y)) (omega arith) in
    eqb-true 31 (get_or (0 ∷ lengths (leap y)) m 0)
    (simp
    (ne_eqb m 0 (λ (q : m ≡ 0). lt_irrefl 0 (omega (arith, q, h))), ne_eqb m 2 c, ne_eqb m 4 (λ q. b (inl q)), ne_eqb m 6 (λ q. b (inr (inl q))), ne_eqb m 9 (λ q. b (inr (inr (inl q)))), ne_eqb m 11 (λ q. b (inr (inr (inr q)))))
    at t)

pub less_or : (a b : ℕ) → (a < b) ⊎ (b ≤ a)
less_or a b = go (leb b a) refl
  where
    go : (t : Bool) → leb b a ≡ t → (a < b) ⊎ (b ≤ a)
    go true e = inr (leb-true b a e)
    go false e = inl (leb-false b a e)

-- what a real day is
pub record Real (y m d : ℕ) : Type 0 where
  pub year_from : 1 ≤ y
  pub year_to : y ≤ 9999
  pub month_from : 1 ≤ m
  pub month_to : m ≤ 12
  pub day_from : 1 ≤ d
  pub day_to : d ≤ days_in y m

pub real : (y m d : ℕ) → real_day y m d ≡ true → Real y m d
unfolding real_day
real y m d e =
    let years = and_right (leb 1 y) _ e in
    let days = and_right (leb y 9999) _ years in
    let a = leb-true 1 d (and_left _ _ days) in
    let b = leb-true d (days_in y m) (and_right (leb 1 d) _ days) in
    record {
      year_from = leb-true 1 y (and_left _ _ e);
      year_to = leb-true y 9999 (and_left _ _ years);
      month_from = ⊎_elim (λ q. absurd (omega (arith, no_month_below y m q))) (λ q. q) (less_or m 1);
      month_to = ⊎_elim (λ q. absurd (omega (arith, no_month_above y m q))) (λ q. q) (less_or 12 m);
      day_from = a;
      day_to = b;
    }
