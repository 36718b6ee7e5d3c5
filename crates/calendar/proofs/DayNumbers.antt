-- The numbers of days: the day after a day has the next number, an earlier day has a smaller number, no two days have the same, and
-- differences are exact; and where a month begins at most 31 days ahead, its year is allowed (02 W4).
-- Assumes nothing.
use mathlib.Core.Path.{◌≡◌, refl, sym, ◌∙◌}
use mathlib.Core.Bool.{Bool, true, false}
use mathlib.Core.List.{List, [], ◌∷◌}
use mathlib.Core.Logic.{◌⊎◌, inl, inr, ⊎_elim}
use Prim.Native.Nat.{ℕ, zero, suc, ◌+◌, ◌-◌, ◌*◌, ◌/◌, ◌%◌, ◌≤◌, ◌<◌}
use native.Mathlib.Omega.{arith}
use lib.Dec.{eqb}
use lib.ListN.{get_or, take}
use borrow.Author.Tests.{leb-true, le-leb, lt-leb, eqb-true, eqb-false, eq-eqb, ne_eqb}
use Rattle.record.specs.Choice.{◌and◌, ◌or◌, choose}
use Rattle.calendar.specs.declared.Month.{Month}
use Rattle.calendar.specs.declared.Span.TheVariants.{Ahead, Back}
use Rattle.calendar.specs.Calendar.{leap, lengths, days_in, real_day, days_of, years_through, day_number}
use Rattle.calendar.specs.Clock.{first_day, difference, ahead_at_most, year_allowed}
use Rattle.calendar.proofs.Days.{not_fourth, no_century, century, less_or, real}

equal_or : (a b : ℕ) → (a ≡ b) ⊎ (a ≡ b → ⊥)
equal_or a b = go (eqb a b) refl
  where
    go : (t : Bool) → eqb a b ≡ t → (a ≡ b) ⊎ (a ≡ b → ⊥)
    go true e = inl (eqb-true a b e)
    go false e = inr (eqb-false a b e)

same : (a b : ℕ) → (a < b → ⊥) → (b < a → ⊥) → a ≡ b
same a b f g = ⊎_elim (λ k. absurd (f k)) (λ (k : b ≤ a). ⊎_elim (λ l. absurd (g l)) (λ (l : a ≤ b). omega arith) (less_or b a)) (less_or a b)

-- the years through y, by the leap rule
centuries : (y : ℕ) → y / 100 ≤ y / 4
centuries y = omega arith

sums : (y a b c a' b' c' n : ℕ) → 1 ≤ y → c ≤ a → c' ≤ a' → a' + b' + c + 365 ≡ a + b + c' + n → 365 * y + (a' + b' - c') ≡ 365 * (y - 1) + (a + b - c) + n
sums y a b c a' b' c' n h i j e = omega arith

module _ (y : ℕ) (h : 1 ≤ y) where
  same_4 : (y % 4 ≡ 0 → ⊥) → y / 4 ≡ (y - 1) / 4
  same_4 k = omega arith

  next_4 : y % 4 ≡ 0 → y / 4 ≡ (y - 1) / 4 + 1
  next_4 k = omega arith

  same_100 : (y % 100 ≡ 0 → ⊥) → y / 100 ≡ (y - 1) / 100
  same_100 k = omega arith

  next_100 : y % 100 ≡ 0 → y / 100 ≡ (y - 1) / 100 + 1
  next_100 k = omega arith

  same_400 : (y % 400 ≡ 0 → ⊥) → y / 400 ≡ (y - 1) / 400
  same_400 k = omega arith

  next_400 : y % 400 ≡ 0 → y / 400 ≡ (y - 1) / 400 + 1
  next_400 k = omega arith

  one_year : (l : Bool) → l ≡ leap y → y / 4 + y / 400 + (y - 1) / 100 + 365 ≡ (y - 1) / 4 + (y - 1) / 400 + y / 100 + choose l 366 365 → years_through y ≡ years_through (y - 1) + choose (leap y) 366 365
  unfolding years_through
  one_year l e f = rw (← e) (sums y _ _ _ _ _ _ _ h (centuries (y - 1)) (centuries y) f)

  by_leap : years_through y ≡ years_through (y - 1) + choose (leap y) 366 365
  unfolding choose
  by_leap =
      ⊎_elim
      (λ a.
      ⊎_elim
      (λ b.
      ⊎_elim
      (λ c. one_year true (sym (eq-eqb (y % 400) 0 c) ∙ century y a b) (rw (next_4 a, next_100 b, next_400 c) (omega arith)))
      (λ c. one_year false (sym (ne_eqb (y % 400) 0 c) ∙ century y a b) (rw (next_4 a, next_100 b, same_400 c) (omega arith)))
      (equal_or (y % 400) 0))
      (λ b. one_year true (no_century y a b) (rw (next_4 a, same_100 b, same_400 (λ c. b (omega arith))) (omega arith)))
      (equal_or (y % 100) 0))
      (λ a. one_year false (not_fourth y a) (rw (same_4 a, same_100 (λ b. a (omega arith)), same_400 (λ b. a (omega arith))) (omega arith)))
      (equal_or (y % 4) 0)

years_more : (y k : ℕ) → years_through y ≤ years_through (y + k)
years_more y zero =
    let e : y + 0 ≡ y = omega arith in
    rw e (omega arith)
years_more y (suc k) =
    let e : y + suc k - 1 ≡ y + k = omega arith in
    omega (arith, years_more y k, rw e at (by_leap (y + suc k) (omega arith)))

-- the days before a month
start : ℕ → ℕ → ℕ
start y m = years_through (y - 1) + days_of (take (m - 1) (lengths (leap y)))

number : (y m d : ℕ) → day_number y m d ≡ start y m + d
unfolding day_number start
number y m d = refl

one_more : (ns : List ℕ) (k : ℕ) → days_of (take (suc k) ns) ≡ days_of (take k ns) + get_or ns k 0
unfolding days_of
one_more [] zero = refl
one_more [] (suc k) = refl
one_more (n ∷ ns) zero = omega arith
one_more (n ∷ ns) (suc k) = omega (arith, one_more ns k)

start_month : (y m : ℕ) → 1 ≤ m → start y (m + 1) ≡ start y m + days_in y m
unfolding start days_in
start_month y zero h = absurd (omega arith)
start_month y (suc k) h =
    let a : suc k + 1 - 1 ≡ suc k = omega arith in
    let b : suc k - 1 ≡ k = omega arith in
    rw (a, b, one_more (lengths (leap y)) k) (omega arith)

start_more : (y m k : ℕ) → 1 ≤ m → start y m ≤ start y (m + k)
start_more y m zero h =
    let e : m + 0 ≡ m = omega arith in
    rw e (omega arith)
start_more y m (suc k) h =
    let e : m + suc k ≡ m + k + 1 = omega arith in
    rw e (omega (arith, start_more y m k h, start_month y (m + k) (omega arith)))

start_grows : (y m m' : ℕ) → 1 ≤ m → m ≤ m' → start y m ≤ start y m'
start_grows y m m' h k =
    let e : m + (m' - m) ≡ m' = omega arith in
    rw e at (start_more y m (m' - m) h)

month_end : (y m m' : ℕ) → 1 ≤ m → m < m' → start y m + days_in y m ≤ start y m'
month_end y m m' h k = omega (arith, start_month y m h, start_grows y (m + 1) m' (omega arith) (omega arith))

start_one : (y : ℕ) → start y 1 ≡ years_through (y - 1)
unfolding start days_of
start_one y = omega arith

year_length : (l : Bool) → days_of (take 12 (lengths l)) ≡ choose l 366 365
unfolding days_of lengths choose
year_length true = refl
year_length false = refl

start_end : (y : ℕ) → 1 ≤ y → start y 13 ≡ years_through y
unfolding start
start_end y h = rw (year_length (leap y)) (sym (by_leap y h))

start_year : (y : ℕ) → 1 ≤ y → start (y + 1) 1 ≡ start y 13
start_year y h =
    let e : y + 1 - 1 ≡ y = omega arith in
    rw (start_one (y + 1), e) (sym (start_end y h))

start_years : (y y' : ℕ) → 1 ≤ y → y < y' → start y 13 ≤ start y' 1
start_years y y' h k =
    let e : y + (y' - 1 - y) ≡ y' - 1 = omega arith in
    omega (arith, start_one y', start_end y h, rw e at (years_more y (y' - 1 - y)))

pub first_day_number : day_number 1 1 1 ≡ 1
unfolding day_number years_through days_of
first_day_number = refl

pub from_one : (y m d : ℕ) → real_day y m d ≡ true → 1 ≤ day_number y m d
from_one y m d e = omega (arith, number y m d, real y m d e)

-- the day after a day: in the same month, else the first of the next, else of the next year
pub data Next (y m d : ℕ) : ℕ → ℕ → ℕ → Type 0 where
  same_month : d < days_in y m → Next y m d y m (d + 1)
  next_month : d ≡ days_in y m → m < 12 → Next y m d y (m + 1) 1
  next_year : d ≡ days_in y m → m ≡ 12 → Next y m d (y + 1) 1 1

pub next_number : (y m d y' m' d' : ℕ) → real_day y m d ≡ true → Next y m d y' m' d' → day_number y' m' d' ≡ day_number y m d + 1
next_number y m d y' m' d' h (same_month k) = omega (arith, number y m d, number y m (d + 1))
next_number y m d y' m' d' h (next_month e k) =
    let r = real y m d h in
    omega (arith, number y m d, number y (m + 1) 1, start_month y m r.month_from)
next_number y m d y' m' d' h (next_year e k) =
    let r = real y m d h in
    let f : start y 13 ≡ start y m + days_in y m = rw k (start_month y 12 (omega arith)) in
    omega (arith, number y m d, number (y + 1) 1 1, start_year y r.year_from)

pub some_next : (y m d : ℕ) → real_day y m d ≡ true → (y' : ℕ) × (m' : ℕ) × (d' : ℕ) × Next y m d y' m' d'
some_next y m d h =
    let r = real y m d h in
    ⊎_elim
    (λ (k : d < days_in y m). (y, m, d + 1, same_month k))
    (λ (k : days_in y m ≤ d).
    ⊎_elim
    (λ (l : m < 12). (y, m + 1, 1, next_month (omega arith) l))
    (λ (l : 12 ≤ m). (y + 1, 1, 1, next_year (omega arith) (omega arith)))
    (less_or m 12))
    (less_or d (days_in y m))

-- one day is earlier than another
pub data Earlier (y m d y' m' d' : ℕ) : Type 0 where
  by_year : y < y' → Earlier y m d y' m' d'
  by_month : y ≡ y' → m < m' → Earlier y m d y' m' d'
  by_day : y ≡ y' → m ≡ m' → d < d' → Earlier y m d y' m' d'

pub later_number : (y m d y' m' d' : ℕ) → real_day y m d ≡ true → real_day y' m' d' ≡ true → Earlier y m d y' m' d' → day_number y m d < day_number y' m' d'
later_number y m d y' m' d' h h' (by_year k) =
    let r = real y m d h in
    let r' = real y' m' d' h' in
    let a = month_end y m 13 r.month_from (omega arith) in
    let b = start_grows y' 1 m' (omega arith) r'.month_from in
    omega (arith, number y m d, number y' m' d', start_years y y' r.year_from k)
later_number y m d y' m' d' h h' (by_month e k) =
    let r = real y m d h in
    let r' = real y' m' d' h' in
    let f : start y m' ≡ start y' m' = rw e in
    omega (arith, number y m d, number y' m' d', month_end y m m' r.month_from k)
later_number y m d y' m' d' h h' (by_day e f k) =
    let g : start y m ≡ start y' m' = rw (e, f) in
    omega (arith, number y m d, number y' m' d')

pub one_day : (y m d y' m' d' : ℕ) → real_day y m d ≡ true → real_day y' m' d' ≡ true → day_number y m d ≡ day_number y' m' d' → (y ≡ y') × (m ≡ m') × (d ≡ d')
one_day y m d y' m' d' h h' e =
    let f : Earlier y m d y' m' d' → ⊥ = λ b. omega (arith, later_number y m d y' m' d' h h' b) in
    let g : Earlier y' m' d' y m d → ⊥ = λ b. omega (arith, later_number y' m' d' y m d h' h b) in
    let a = same y y' (λ k. f (by_year k)) (λ k. g (by_year k)) in
    let b = same m m' (λ k. f (by_month a k)) (λ k. g (by_month (sym a) k)) in
    (a, b, same d d' (λ k. f (by_day a b k)) (λ k. g (by_day (sym a) (sym b) k)))

-- a difference is exact, and never 0 days back
module _ (n m : ℕ) where
  ahead : m ≤ n → difference n m ≡ Ahead (n - m)
  unfolding difference choose
  ahead h = rw (le-leb m n h)

  back : n < m → difference n m ≡ Back (m - n)
  unfolding difference choose
  back h = rw (lt-leb m n h)

  pub difference_ahead : (k : ℕ) → difference n m ≡ Ahead k → n ≡ m + k
  difference_ahead k e =
      ⊎_elim
      (λ (h : n < m). let q : ◌≡◌ {A = ℕ} 0 1 = cc (back h) in omega arith)
      (λ (h : m ≤ n). let q : n - m ≡ k = cc (ahead h) in omega arith)
      (less_or n m)

  pub difference_back : (k : ℕ) → difference n m ≡ Back k → m ≡ n + k
  difference_back k e =
      ⊎_elim
      (λ (h : n < m). let q : m - n ≡ k = cc (back h) in omega arith)
      (λ (h : m ≤ n). let q : ◌≡◌ {A = ℕ} 0 1 = cc (ahead h) in omega arith)
      (less_or n m)

  pub back_some : (k : ℕ) → difference n m ≡ Back k → 1 ≤ k
  back_some k e =
      ⊎_elim
      (λ (h : n < m). omega (arith, difference_back k e))
      (λ (h : m ≤ n). let q : ◌≡◌ {A = ℕ} 0 1 = cc (ahead h) in omega arith)
      (less_or n m)

  at_most : (k : ℕ) → ahead_at_most k (difference n m) ≡ true → n ≤ m + k
  unfolding ahead_at_most
  at_most k e =
      ⊎_elim (λ (h : n < m). omega arith) (λ (h : m ≤ n). omega (arith, leb-true (n - m) k (rw (ahead h) at e))) (less_or n m)

january : (y : ℕ) → days_in y 1 ≡ 31
unfolding days_in lengths
january y = refl

december : (y : ℕ) → days_in y 12 ≡ 31
unfolding days_in lengths
december y = refl

-- at most 31 days lead into a later year only from December, and only into January
module _ (y m d : ℕ) (month : Month) (h : real_day y m d ≡ true) (i : 1 ≤ month.month) (k : y < month.year) (e : first_day month ≤ day_number y m d + 31) where
  later_year : (month.month ≡ 1) × (m ≡ 12)
  unfolding first_day
  later_year =
      let r = real y m d h in
      let a = number y m d in
      let b = number month.year month.month 1 in
      let c = start_years y month.year r.year_from k in
      let s = start_grows month.year 1 month.month (omega arith) i in
      let t = month_end y m 13 r.month_from (omega arith) in (
        same month.month 1 (λ q. omega arith)
            (λ q. omega (arith, january month.year, month_end month.year 1 month.month (omega arith) q)),
        same m 12
            (λ q. omega (arith, december y, month_end y m 12 r.month_from q, month_end y 12 13 (omega arith) (omega arith)))
            (λ q. omega arith),
      )

pub year_implied : (y m d : ℕ) (month : Month) → real_day y m d ≡ true → 1 ≤ month.month → month.month ≤ 12
    → ahead_at_most 31 (difference (first_day month) (day_number y m d)) ≡ true
    → year_allowed (record { year = y; month = m; number = day_number y m d }) month ≡ true
unfolding year_allowed ◌and◌ ◌or◌
year_implied y m d month h i j e =
    ⊎_elim
    (λ k.
    let q = later_year y m d month h i k (at_most (first_day month) (day_number y m d) 31 e) in
    rw (lt-leb month.year y k, eq-eqb month.month 1 q.0, eq-eqb m 12 q.1))
    (λ k. rw (le-leb month.year y k))
    (less_or y month.year)

-- YYYYMMDD, and the number of that day
pub numbers : List (ℕ × ℕ)
numbers =
    (00010101, 1) ∷ (00011231, 365) ∷ (00020101, 366) ∷ (00041231, 1461) ∷ (01001231, 36524) ∷ (04001231, 146097) ∷ (19000301, 693655)
    ∷ (20000229, 730179) ∷ (20240229, 738945) ∷ (20241231, 739251) ∷ (99991231, 3652059) ∷ []

pub numbered : List (ℕ × ℕ) → Bool
numbered [] = true
numbered (r ∷ rs) = eqb (day_number (r.0 / 10000) (r.0 / 100 % 100) (r.0 % 100)) r.1 and numbered rs

pub numbers_right : numbered numbers ≡ true
unfolding numbered numbers day_number years_through days_of lengths leap choose ◌and◌ ◌or◌
numbers_right = refl
