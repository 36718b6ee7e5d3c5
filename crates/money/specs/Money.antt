-- Amounts of money in cents, exact beyond 64 bits (01 Report).
use Rattle.std.specs.Prelude.{ℕ, ◌+◌, ◌*◌, ◌/◌, ◌%◌, ◌<◌, Bool, true, false, List, [], ◌∷◌, eqb}
use Rattle.std.specs.Bool.{beq}
use Rattle.record.specs.Choice.{choose}
use Rattle.record.specs.Tests.{digits}
use Rattle.record.specs.Numeral.{numeral}
use Rattle.money.specs.declared.Amount.{Amount}
use Rattle.money.specs.declared.Signed.{Signed}

-- what an amount is worth
unfoldable pub worth : Amount → ℕ
worth a = a.high * 10000000000 + a.low

-- the amount of a number of cents: div and mod by 10^10 (01 Report)
unfoldable pub split : ℕ → Amount
split n = record { high = n / 10000000000; low = n % 10000000000 }

-- the cents that a field holds: what is not all digits counts as zero (01 File answers)
unfoldable pub cents : List ℕ → ℕ
cents xs = choose (digits xs) (numeral xs) 0

-- the sum of a list of cents
unfoldable pub total : List ℕ → ℕ
total [] = 0
total (x ∷ xs) = x + total xs

-- the amount is written as document 01 writes it: its low part is a remainder
unfoldable pub Whole : Amount → Type 0
Whole a = a.low < 10000000000

-- more than 65,535 amounts of twenty digits can come to, and far less than two words hold
abbrev pub limit : ℕ
limit = 6553600000000000000000000

-- the two amounts can be added
pub record Fit (a b : Amount) : Type 0 where
  pub left : Whole a
  pub right : Whole b
  pub room : worth a + worth b < limit

-- the amounts of one side of a signed list: true counts negative, false positive (01 Sums)
unfoldable pub side : Bool → List (Bool × ℕ) → List ℕ
side b [] = []
side b (x ∷ xs) = choose (beq b x.0) (x.1 ∷ side b xs) (side b xs)

-- a signed sum with one amount more, on its positive or its negative side (01 Sums)
unfoldable pub entered : Signed → Bool → ℕ → Signed
entered s true n = record { positive = s.positive; negative = split (worth s.negative + n) }
entered s false n = record { positive = split (worth s.positive + n); negative = s.negative }

-- the signed sum is n: what is positive is n and what is negative together (01 Sums)
unfoldable pub comes_to : Signed → ℕ → Bool
comes_to s n = eqb (worth s.positive) (n + worth s.negative)
