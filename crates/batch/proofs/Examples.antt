-- Document 01's worked examples of sums, each with its answer, and that every one is right.
-- Assumes nothing.
use Prim.Native.Nat.{ℕ}
use mathlib.Core.Path.{◌≡◌, refl}
use mathlib.Core.Bool.{Bool, true, false, beq}
use mathlib.Core.List.{List, [], ◌∷◌}
use Rattle.record.specs.Choice.{◌and◌, choose}
use Rattle.money.specs.Money.{total, side}
use Rattle.batch.specs.Sums.{Entry, balances}

-- a payment's cents, its DT, and whether they balance
pub record Example : Type 0 where
  pub paid : ℕ
  pub accounts : List Entry
  pub answer : Bool

-- a debit and a credit
debit : ℕ → Entry
debit n = (false, n)

credit : ℕ → Entry
credit n = (true, n)

-- document 01: debit 130 and credit 30; a single credit of 100; two credits of 50
pub examples : List Example
examples =
    record { paid = 100; accounts = debit 130 ∷ credit 30 ∷ []; answer = true }
    ∷ record { paid = 100; accounts = credit 100 ∷ []; answer = true }
    ∷ record { paid = 100; accounts = credit 50 ∷ credit 50 ∷ []; answer = false }
    ∷ []

pub right : List Example → Bool
right [] = true
right (e ∷ es) = beq (balances e.paid e.accounts) e.answer and right es

pub examples_right : right examples ≡ true
unfolding right examples debit credit balances total side choose ◌and◌
examples_right = refl
