-- Document 01's worked examples marked P, as one table, and that every one is right.
-- Assumes nothing.
use mathlib.Core.Path.{◌≡◌, refl}
use mathlib.Core.Bool.{Bool, true, false}
use mathlib.Core.List.{List, [], ◌∷◌, ◌++◌}
use Prim.Native.Nat.{ℕ, zero, suc, ◌+◌, ◌/◌, ◌%◌}
use lib.ListN.{replicate}
use Rattle.record.specs.declared.codes.Letter.TheVariants.{N, W}
use Rattle.record.specs.declared.codes.Code.{Code}
use Rattle.record.specs.declared.codes.Code.TheVariants.{FileHeader, Batch, Detail, Party, BatchTrailer, FileTrailer}
use Rattle.record.specs.Choice.{◌and◌, ◌or◌, choose}
use Rattle.record.specs.Tests.{every, digit, digits}
use Rattle.record.specs.Numeral.{numeral, numeral_from}
use Rattle.record.specs.Routing.{prefix_listed, routing}
use Rattle.money.specs.declared.Amount.{Amount}
use Rattle.money.specs.Money.{split, total, side}
use Rattle.calendar.specs.Calendar.{leap, lengths, days_in, real_day, dashes, dashed_date}
use Rattle.std.specs.Prelude.{Result, Ok, Err}
use Rattle.nesting.specs.declared.Counts.{Counts}
use Rattle.nesting.specs.Division.{All}
use Rattle.nesting.specs.Promise.{Nested}
use Rattle.nesting.proofs.Examples as nests
use Rattle.nesting.proofs.Examples.{sample, examples_right}
use Rattle.batch.specs.Sums.{Entry, balances}

-- what document 01 gives an answer to
pub data Example : Type 0 where
  Prefix : ℕ → Bool → Example  -- the first two digits of a routing number; whether it passes
  Date : ℕ → ℕ → ℕ → Bool → Example  -- year, month, day; whether it is a date
  Sum : ℕ → ℕ → Amount → Example  -- two amounts; how the sum is written
  Balance : ℕ → List Entry → Bool → Example  -- a payment, its DT (credit or not, cents); whether they balance
  Nesting : List Code → Result Counts ℕ → Example  -- the records of a file, one ID throughout; legal, or where it fails

-- the k last digits of a number, in EBCDIC
pub text : ℕ → ℕ → List ℕ
text zero n = []
text (suc k) n = text k (n / 10) ++ (0xF0 + n % 10) ∷ []

-- nine digits that begin with two; CCYY-MM-DD
pub routing_number : ℕ → List ℕ
routing_number p = text 2 p ++ replicate 7 0xF0

pub dashed : ℕ → ℕ → ℕ → List ℕ
dashed y m d = text 4 y ++ (0x60 ∷ (text 2 m ++ (0x60 ∷ text 2 d)))

-- the answer is the one that the definitions give
abbrev pub Right : Example → Type 0
Right (Prefix p answer) = routing (routing_number p) ≡ answer
Right (Date y m d answer) = dashed_date (dashed y m d) ≡ answer
Right (Sum a b answer) = split (a + b) ≡ answer
Right (Balance paid accounts answer) = balances paid accounts ≡ answer
Right (Nesting codes answer) = Nested (sample codes) answer

-- 01 Worked examples
pub examples : List Example
examples =
    Prefix 12 true
    ∷ Prefix 80 true
    ∷ Prefix 13 false
    ∷ Prefix 81 false
    ∷ Date 2024 2 29 true
    ∷ Date 2000 2 29 true
    ∷ Date 1900 2 29 false
    ∷ Sum 99999999999999999999 1 (record { high = 10000000000; low = 0 })
    ∷ Balance 100 ((false, 130) ∷ (true, 30) ∷ []) true
    ∷ Balance 100 ((true, 100) ∷ []) true
    ∷ Balance 100 ((true, 50) ∷ (true, 50) ∷ []) false
    ∷ Nesting (FileHeader ∷ Batch N ∷ Detail N ∷ Party ∷ BatchTrailer ∷ FileTrailer ∷ []) (Ok (record { batches = 1; payments = 1 }))
    ∷ Nesting (FileHeader ∷ Batch N ∷ Detail N ∷ BatchTrailer ∷ []) (Err 4)
    ∷ Nesting (FileHeader ∷ Batch N ∷ Detail W ∷ []) (Err 3)
    ∷ Nesting (FileHeader ∷ Batch N ∷ Detail N ∷ Party ∷ []) (Err 5)
    ∷ Nesting (FileHeader ∷ FileTrailer ∷ []) (Err 2)
    ∷ []

pub all_right : All Right examples
unfolding examples nests.examples text routing_number dashed routing prefix_listed dashed_date dashes real_day days_in lengths leap digits digit every numeral numeral_from split balances total side choose ◌and◌ ◌or◌
all_right = let n = examples_right in (refl, (refl, (refl, (refl, (refl, (refl, (refl, (refl, (refl, (refl, (refl, (n.0, (n.1.0, (n.1.1.0, (n.1.1.1.0, (n.1.1.1.1.0, tt))))))))))))))))
