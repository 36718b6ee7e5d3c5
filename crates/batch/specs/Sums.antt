-- What the DT and the DP of a payment must come to (01 Sums).
use Rattle.std.specs.Prelude.{Bool, true, false, List, [], ◌∷◌, ℕ, ◌+◌, eqb}
use Rattle.record.specs.Choice.{choose}
use Rattle.record.specs.Tests.{blank}
use Rattle.money.specs.Money.{cents, total, side}

-- a DT: whether its BETC is a credit, and its cents
abbrev pub Entry : Type 0
Entry = Bool × ℕ

-- two or more DT: a credit counts negative, any other positive, and the signed sum equals the payment; one DT: its amount is positive;
-- no DT: no sum
unfoldable pub balances : ℕ → List Entry → Bool
balances paid [] = true
balances paid (t ∷ []) = eqb t.1 paid
balances paid (t ∷ u ∷ ts) = eqb (total (side false (t ∷ u ∷ ts))) (paid + total (side true (t ∷ u ∷ ts)))

-- the cents of fields
unfoldable pub all_cents : List (List ℕ) → List ℕ
all_cents [] = []
all_cents (v ∷ vs) = cents v ∷ all_cents vs

-- DP, by what their amounts hold: the sum equals the payment, unless there is none or the only one is blank
unfoldable pub procures : ℕ → List (List ℕ) → Bool
procures paid [] = true
procures paid (v ∷ []) = choose (blank v) true (eqb (cents v) paid)
procures paid (v ∷ w ∷ vs) = eqb (total (all_cents (v ∷ w ∷ vs))) paid
