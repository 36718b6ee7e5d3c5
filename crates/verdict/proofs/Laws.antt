-- What the tests come to, as a search uses them.
-- Assumes nothing.
use mathlib.Core.Path.{◌≡◌, sym, ◌∙◌, ap}
use mathlib.Core.Bool.{Bool, true}
use Prim.Native.Nat.{ℕ}
use lib.Dec.{eqb}
use Rattle.record.specs.Fields.{total_count_records, total_count}
use Rattle.record.specs.Value.{held}
use Rattle.record.specs.Tests.{digits}
use Rattle.record.proofs.Chain.{and_left, and_right}
use Rattle.money.specs.declared.Amount.{Amount}
use Rattle.money.specs.Money.{worth, split}
use Rattle.money.proofs.Amounts.{worth_split}
use Rattle.nesting.specs.Division.{Record}
use Rattle.verdict.specs.Order.{numbered_in}

-- the numbers of an FT that has digits in each
module _ (r : Bool) (t : Record) (e : r ≡ numbered_in t) (y : r ≡ true) where
  pub records_digits : digits (held t total_count_records) ≡ true
  unfolding numbered_in
  records_digits = and_left _ _ (sym e ∙ y)

  pub payments_digits : digits (held t total_count) ≡ true
  unfolding numbered_in
  payments_digits = and_left _ _ (and_right (digits (held t total_count_records)) _ (sym e ∙ y))

-- an amount that was read and compared
pub compared : (r u : Bool) (a b : Amount) (x : ℕ) → a ≡ split x → r ≡ eqb (worth a) (worth b) → r ≡ u → eqb x (worth b) ≡ u
compared r u a b x e h t = ap (λ (n : ℕ). eqb n (worth b)) (sym (worth_split x) ∙ ap worth (sym e)) ∙ sym h ∙ t
