-- What standing after says of the order.
-- Assumes nothing.
use mathlib.Core.Path.{◌≡◌, refl, ap, ◌∙◌}
use mathlib.Core.List.{List}
use Prim.Native.Nat.{ℕ}
use Rattle.std.specs.declared.cmp.Ordering.{Ordering}
use Rattle.std.specs.declared.cmp.Ordering.TheVariants.{Less, Equal, Greater}
use Rattle.record.specs.Ordering.{order, is_after, is_before}
use Rattle.record.proofs.Orders.{turned, order_turned}

after_turned : (o : Ordering) → is_after (turned o) ≡ is_before o
unfolding is_after is_before turned
after_turned Less = refl
after_turned Equal = refl
after_turned Greater = refl

-- the second stands after the first where the first stands before the second
pub after_before : (xs ys : List ℕ) → is_after (order ys xs) ≡ is_before (order xs ys)
after_before xs ys = ap is_after (order_turned xs ys) ∙ after_turned (order xs ys)
