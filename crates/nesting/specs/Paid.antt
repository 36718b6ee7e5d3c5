-- What the payments of a division come to (01 Sums, File answers).
use Rattle.std.specs.Prelude.{ℕ, List, map}
use Rattle.record.specs.Fields.{amount}
use Rattle.record.specs.Value.{held}
use Rattle.money.specs.Money.{cents, total}
use Rattle.nesting.specs.Division.{Payment, Batch}

-- the cents of a payment (01 Sums, field 24)
unfoldable pub paid : Payment → ℕ
paid p = cents (held p.detail amount)

-- the cents of payments (01 Sums)
unfoldable pub paid_by : List Payment → ℕ
paid_by ps = total (map paid ps)

-- the cents of the payments of batches: rejected batches count (01 File answers)
unfoldable pub paid_by_all : List Batch → ℕ
paid_by_all bs = total (map (λ (b : Batch). paid_by b.payments) bs)
