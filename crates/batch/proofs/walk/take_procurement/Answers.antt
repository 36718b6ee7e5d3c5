use mathlib.Core.Path.{refl}
use native.Mathlib.Omega.{arith}
use Rattle.batch.proofs.Rooms.{own_room, kept_open, numbered, small_read}
use Rattle.batch.proofs.Laws.{procurement_taken}
use Rattle.batch.proofs.walk.take_procurement.Goals as goal

pub procurement_findings-finding-requires : goal.procurement_findings-finding-requires
procurement_findings-finding-requires c =
    let p = c.requires in
    (p.0, kept_open _ _ p.1 p.2, numbered _ _ p.1 p.2)

pub with_procurement-payment-requires : goal.with_procurement-payment-requires
with_procurement-payment-requires c =
    let p = c.requires in
    (own_room _ _ p.1 p.2, small_read _ _ _ _ (omega arith, omega (arith, p.0)) refl c.field_amount-amount.ensures)

pub returns : goal.returns
returns c =
    procurement_taken _ _ _ _ _ _ _ _ c.procurement_findings-finding.ensures
    c.field_blank-blank.ensures c.field_amount-amount.ensures c.with_procurement-payment.ensures
    c.know.ensures
