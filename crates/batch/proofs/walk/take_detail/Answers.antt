use mathlib.Core.Path.{refl}
use native.Mathlib.Omega.{arith}
use Rattle.batch.proofs.Rooms.{room, payments_room, total_room, small_read}
use Rattle.batch.proofs.Laws.{detail_taken}
use borrow.Author.Rules.{rules}
use Rattle.batch.proofs.walk.take_detail.Goals as goal

pub end-ended-requires : goal.end-ended-requires
end-ended-requires c = search (rules, room)

pub detail_rules-finding-requires : goal.detail_rules-finding-requires
detail_rules-finding-requires c = search (rules, room)

pub overflow_add-payments : goal.overflow_add-payments
overflow_add-payments c =
    let p = c.requires in
    let h = payments_room _ _ p.2 p.3 in
    search rules

pub plus-total-requires : goal.plus-total-requires
plus-total-requires c =
    let p = c.requires in
    total_room _ _ p.2 p.3 _ (small_read _ _ _ _ (omega arith, omega (arith, p.1)) refl c.field_amount-amount.ensures)

pub returns : goal.returns
returns c =
    detail_taken _ _ _ _ _ _ _ _ _ _ _ c.paying_context-context.ensures c.end-ended.ensures
    c.detail_rules-finding.ensures c.field_amount-amount.ensures
    c.begin-payment.ensures c.plus-total.ensures
