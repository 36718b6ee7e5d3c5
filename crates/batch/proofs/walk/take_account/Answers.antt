use mathlib.Core.Path.{refl, ap, ◌∙◌}
use Rattle.std.specs.Prelude.{Bool}
use Rattle.money.specs.Money.{worth}
use Rattle.batch.specs.Batch.{betc_only}
use Rattle.batch.specs.Walk.{with_account}
use native.Mathlib.Omega.{arith}
use Rattle.batch.proofs.Rooms.{room, own_room, accounts_room, small_read}
use Rattle.batch.proofs.Laws.{account_taken}
use borrow.Author.Rules.{rules}
use Rattle.batch.proofs.walk.take_account.Goals as goal

pub account_rules-finding-requires : goal.account_rules-finding-requires
account_rules-finding-requires c = search (rules, room)

pub with_account-payment-requires : goal.with_account-payment-requires
with_account-payment-requires c =
    let p = c.requires in
    (own_room _ _ p.2 p.3, small_read _ _ _ _ (omega arith, omega (arith, p.1)) refl c.field_amount-amount.ensures)

pub overflow_add-accounts : goal.overflow_add-accounts
overflow_add-accounts c =
    let p = c.requires in
    let h = accounts_room _ _ p.2 p.3 in
    search rules

pub returns : goal.returns
returns c =
    account_taken _ _ _ _ _ _ _ _ _ _ _ c.betc-betc.ensures
    (c.betc_only-codes.ensures ∙ ap betc_only c.is_some.ensures) c.with_codes-context.ensures
    c.account_rules-finding.ensures c.field_amount-amount.ensures (c.with_account-payment.ensures ∙ ap (λ (b : Bool). with_account c.args.state.payment b (worth c.field_amount-amount.result)) c.unwrap_or.ensures) c.know.ensures
