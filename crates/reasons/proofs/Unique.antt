-- Each public function's contract allows one result for the same arguments: stated over the contract itself.
-- Assumes nothing.
use mathlib.Core.Path.{sym, ◌∙◌}
use Rattle.record.proofs.Unique.{OneResult}
use Rattle.reasons.proofs.amounts.positive.Reads as positive
use Rattle.reasons.proofs.amounts.check_amount.Reads as check-amount
use Rattle.reasons.proofs.amounts.amount_is.Reads as amount-is
use Rattle.reasons.proofs.checks.check_symbol.Reads as check-symbol
use Rattle.reasons.proofs.checks.number_is.Reads as number_is
use Rattle.reasons.proofs.checks.unrepeated.Reads as unrepeated
use Rattle.reasons.proofs.checks.composed.Reads as composed
use Rattle.reasons.proofs.U64FromReason.from.Reads as from
use Rattle.reasons.proofs.find.Reads as find
use Rattle.reasons.proofs.note.Reads as note
use Rattle.reasons.proofs.lists.voucher_form.Reads as voucher-form
use Rattle.reasons.proofs.lists.courtesy_check.Reads as courtesy-check
use Rattle.reasons.proofs.lists.voided_check.Reads as voided-check
use Rattle.reasons.proofs.lists.business_function.Reads as business-function
use Rattle.reasons.proofs.lists.entry_class.Reads as entry-class
use Rattle.reasons.proofs.lists.transaction_code.Reads as transaction-code
use Rattle.reasons.proofs.lists.payer_mechanism.Reads as payer-mechanism
use Rattle.reasons.proofs.lookups.in_book.Reads as in-book
use Rattle.reasons.proofs.lookups.if_in_book.Reads as if-in-book
use Rattle.reasons.proofs.values.required.Reads as required
use Rattle.reasons.proofs.values.number.Reads as number
use Rattle.reasons.proofs.values.if_number.Reads as if-number
use Rattle.reasons.proofs.values.unbroken.Reads as unbroken
use Rattle.reasons.proofs.values.dashed_day.Reads as dashed-day
use Rattle.reasons.proofs.dates.creation_day.Reads as creation-day
use Rattle.reasons.proofs.dates.accounting_month.Reads as accounting-month
use Rattle.reasons.proofs.dates.issue_day.Reads as issue-day
use Rattle.reasons.proofs.values.routing_number.Reads as routing-number
use Rattle.reasons.proofs.values.if_postal.Reads as if-postal

pub positive_unique : OneResult positive.Post
positive_unique κs a r s x y p q = p ∙ sym q

pub check_amount_unique : OneResult check-amount.Post
check_amount_unique κs a r s x y p q = p ∙ sym q

pub amount_is_unique : OneResult amount-is.Post
amount_is_unique κs a r s x y p q = p ∙ sym q

pub check_symbol_unique : OneResult check-symbol.Post
check_symbol_unique κs a r s x y p q = p ∙ sym q

pub number_is_unique : OneResult number_is.Post
number_is_unique κs a r s x y p q = p ∙ sym q

pub unrepeated_unique : OneResult unrepeated.Post
unrepeated_unique κs a r s x y p q = p ∙ sym q

pub composed_unique : OneResult composed.Post
composed_unique κs a r s x y p q = p ∙ sym q

-- a reason's number
pub from_unique : OneResult from.Post
from_unique κs a r s x y p q = p ∙ sym q

pub find_unique : OneResult find.Post
find_unique κs a r s x y p q = p ∙ sym q

pub note_unique : OneResult note.Post
note_unique κs a r s x y p q = p ∙ sym q

pub voucher_form_unique : OneResult voucher-form.Post
voucher_form_unique κs a r s x y p q = p ∙ sym q

pub courtesy_check_unique : OneResult courtesy-check.Post
courtesy_check_unique κs a r s x y p q = p ∙ sym q

pub voided_check_unique : OneResult voided-check.Post
voided_check_unique κs a r s x y p q = p ∙ sym q

pub business_function_unique : OneResult business-function.Post
business_function_unique κs a r s x y p q = p ∙ sym q

pub entry_class_unique : OneResult entry-class.Post
entry_class_unique κs a r s x y p q = p ∙ sym q

pub transaction_code_unique : OneResult transaction-code.Post
transaction_code_unique κs a r s x y p q = p ∙ sym q

pub payer_mechanism_unique : OneResult payer-mechanism.Post
payer_mechanism_unique κs a r s x y p q = p ∙ sym q

pub in_book_unique : OneResult in-book.Post
in_book_unique κs a r s x y p q = p ∙ sym q

pub if_in_book_unique : OneResult if-in-book.Post
if_in_book_unique κs a r s x y p q = p ∙ sym q

pub required_unique : OneResult required.Post
required_unique κs a r s x y p q = p ∙ sym q

pub number_unique : OneResult number.Post
number_unique κs a r s x y p q = p ∙ sym q

pub if_number_unique : OneResult if-number.Post
if_number_unique κs a r s x y p q = p ∙ sym q

pub unbroken_unique : OneResult unbroken.Post
unbroken_unique κs a r s x y p q = p ∙ sym q

pub dashed_day_unique : OneResult dashed-day.Post
dashed_day_unique κs a r s x y p q = p ∙ sym q

pub routing_number_unique : OneResult routing-number.Post
routing_number_unique κs a r s x y p q = p ∙ sym q

pub if_postal_unique : OneResult if-postal.Post
if_postal_unique κs a r s x y p q = p ∙ sym q

pub creation_day_unique : OneResult creation-day.Post
creation_day_unique κs a r s x y p q = p ∙ sym q

pub accounting_month_unique : OneResult accounting-month.Post
accounting_month_unique κs a r s x y p q = p ∙ sym q

pub issue_day_unique : OneResult issue-day.Post
issue_day_unique κs a r s x y p q = p ∙ sym q
