-- Each public function's contract allows one result for the same arguments: stated over the contract itself.
-- Assumes nothing.
use mathlib.Core.Path.{sym, ◌∙◌}
use Rattle.record.proofs.Unique.{OneResult}
use Rattle.calendar.proofs.date_ccyy_mm_dd.Reads as date-ccyy-mm-dd
use Rattle.calendar.proofs.date_yyyymmdd.Reads as date-yyyymmdd
use Rattle.calendar.proofs.month_mmyy.Reads as month-mmyy
use Rattle.calendar.proofs.day_of.Reads as day-of
use Rattle.calendar.proofs.month_of.Reads as month-of
use Rattle.calendar.proofs.clock.is_lendable.Reads as is-lendable
use Rattle.calendar.proofs.clock.read_today.Reads as read-today
use Rattle.calendar.proofs.clock.is_created.Reads as is-created
use Rattle.calendar.proofs.clock.is_accountable.Reads as is-accountable
use Rattle.calendar.proofs.clock.is_issued.Reads as is-issued

pub date_ccyy_mm_dd_unique : OneResult date-ccyy-mm-dd.Post
date_ccyy_mm_dd_unique κs a r s x y p q = p ∙ sym q

pub date_yyyymmdd_unique : OneResult date-yyyymmdd.Post
date_yyyymmdd_unique κs a r s x y p q = p ∙ sym q

pub month_mmyy_unique : OneResult month-mmyy.Post
month_mmyy_unique κs a r s x y p q = p ∙ sym q

pub day_of_unique : OneResult day-of.Post
day_of_unique κs a r s x y p q = p ∙ sym q

pub month_of_unique : OneResult month-of.Post
month_of_unique κs a r s x y p q = p ∙ sym q

pub is_lendable_unique : OneResult is-lendable.Post
is_lendable_unique κs a r s x y p q = p ∙ sym q

pub read_today_unique : OneResult read-today.Post
read_today_unique κs a r s x y p q = p ∙ sym q

pub is_created_unique : OneResult is-created.Post
is_created_unique κs a r s x y p q = p ∙ sym q

pub is_accountable_unique : OneResult is-accountable.Post
is_accountable_unique κs a r s x y p q = p ∙ sym q

pub is_issued_unique : OneResult is-issued.Post
is_issued_unique κs a r s x y p q = p ∙ sym q
