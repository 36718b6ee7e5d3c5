-- Each public function's contract allows one result for the same arguments: stated over the contract itself.
-- Assumes nothing.
use mathlib.Core.Path.{sym, ◌∙◌}
use Rattle.record.proofs.Unique.{OneResult}
use Rattle.rules.proofs.detail.detail_rules.Reads as detail-rules
use Rattle.rules.proofs.header.header_rules.Reads as header-rules
use Rattle.rules.proofs.symbol_of.Reads as symbol-of
use Rattle.rules.proofs.others.party_rules.Reads as party-rules
use Rattle.rules.proofs.others.account_rules.Reads as account-rules
use Rattle.rules.proofs.others.procurement_rules.Reads as procurement-rules
use Rattle.rules.proofs.others.lone_procurement_rules.Reads as lone-procurement-rules
use Rattle.rules.proofs.others.trailer_rules.Reads as trailer-rules

pub detail_rules_unique : OneResult detail-rules.Post
detail_rules_unique κs a r s x y p q = p ∙ sym q

pub header_rules_unique : OneResult header-rules.Post
header_rules_unique κs a r s x y p q = p ∙ sym q

pub symbol_of_unique : OneResult symbol-of.Post
symbol_of_unique κs a r s x y p q = p ∙ sym q

pub party_rules_unique : OneResult party-rules.Post
party_rules_unique κs a r s x y p q = p ∙ sym q

pub account_rules_unique : OneResult account-rules.Post
account_rules_unique κs a r s x y p q = p ∙ sym q

pub procurement_rules_unique : OneResult procurement-rules.Post
procurement_rules_unique κs a r s x y p q = p ∙ sym q

pub lone_procurement_rules_unique : OneResult lone-procurement-rules.Post
lone_procurement_rules_unique κs a r s x y p q = p ∙ sym q

pub trailer_rules_unique : OneResult trailer-rules.Post
trailer_rules_unique κs a r s x y p q = p ∙ sym q
