-- What the parts of the tables ask, in their order: each function of the code asks one part.
-- Assumes nothing.
use mathlib.Core.Path.{◌≡◌, refl, ap}
use mathlib.Core.List.{List, [], ◌∷◌}
use Prim.Native.Nat.{ℕ, ◌+◌}
use Rattle.std.specs.Prelude.{Ok, Err}
use Rattle.record.specs.declared.codes.Letter.TheVariants.{N, C, W, I, A}
use Rattle.record.specs.Choice.{◌and◌, ◌or◌, choose}
use Rattle.record.specs.Codes.{letter_byte}
use Rattle.record.specs.Fields as field
use Rattle.record.specs.Tests.{alike}
use Rattle.record.specs.Value.{held}
use Rattle.money.specs.Money.{worth}
use Rattle.reasons.specs.declared.Finding.{Finding}
use Rattle.reasons.specs.declared.Reason.TheVariants as Reason
use Rattle.reasons.specs.Findings.{Checked, sound, found, noted, first}
use Rattle.reasons.specs.Lists.{voucher_forms, courtesy_checks, voided_checks, business_functions, transaction_codes, payer_mechanisms, entry_classes}
use Rattle.reasons.specs.Reasons.{required, number, unbroken, dashed_day, creation_day, accounting_month, issue_day, routing_number, listed, if_listed, if_coded, if_postal, if_number, in_book, if_in_book, positive, check_amount, check_symbol, number_is, amount_is, unrepeated, composed}
use Rattle.rules.specs.declared.Context.{Context}
use Rattle.rules.proofs.Tables.{from}
use Rattle.rules.specs.Rules.{header, detail, party, account, procurement, lone_procurement, trailer, among, rows, rules_for, findings, reason, in_kind}

last : (x : Checked Finding) → noted x sound ≡ x
unfolding noted
last (Ok tt) = refl
last (Err f) = refl

module _ (c : Context) (n : ℕ) (rec : List ℕ) where
  pub header_start : first (findings c n rec (rows 6 9 N header))
      ≡ noted (found (unrepeated c.repeats (held rec field.schedule_number)) n 6)
      (noted (found (unbroken (held rec field.summary_number)) n 7)
      (noted (found (dashed_day (held rec field.summary_date)) n 8) (found (number (held rec field.summary_total_amount)) n 9)))
  unfolding rows among findings first reason in_kind header letter_byte choose ◌and◌ ◌or◌
  header_start = ap (noted _) (ap (noted _) (ap (noted _) (last _)))

  pub header_start_c : first (findings c n rec (rows 6 17 C header))
      ≡ noted (found (composed c.repeats (held rec field.check_symbol_number) (held rec field.check_first_serial_number) 2 (held rec field.schedule_number)) n 6)
      (noted (found (number (held rec field.disbursing_office_symbol)) n 15)
      (noted (found (listed courtesy_checks (held rec field.is_courtesy_check)) n 16) (found (creation_day c.today (held rec field.check_batch_creation_date)) n 17)))
  unfolding rows among findings first reason in_kind header letter_byte choose ◌and◌ ◌or◌
  header_start_c = ap (noted _) (ap (noted _) (ap (noted _) (last _)))

  pub header_end_n : first (findings c n rec (rows 10 14 N header))
      ≡ noted (found (listed voucher_forms (held rec field.voucher_form_code)) n 10)
      (noted (found (routing_number (held rec field.originating_dfi)) n 13) (found (in_book c.codes.locations (held rec field.agency_location_code)) n 14))
  unfolding rows among findings first reason in_kind header letter_byte choose ◌and◌ ◌or◌
  header_end_n = ap (noted _) (ap (noted _) (last _))

  pub header_end_w : first (findings c n rec (rows 10 14 W header))
      ≡ noted (found (listed voucher_forms (held rec field.voucher_form_code)) n 10)
      (noted (found (routing_number (held rec field.originating_di)) n 12) (found (in_book c.codes.locations (held rec field.agency_location_code)) n 14))
  unfolding rows among findings first reason in_kind header letter_byte choose ◌and◌ ◌or◌
  header_end_w = ap (noted _) (ap (noted _) (last _))

  pub header_end_other : first (findings c n rec (rows 10 14 I header))
      ≡ noted (found (listed voucher_forms (held rec field.voucher_form_code)) n 10) (found (in_book c.codes.locations (held rec field.agency_location_code)) n 14)
  unfolding rows among findings first reason in_kind header letter_byte choose ◌and◌ ◌or◌
  header_end_other = ap (noted _) (last _)

  pub header_end_c : first (findings c n rec (rows 18 20 C header))
      ≡ noted (found (check_symbol (held rec field.check_symbol_number)) n 18)
      (noted (found (number (held rec field.check_first_serial_number)) n 19) (found (accounting_month c.today (held rec field.check_accounting_month_and_year)) n 20))
  unfolding rows among findings first reason in_kind header letter_byte choose ◌and◌ ◌or◌
  header_end_c = ap (noted _) (ap (noted _) (last _))

  pub detail_start : first (findings c n rec (rows 23 24 N detail))
      ≡ noted (found (unrepeated c.repeats (held rec field.payment_id)) n 23) (found (positive (held rec field.amount)) n 24)
  unfolding rows among findings first reason in_kind detail letter_byte choose ◌and◌ ◌or◌
  detail_start = ap (noted _) (last _)

  pub detail_start_c : first (findings c n rec (rows 23 25 C detail))
      ≡ noted (found (composed c.repeats c.symbol (held rec field.check_serial_number) 8 (held rec field.payment_id)) n 23)
      (noted (found (check_amount (alike (held rec field.is_voided_check) (0xF1 ∷ [])) (held rec field.amount)) n 24) (found (listed voided_checks (held rec field.is_voided_check)) n 25))
  unfolding rows among findings first reason in_kind detail letter_byte choose ◌and◌ ◌or◌
  detail_start_c = ap (noted _) (ap (noted _) (last _))

  pub detail_payee : first (findings c n rec (rows 26 28 N detail))
      ≡ noted (found (required (held rec field.payee_name)) n 26) (found (in_book c.codes.types (held rec field.payment_type_code)) n 28)
  unfolding rows among findings first reason in_kind detail letter_byte choose ◌and◌ ◌or◌
  detail_payee = ap (noted _) (last _)

  pub detail_location_c : first (findings c n rec (rows 29 29 C detail))
      ≡ found (in_book c.codes.locations (held rec field.payment_location_code)) n 29
  unfolding rows among findings first reason in_kind detail letter_byte choose ◌and◌ ◌or◌
  detail_location_c = last _

  pub detail_address : first (findings c n rec (rows 35 38 N detail))
      ≡ noted (found (if_in_book c.codes.states (held rec field.state_code)) n 35)
      (noted (found (if_postal (held rec field.postal_code)) n 36) (found (if_in_book c.codes.countries (held rec field.country_code)) n 38))
  unfolding rows among findings first reason in_kind detail letter_byte choose ◌and◌ ◌or◌
  detail_address = ap (noted _) (ap (noted _) (last _))

  pub detail_end_n : first (findings c n rec (rows 42 62 N detail))
      ≡ noted (found (routing_number (held rec field.receiving_dfi)) n 43)
      (noted (found (if_coded transaction_codes (held rec field.ach_transaction_code)) n 48)
      (noted (found (if_in_book c.codes.currencies (held rec field.original_currency_code)) n 52) (found (listed entry_classes (held rec field.standard_entry_class_code)) n 62)))
  unfolding rows among findings first reason in_kind detail letter_byte choose ◌and◌ ◌or◌
  detail_end_n = ap (noted _) (ap (noted _) (ap (noted _) (last _)))

  pub detail_end_w : first (findings c n rec (rows 42 62 W detail))
      ≡ noted (found (routing_number (held rec field.receiving_di)) n 42)
      (noted (found (listed business_functions (held rec field.business_function_code)) n 44) (found (if_in_book c.codes.currencies (held rec field.original_currency_code)) n 52))
  unfolding rows among findings first reason in_kind detail letter_byte choose ◌and◌ ◌or◌
  detail_end_w = ap (noted _) (ap (noted _) (last _))

  pub detail_end_i : first (findings c n rec (rows 42 62 I detail))
      ≡ noted (found (if_listed payer_mechanisms (held rec field.payer_mechanism)) n 51) (found (if_in_book c.codes.currencies (held rec field.original_currency_code)) n 52)
  unfolding rows among findings first reason in_kind detail letter_byte choose ◌and◌ ◌or◌
  detail_end_i = ap (noted _) (last _)

  pub detail_end_a : first (findings c n rec (rows 42 62 A detail))
      ≡ noted (found (if_in_book c.codes.currencies (held rec field.original_currency_code)) n 52)
      (noted (found (required (held rec field.original_schedule_number)) n 54)
      (noted (found (required (held rec field.original_payment_id)) n 55) (found (dashed_day (held rec field.original_summary_date)) n 56)))
  unfolding rows among findings first reason in_kind detail letter_byte choose ◌and◌ ◌or◌
  detail_end_a = ap (noted _) (ap (noted _) (ap (noted _) (last _)))

  pub detail_end_c : first (findings c n rec (rows 42 62 C detail))
      ≡ noted (found (if_in_book c.codes.currencies (held rec field.original_currency_code)) n 52)
      (noted (found (number_is Reason.Unlike (c.serial + c.payments) (held rec field.check_serial_number)) n 58) (found (issue_day c.today c.month (held rec field.check_issue_date)) n 59))
  unfolding rows among findings first reason in_kind detail letter_byte choose ◌and◌ ◌or◌
  detail_end_c = ap (noted _) (ap (noted _) (last _))

  pub party_all : first (findings c n rec (rules_for N party))
      ≡ found (required (held rec field.party_name)) n 66
  unfolding rows among findings first reason in_kind party letter_byte choose ◌and◌ ◌or◌
  party_all = last _

  pub account_start : first (findings c n rec (rows 80 85 N account))
      ≡ noted (found (choose c.reporter (required (held rec field.agency_identifier)) sound) n 80)
      (noted (found (choose c.reporter (required (held rec field.main_account_code)) sound) n 84) (found (choose c.reporter (required (held rec field.sub_account_code)) sound) n 85))
  unfolding rows among findings first reason in_kind account letter_byte choose ◌and◌ ◌or◌
  account_start = ap (noted _) (ap (noted _) (last _))

  pub account_end : first (findings c n rec (rows 86 87 N account))
      ≡ noted (found (choose c.reporter (in_book c.codes.betcs (held rec field.business_event_type_code)) (if_in_book c.codes.betcs (held rec field.business_event_type_code))) n 86) (found (number (held rec field.account_amount)) n 87)
  unfolding rows among findings first reason in_kind account letter_byte choose ◌and◌ ◌or◌
  account_end = ap (noted _) (last _)

  pub procurement_all : first (findings c n rec (rules_for N procurement))
      ≡ found (number (held rec field.procurement_amount)) n 96
  unfolding rows among findings first reason in_kind procurement letter_byte choose ◌and◌ ◌or◌
  procurement_all = last _

  pub procurement_lone : first (findings c n rec (rules_for N lone_procurement))
      ≡ found (if_number (held rec field.procurement_amount)) n 96
  unfolding rows among findings first reason in_kind lone_procurement letter_byte choose ◌and◌ ◌or◌
  procurement_lone = last _

  pub trailer_all : first (findings c n rec (rules_for N trailer))
      ≡ noted (found (number_is Reason.Count c.payments (held rec field.batch_total_count)) n 99) (found (amount_is (worth c.total) (held rec field.batch_total_amount)) n 100)
  unfolding rows among findings first reason in_kind trailer letter_byte choose ◌and◌ ◌or◌
  trailer_all = ap (noted _) (last _)

pub ruleset alone = (from)

pub ruleset parts = (header_start, header_start_c, header_end_n, header_end_w, header_end_other, header_end_c, detail_start, detail_start_c, detail_payee, detail_location_c, detail_address, detail_end_n, detail_end_w, detail_end_i, detail_end_a, detail_end_c, party_all, account_start, account_end, procurement_all, procurement_lone, trailer_all)
