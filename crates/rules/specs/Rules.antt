-- The rules of one record (01 Header, Detail, Others), as tables in the order of 004's fields.
use Rattle.std.specs.Prelude.{ℕ, ◌+◌, ◌<◌, Bool, false, List, [], ◌∷◌, eqb, leb}
use Rattle.record.specs.declared.Field.{Field}
use Rattle.record.specs.declared.codes.Letter.{Letter}
use Rattle.record.specs.declared.codes.Letter.TheVariants.{N, C, W, I, A}
use Rattle.record.specs.Choice.{◌and◌, ◌or◌, choose}
use Rattle.record.specs.Fields.{schedule_number, summary_number, summary_date, summary_total_amount, voucher_form_code, originating_di, originating_dfi, agency_location_code, disbursing_office_symbol, is_courtesy_check, check_batch_creation_date, check_symbol_number, check_first_serial_number, check_accounting_month_and_year, payment_id, amount, is_voided_check, payee_name, payment_type_code, payment_location_code, state_code, postal_code, country_code, receiving_di, receiving_dfi, business_function_code, ach_transaction_code, payer_mechanism, original_currency_code, original_schedule_number, original_payment_id, original_summary_date, check_serial_number, check_issue_date, standard_entry_class_code, party_name, agency_identifier, main_account_code, sub_account_code, business_event_type_code, account_amount, procurement_amount, batch_total_count, batch_total_amount}
use Rattle.record.specs.Value.{held}
use Rattle.record.specs.Tests.{alike}
use Rattle.record.specs.Codes.{letter_byte}
use Rattle.money.specs.Money.{worth, Whole}
use Rattle.reasons.specs.declared.Finding.{Finding}
use Rattle.reasons.specs.declared.Reason.{Reason}
use Rattle.reasons.specs.declared.Reason.TheVariants as reasons
use Rattle.reasons.specs.Findings.{Checked, sound, found}
use Rattle.reasons.specs.Lists.{voucher_forms, courtesy_checks, voided_checks, business_functions, transaction_codes, payer_mechanisms, entry_classes}
use Rattle.reasons.specs.Reasons.{required, number, unbroken, dashed_day, creation_day, accounting_month, issue_day, routing_number, listed, if_listed, if_coded, if_postal, if_number, in_book, if_in_book, positive, check_amount, check_symbol, number_is, amount_is, unrepeated, composed}
use Rattle.rules.specs.declared.Codes.{Codes}
use Rattle.rules.specs.declared.Context.{Context}

-- the kinds of the code book that the fields of a batch are looked up in (01 Code book, kinds 2 to 7)
pub data Shelf : Type 0 where
  Locations : Shelf
  Betcs : Shelf
  Types : Shelf
  States : Shelf
  Countries : Shelf
  Currencies : Shelf

-- the record's code of this kind is in the book
unfoldable pub in_kind : Codes → Shelf → Bool
in_kind k Locations = k.locations
in_kind k Betcs = k.betcs
in_kind k Types = k.types
in_kind k States = k.states
in_kind k Countries = k.countries
in_kind k Currencies = k.currencies

-- what document 01 asks of a field
pub data Test : Type 0 where
  Required : Test
  Digits : Test
  NoBlank : Test  -- field 7
  Dashed : Test  -- a date CCYY-MM-DD
  Created : Test  -- a date YYYYMMDD, not after today (02 W4)
  Accounting : Test  -- MMYY, neither too far ahead nor too far back
  Issued : Test  -- a date YYYYMMDD in the accounting month, neither too old nor too far ahead
  Routing : Test
  Listed : List (List ℕ) → Test
  IfListed : List (List ℕ) → Test  -- if filled
  IfCoded : List (List ℕ) → Test  -- if filled, unfilled also when all zeros
  IfPostal : Test  -- if filled five digits, unfilled also when all zeros
  IfDigits : Test  -- if filled
  InBook : Shelf → Test
  IfInBook : Shelf → Test  -- if filled
  IfReporter : Test  -- required of a CARS Reporter
  ReporterBetc : Test  -- the same, and in kind 3 if filled
  AboveZero : Test  -- an amount above zero
  CheckLimit : Test  -- an amount of at most 9,999,999,999 cents, and zero if 25 is 1
  Symbol : Test  -- digits from 1000 to 9998
  Unrepeated : Test  -- required, no repeat
  HeaderNumber : Test  -- the same, and 18, 19 and two blanks
  PaymentNumber : Test  -- the same, and the header's 18, then 58, then eight blanks
  Serial : Test  -- field 19 plus the number of earlier payments in the batch
  Count : Test  -- the payment count
  Sum : Test  -- the sum of the payments

-- the serial number and the counts are those of a batch
pub record Kept (c : Context) : Type 0 where
  pub serial : c.serial < 100000000
  pub payments : c.payments < 65536
  pub total : Whole c.total

-- a row: 004's number of the field, the field, the letters that it applies to, what is asked
pub record Rule : Type 0 where
  pub field : ℕ
  pub position : Field
  pub letters : List Letter
  pub test : Test

abbrev pub rule : ℕ → Field → List Letter → Test → Rule
rule field position letters test = record { field = field; position = position; letters = letters; test = test }

-- the letter of DA, by a name that contracts can use
abbrev pub adjustment : Letter
adjustment = A

-- every letter; every letter but that of check batches; that of check batches
abbrev pub any_letter : List Letter
any_letter = N ∷ C ∷ W ∷ I ∷ A ∷ []

abbrev pub no_check : List Letter
no_check = N ∷ W ∷ I ∷ A ∷ []

abbrev pub check : List Letter
check = C ∷ []

-- 01 Header
unfoldable pub header : List Rule
header =
    rule 6 schedule_number no_check Unrepeated
    ∷ rule 6 schedule_number check HeaderNumber
    ∷ rule 7 summary_number no_check NoBlank
    ∷ rule 8 summary_date no_check Dashed
    ∷ rule 9 summary_total_amount no_check Digits
    ∷ rule 10 voucher_form_code no_check (Listed voucher_forms)
    ∷ rule 12 originating_di (W ∷ []) Routing
    ∷ rule 13 originating_dfi (N ∷ []) Routing
    ∷ rule 14 agency_location_code no_check (InBook Locations)
    ∷ rule 15 disbursing_office_symbol check Digits
    ∷ rule 16 is_courtesy_check check (Listed courtesy_checks)
    ∷ rule 17 check_batch_creation_date check Created
    ∷ rule 18 check_symbol_number check Symbol
    ∷ rule 19 check_first_serial_number check Digits
    ∷ rule 20 check_accounting_month_and_year check Accounting
    ∷ []

-- 01 Detail
unfoldable pub detail : List Rule
detail =
    rule 23 payment_id no_check Unrepeated
    ∷ rule 23 payment_id check PaymentNumber
    ∷ rule 24 amount no_check AboveZero
    ∷ rule 24 amount check CheckLimit
    ∷ rule 25 is_voided_check check (Listed voided_checks)
    ∷ rule 26 payee_name any_letter Required
    ∷ rule 28 payment_type_code any_letter (InBook Types)
    ∷ rule 29 payment_location_code check (InBook Locations)
    ∷ rule 35 state_code any_letter (IfInBook States)
    ∷ rule 36 postal_code any_letter IfPostal
    ∷ rule 38 country_code any_letter (IfInBook Countries)
    ∷ rule 42 receiving_di (W ∷ []) Routing
    ∷ rule 43 receiving_dfi (N ∷ []) Routing
    ∷ rule 44 business_function_code (W ∷ []) (Listed business_functions)
    ∷ rule 48 ach_transaction_code (N ∷ []) (IfCoded transaction_codes)
    ∷ rule 51 payer_mechanism (I ∷ []) (IfListed payer_mechanisms)
    ∷ rule 52 original_currency_code any_letter (IfInBook Currencies)
    ∷ rule 54 original_schedule_number (A ∷ []) Required
    ∷ rule 55 original_payment_id (A ∷ []) Required
    ∷ rule 56 original_summary_date (A ∷ []) Dashed
    ∷ rule 58 check_serial_number check Serial
    ∷ rule 59 check_issue_date check Issued
    ∷ rule 62 standard_entry_class_code (N ∷ []) (Listed entry_classes)
    ∷ []

-- 01 Others: DX, but not under DA
unfoldable pub party : List Rule
party = rule 66 party_name (N ∷ C ∷ W ∷ I ∷ []) Required ∷ []

-- 01 Others: DT
unfoldable pub account : List Rule
account =
    rule 80 agency_identifier any_letter IfReporter
    ∷ rule 84 main_account_code any_letter IfReporter
    ∷ rule 85 sub_account_code any_letter IfReporter
    ∷ rule 86 business_event_type_code any_letter ReporterBetc
    ∷ rule 87 account_amount any_letter Digits
    ∷ []

-- 01 Others: DP; a payment's only DP may leave it blank
unfoldable pub procurement : List Rule
procurement = rule 96 procurement_amount any_letter Digits ∷ []

unfoldable pub lone_procurement : List Rule
lone_procurement = rule 96 procurement_amount any_letter IfDigits ∷ []

-- 01 Others: BT
unfoldable pub trailer : List Rule
trailer = rule 99 batch_total_count any_letter Count ∷ rule 100 batch_total_amount any_letter Sum ∷ []

-- the reason that a field's value draws, if it draws one
unfoldable pub reason : Context → List ℕ → Test → List ℕ → Checked Reason
reason c rec Required v = required v
reason c rec Digits v = number v
reason c rec NoBlank v = unbroken v
reason c rec Dashed v = dashed_day v
reason c rec Created v = creation_day c.today v
reason c rec Accounting v = accounting_month c.today v
reason c rec Issued v = issue_day c.today c.month v
reason c rec Routing v = routing_number v
reason c rec (Listed values) v = listed values v
reason c rec (IfListed values) v = if_listed values v
reason c rec (IfCoded values) v = if_coded values v
reason c rec IfPostal v = if_postal v
reason c rec IfDigits v = if_number v
reason c rec (InBook k) v = in_book (in_kind c.codes k) v
reason c rec (IfInBook k) v = if_in_book (in_kind c.codes k) v
reason c rec IfReporter v = choose c.reporter (required v) sound
reason c rec ReporterBetc v = choose c.reporter (in_book c.codes.betcs v) (if_in_book c.codes.betcs v)
reason c rec AboveZero v = positive v
reason c rec CheckLimit v = check_amount (alike (held rec is_voided_check) (0xF1 ∷ [])) v
reason c rec Symbol v = check_symbol v
reason c rec Unrepeated v = unrepeated c.repeats v
reason c rec HeaderNumber v = composed c.repeats (held rec check_symbol_number) (held rec check_first_serial_number) 2 v
reason c rec PaymentNumber v = composed c.repeats c.symbol (held rec check_serial_number) 8 v
reason c rec Serial v = number_is reasons.Unlike (c.serial + c.payments) v
reason c rec Count v = number_is reasons.Count c.payments v
reason c rec Sum v = amount_is (worth c.total) v

-- the letter is one of these
unfoldable pub among : Letter → List Letter → Bool
among l [] = false
among l (m ∷ ms) = eqb (letter_byte l) (letter_byte m) or among l ms

-- the rules of a letter from one field up to another
unfoldable pub rows : ℕ → ℕ → Letter → List Rule → List Rule
rows from to l [] = []
rows from to l (r ∷ rs) = choose (among l r.letters and leb from r.field and leb r.field to) (r ∷ rows from to l rs) (rows from to l rs)

-- all the rules of a letter
abbrev pub rules_for : Letter → List Rule → List Rule
rules_for l rs = rows 1 106 l rs

-- what the rules find in a record with this number, in the order of the table
unfoldable pub findings : Context → ℕ → List ℕ → List Rule → List (Checked Finding)
findings c n rec [] = []
findings c n rec (r ∷ rs) = found (reason c rec r.test (held rec r.position)) n r.field ∷ findings c n rec rs
