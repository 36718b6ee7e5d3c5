-- The fields of document 004 that document 01 names, each by one name: start position (counted from 1), length, and how its justification is corrected.
use Rattle.std.specs.Prelude.{ℕ}
use Rattle.record.specs.declared.Field.{Field}
use Rattle.record.specs.declared.Justification.TheVariants.{Text, Number, Right, Fixed}

-- text, by 004's start position and length: every field that is none of the following (02 W3)
abbrev pub text : ℕ → ℕ → Field
text start width = record { start = start; width = width; justification = Text }

-- a number: the fields of which document 01 asks digits (02 W3)
abbrev pub number : ℕ → ℕ → Field
number start width = record { start = start; width = width; justification = Number }

-- moved right: field 7 (02 W3)
abbrev pub right : ℕ → ℕ → Field
right start width = record { start = start; width = width; justification = Right }

-- as it stands: record codes, dates (8, 17, 56, 59) and fillers (02 W3)
abbrev pub fixed : ℕ → ℕ → Field
fixed start width = record { start = start; width = width; justification = Fixed }

-- 1, 5, 22, 64, 76, 90, 98, 102: Record Code
abbrev pub record_code : Field
record_code = fixed 1 2

-- 2: InputSystem
abbrev pub input_system : Field
input_system = text 3 40

-- 3: Version Identifier
abbrev pub version_identifier : Field
version_identifier = text 43 3

-- 6: Schedule Number
abbrev pub schedule_number : Field
schedule_number = text 3 14

-- 7: Summary Number
abbrev pub summary_number : Field
summary_number = right 17 6

-- 8: Summary Date
abbrev pub summary_date : Field
summary_date = fixed 23 10

-- 9: Summary Total Amount
abbrev pub summary_total_amount : Field
summary_total_amount = number 33 20

-- 10: Voucher Form Code
abbrev pub voucher_form_code : Field
voucher_form_code = text 53 4

-- 12: Originating DI
abbrev pub originating_di : Field
originating_di = number 60 9

-- 13: OriginatingDFI
abbrev pub originating_dfi : Field
originating_dfi = number 69 9

-- 14: AgencyLocationCode
abbrev pub agency_location_code : Field
agency_location_code = text 78 8

-- 15: Disbursing Office Symbol
abbrev pub disbursing_office_symbol : Field
disbursing_office_symbol = number 86 4

-- 16: IsCourtesy Check?
abbrev pub is_courtesy_check : Field
is_courtesy_check = text 90 1

-- 17: Check Batch Creation Date
abbrev pub check_batch_creation_date : Field
check_batch_creation_date = fixed 91 8

-- 18: CheckSymbolNumber
abbrev pub check_symbol_number : Field
check_symbol_number = number 99 4

-- 19: Check First Serial Number
abbrev pub check_first_serial_number : Field
check_first_serial_number = number 103 8

-- 20: Check Accounting Month And Year
abbrev pub check_accounting_month_and_year : Field
check_accounting_month_and_year = number 111 4

-- 23, 65, 77, 91: PaymentID
abbrev pub payment_id : Field
payment_id = text 3 20

-- 24: Amount
abbrev pub amount : Field
amount = number 23 20

-- 25: IsVoided Check?
abbrev pub is_voided_check : Field
is_voided_check = text 43 1

-- 26: PayeeName
abbrev pub payee_name : Field
payee_name = text 44 47

-- 28: PaymentTypeCode
abbrev pub payment_type_code : Field
payment_type_code = text 107 25

-- 29: AgencyLocationCode
abbrev pub payment_location_code : Field
payment_location_code = text 132 8

-- 35: StateCode
abbrev pub state_code : Field
state_code = text 350 2

-- 36: PostalCode
abbrev pub postal_code : Field
postal_code = number 352 5

-- 38: CountryCode
abbrev pub country_code : Field
country_code = text 361 2

-- 42: ReceivingDI
abbrev pub receiving_di : Field
receiving_di = number 426 9

-- 43: ReceivingDFI
abbrev pub receiving_dfi : Field
receiving_dfi = number 435 9

-- 44: Business Function Code
abbrev pub business_function_code : Field
business_function_code = text 444 3

-- 48: ACH_Transaction Code
abbrev pub ach_transaction_code : Field
ach_transaction_code = text 506 2

-- 51: Payer Mechanism
abbrev pub payer_mechanism : Field
payer_mechanism = text 526 20

-- 52: Original Currency Code
abbrev pub original_currency_code : Field
original_currency_code = text 546 3

-- 54: Original Schedule Number
abbrev pub original_schedule_number : Field
original_schedule_number = text 560 14

-- 55: Original PaymentID
abbrev pub original_payment_id : Field
original_payment_id = text 574 20

-- 56: Original Summary Date
abbrev pub original_summary_date : Field
original_summary_date = fixed 594 10

-- 58: Check Serial Number
abbrev pub check_serial_number : Field
check_serial_number = number 654 8

-- 59: Check Issue Date
abbrev pub check_issue_date : Field
check_issue_date = fixed 662 8

-- 62: StandardEntryClassCode
abbrev pub standard_entry_class_code : Field
standard_entry_class_code = text 674 3

-- 66: PartyName
abbrev pub party_name : Field
party_name = text 23 150

-- 80: AgencyIdentifier
abbrev pub agency_identifier : Field
agency_identifier = text 28 3

-- 84: MainAccountCode
abbrev pub main_account_code : Field
main_account_code = text 40 4

-- 85: Sub-accountCode
abbrev pub sub_account_code : Field
sub_account_code = text 44 3

-- 86: BusinessEvent TypeCode
abbrev pub business_event_type_code : Field
business_event_type_code = text 47 8

-- 87: Amount
abbrev pub account_amount : Field
account_amount = number 55 20

-- 96: Amount
abbrev pub procurement_amount : Field
procurement_amount = number 131 20

-- 99: TotalCount
abbrev pub batch_total_count : Field
batch_total_count = number 3 8

-- 100: TotalAmount
abbrev pub batch_total_amount : Field
batch_total_amount = number 11 20

-- 103: TotalCount_Records
abbrev pub total_count_records : Field
total_count_records = number 3 18

-- 104: TotalCount
abbrev pub total_count : Field
total_count = number 21 18

-- 105: TotalAmount
abbrev pub total_amount : Field
total_amount = number 39 20
