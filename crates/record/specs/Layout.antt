-- The layout of document 004, chapter 2: a table for each record, with the number of each field, its start position (counted from 1) and its length.
use Rattle.std.specs.Prelude.{ℕ, ◌+◌, Bool, true, false, List, [], ◌∷◌, ◌++◌, map, eqb}
use Rattle.record.specs.declared.Field.{Field}
use Rattle.record.specs.Choice.{◌and◌, choose}
use Rattle.record.specs.Fields.{text, fixed, record_code, input_system, version_identifier, schedule_number, summary_number, summary_date, summary_total_amount, voucher_form_code, originating_di, originating_dfi, agency_location_code, disbursing_office_symbol, is_courtesy_check, check_batch_creation_date, check_symbol_number, check_first_serial_number, check_accounting_month_and_year, payment_id, amount, is_voided_check, payee_name, payment_type_code, payment_location_code, state_code, postal_code, country_code, receiving_di, receiving_dfi, business_function_code, ach_transaction_code, payer_mechanism, original_currency_code, original_schedule_number, original_payment_id, original_summary_date, check_serial_number, check_issue_date, standard_entry_class_code, party_name, agency_identifier, main_account_code, sub_account_code, business_event_type_code, account_amount, procurement_amount, batch_total_count, batch_total_amount, total_count_records, total_count, total_amount}

-- the records of 004, sections 2.1 to 2.8
pub data Record : Type 0 where
  FileHeader : Record
  BatchHeader : Record
  Detail : Record
  Party : Record
  Account : Record
  Procurement : Record
  BatchTrailer : Record
  FileTrailer : Record

-- a row of 004's tables
pub record Row : Type 0 where
  pub number : ℕ
  pub position : Field
  pub unused : Bool

-- a row whose bytes are looked at
abbrev pub field : ℕ → Field → Row
field n position = record { number = n; position = position; unused = false }

-- a row that 004 calls a filler: never looked at (01 Bytes)
abbrev pub filler : ℕ → Field → Row
filler n position = record { number = n; position = position; unused = true }

-- 004 chapter 2: field number, and the field by its name or by its start position and length
unfoldable pub layout : Record → List Row
layout FileHeader =
    field 1 record_code
    ∷ field 2 input_system
    ∷ field 3 version_identifier
    ∷ filler 4 (fixed 46 805)
    ∷ []
layout BatchHeader =
    field 5 record_code
    ∷ field 6 schedule_number
    ∷ field 7 summary_number
    ∷ field 8 summary_date
    ∷ field 9 summary_total_amount
    ∷ field 10 voucher_form_code
    ∷ filler 11 (fixed 57 3)
    ∷ field 12 originating_di
    ∷ field 13 originating_dfi
    ∷ field 14 agency_location_code
    ∷ field 15 disbursing_office_symbol
    ∷ field 16 is_courtesy_check
    ∷ field 17 check_batch_creation_date
    ∷ field 18 check_symbol_number
    ∷ field 19 check_first_serial_number
    ∷ field 20 check_accounting_month_and_year
    ∷ filler 21 (fixed 115 736)
    ∷ []
layout Detail =
    field 22 record_code
    ∷ field 23 payment_id
    ∷ field 24 amount
    ∷ field 25 is_voided_check
    ∷ field 26 payee_name
    ∷ field 27 (text 91 16)  -- PayeeIdentifier
    ∷ field 28 payment_type_code
    ∷ field 29 payment_location_code
    ∷ field 30 (text 140 40)  -- PayeeAddressLine1
    ∷ field 31 (text 180 40)  -- PayeeAddressLine2
    ∷ field 32 (text 220 40)  -- PayeeAddressLine3
    ∷ field 33 (text 260 40)  -- PayeeAddressLine4
    ∷ field 34 (text 300 50)  -- CityName
    ∷ field 35 state_code
    ∷ field 36 postal_code
    ∷ field 37 (text 357 4)  -- PostalCodeExtension
    ∷ field 38 country_code
    ∷ field 39 (text 363 50)  -- RegionName
    ∷ field 40 (text 413 3)  -- ConsularCode
    ∷ field 41 (text 416 10)  -- ForeignPostalCode
    ∷ field 42 receiving_di
    ∷ field 43 receiving_dfi
    ∷ field 44 business_function_code
    ∷ field 45 (text 447 22)  -- IMAD
    ∷ field 46 (text 469 22)  -- OMAD
    ∷ field 47 (text 491 15)  -- ACH_TraceNumber
    ∷ field 48 ach_transaction_code
    ∷ field 49 (text 508 15)  -- ACH_OriginalTraceNumber
    ∷ field 50 (text 523 3)  -- ACH_Return Reason Code
    ∷ field 51 payer_mechanism
    ∷ field 52 original_currency_code
    ∷ field 53 (text 549 11)  -- BusinessIdentifierCode
    ∷ field 54 original_schedule_number
    ∷ field 55 original_payment_id
    ∷ field 56 original_summary_date
    ∷ field 57 (text 604 50)  -- DFI_AccountNumber
    ∷ field 58 check_serial_number
    ∷ field 59 check_issue_date
    ∷ field 60 (text 670 1)  -- AgencyPaymentTypeCode
    ∷ field 61 (text 671 3)  -- DisbursementStatusReasonCode
    ∷ field 62 standard_entry_class_code
    ∷ filler 63 (fixed 677 174)
    ∷ []
layout Party =
    field 64 record_code
    ∷ field 65 payment_id
    ∷ field 66 party_name
    ∷ field 67 (text 173 1)  -- IsRepresentativePayee?
    ∷ field 68 (text 174 50)  -- FirstName
    ∷ field 69 (text 224 50)  -- MiddleName
    ∷ field 70 (text 274 50)  -- SurName
    ∷ field 71 (text 324 5)  -- NameSuffix
    ∷ field 72 (text 329 9)  -- TIN
    ∷ field 73 (text 338 4)  -- TIN_Code
    ∷ field 74 (text 342 9)  -- DUNS_Number
    ∷ filler 75 (fixed 351 500)
    ∷ []
layout Account =
    field 76 record_code
    ∷ field 77 payment_id
    ∷ field 78 (text 23 2)  -- Sub-levelPrefixCode
    ∷ field 79 (text 25 3)  -- AllocationTransfer AgencyIdentifier
    ∷ field 80 agency_identifier
    ∷ field 81 (text 31 4)  -- BeginningPeriodOfAvailability
    ∷ field 82 (text 35 4)  -- EndingPeriodOfAvailability
    ∷ field 83 (text 39 1)  -- AvailabilityTypeCode
    ∷ field 84 main_account_code
    ∷ field 85 sub_account_code
    ∷ field 86 business_event_type_code
    ∷ field 87 account_amount
    ∷ field 88 (text 75 1)  -- IsCredit?
    ∷ filler 89 (fixed 76 775)
    ∷ []
layout Procurement =
    field 90 record_code
    ∷ field 91 payment_id
    ∷ field 92 (text 23 50)  -- ProcurementInstrumentIdentifier
    ∷ field 93 (text 73 4)  -- ProcurementAgencyIdentifier
    ∷ field 94 (text 77 50)  -- IDV_ProcurementInstrumentIdentifier
    ∷ field 95 (text 127 4)  -- IDV_ProcurementAgencyIdentifier
    ∷ field 96 procurement_amount
    ∷ filler 97 (fixed 151 700)
    ∷ []
layout BatchTrailer =
    field 98 record_code
    ∷ field 99 batch_total_count
    ∷ field 100 batch_total_amount
    ∷ filler 101 (fixed 31 820)
    ∷ []
layout FileTrailer =
    field 102 record_code
    ∷ field 103 total_count_records
    ∷ field 104 total_count
    ∷ field 105 total_amount
    ∷ filler 106 (fixed 59 792)
    ∷ []

-- the records in the order of 004
unfoldable pub records : List Record
records =
    FileHeader ∷ BatchHeader ∷ Detail ∷ Party ∷ Account ∷ Procurement ∷ BatchTrailer ∷ FileTrailer ∷ []

-- all rows, in the order of their numbers
unfoldable pub rows : List Record → List Row
rows [] = []
rows (k ∷ ks) = layout k ++ rows ks

-- the rows stand side by side from a position to the end: each begins where the one before it ended, and the last ends at 850
unfoldable pub tiles : ℕ → List Row → Bool
tiles at [] = eqb at 851
tiles at (r ∷ rs) = eqb r.position.start at and tiles (at + r.position.width) rs

-- the numbers of the rows, and of the fillers among them
unfoldable pub numbers : List Row → List ℕ
numbers rs = map (λ (r : Row). r.number) rs

unfoldable pub fillers : List Row → List ℕ
fillers [] = []
fillers (r ∷ rs) = choose r.unused (r.number ∷ fillers rs) (fillers rs)

-- where the field of a number stands among the rows
unfoldable pub position_in : List Row → ℕ → Field
position_in [] n = fixed 1 0
position_in (r ∷ rs) n = choose (eqb r.number n) r.position (position_in rs n)

-- the fields that document 01 names, and the record code: what the code has constants for
unfoldable pub named : List Field
named =
    map (position_in (rows records))
    (1 ∷ 2 ∷ 3 ∷ 6 ∷ 7 ∷ 8 ∷ 9 ∷ 10 ∷ 12 ∷ 13 ∷ 14 ∷ 15 ∷ 16 ∷ 17 ∷ 18 ∷ 19 ∷ 20 ∷ 23 ∷ 24 ∷ 25 ∷ 26 ∷ 28 ∷ 29 ∷ 35 ∷ 36 ∷ 38 ∷ 42 ∷ 43 ∷ 44 ∷ 48 ∷ 51 ∷ 52 ∷ 54 ∷ 55 ∷ 56 ∷ 58 ∷ 59 ∷ 62 ∷ 66 ∷ 80 ∷ 84 ∷ 85 ∷ 86 ∷ 87 ∷ 96 ∷ 99 ∷ 100 ∷ 103 ∷ 104 ∷ 105 ∷ [])
