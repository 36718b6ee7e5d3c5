-- The reasons that one field can draw (01 Batch reasons), the least first.
use Rattle.std.specs.Prelude.{ℕ, Bool, false, Option, Some, None, List, ◌++◌, eqb, leb, ltb, replicate, Ok, Err}
use Rattle.record.specs.Choice.{◌and◌, choose}
use Rattle.record.specs.Tests.{blank, zeros, digits, alike, solid}
use Rattle.record.specs.Numeral.{numeral}
use Rattle.record.specs.Routing.{routing}
use Rattle.money.specs.Money.{cents}
use Rattle.calendar.specs.declared.Day.{Day}
use Rattle.calendar.specs.declared.Month.{Month}
use Rattle.calendar.specs.Calendar.{dashed_date, plain_date, month_year}
use Rattle.calendar.specs.Clock.{day_in, month_in, created, accountable, issued}
use Rattle.reasons.specs.declared.Reason.{Reason}
use Rattle.reasons.specs.declared.Reason.TheVariants.{Blank, Shape, Unlisted, Absent, NoDay, Repeated, Unlike, Range, Sum, Time}
use Rattle.reasons.specs.Findings.{Checked, sound}
use Rattle.reasons.specs.Lists.{one_of}

-- required
unfoldable pub required : List ℕ → Checked Reason
required v = choose (blank v) (Err Blank) sound

-- required, digits
unfoldable pub number : List ℕ → Checked Reason
number v = choose (blank v) (Err Blank) (choose (digits v) sound (Err Shape))

-- required, no blank byte (field 7)
unfoldable pub unbroken : List ℕ → Checked Reason
unbroken v = choose (blank v) (Err Blank) (choose (solid v) sound (Err Shape))

-- a date CCYY-MM-DD
unfoldable pub dashed_day : List ℕ → Checked Reason
dashed_day v = choose (blank v) (Err Blank) (choose (dashed_date v) sound (Err NoDay))

-- a date YYYYMMDD
unfoldable pub plain_day : List ℕ → Checked Reason
plain_day v = choose (blank v) (Err Blank) (choose (plain_date v) sound (Err NoDay))

-- MMYY, four digits, month 01-12 (field 20)
unfoldable pub month_and_year : List ℕ → Checked Reason
month_and_year v = choose (blank v) (Err Blank) (choose (digits v) (choose (month_year v) sound (Err NoDay)) (Err Shape))

-- a rule of a month; where there is no month it is not met
unfoldable pub in_month : (Month → Bool) → Option Month → Bool
in_month rule None = false
in_month rule (Some month) = rule month

-- a rule of today's: it is the last of its field, drawn where it draws no other; with nothing lent all is as before (02 W4)
unfoldable pub timely : Checked Reason → Option Day → (Day → Bool) → Checked Reason
timely (Err reason) today rule = Err reason
timely (Ok u) None rule = sound
timely (Ok u) (Some today) rule = choose (rule today) sound (Err Time)

-- a date YYYYMMDD that is not after today (field 17)
unfoldable pub creation_day : Option Day → List ℕ → Checked Reason
creation_day today v = timely (plain_day v) today (λ t. created t (day_in v))

-- a month MMYY that is neither too far ahead nor too far back (field 20)
unfoldable pub accounting_month : Option Day → List ℕ → Checked Reason
accounting_month today v = timely (month_and_year v) today (λ t. in_month (accountable t) (month_in v))

-- a date YYYYMMDD in the accounting month, neither too old nor too far ahead (field 59)
unfoldable pub issue_day : Option Day → Option Month → List ℕ → Checked Reason
issue_day today month v = timely (plain_day v) today (λ t. in_month (λ m. issued t m (day_in v)) month)

-- a routing number
unfoldable pub routing_number : List ℕ → Checked Reason
routing_number v = choose (blank v) (Err Blank) (choose (digits v) (choose (routing v) sound (Err Unlisted)) (Err Shape))

-- one of a list
unfoldable pub listed : List (List ℕ) → List ℕ → Checked Reason
listed values v = choose (blank v) (Err Blank) (choose (one_of values v) sound (Err Unlisted))

-- if filled, one of a list (field 51)
unfoldable pub if_listed : List (List ℕ) → List ℕ → Checked Reason
if_listed values v = choose (blank v) sound (choose (one_of values v) sound (Err Unlisted))

-- if filled, one of a list; unfilled also when all zeros (field 48)
unfoldable pub if_coded : List (List ℕ) → List ℕ → Checked Reason
if_coded values v = choose (blank v) sound (choose (zeros v) sound (choose (one_of values v) sound (Err Unlisted)))

-- if filled, digits; unfilled also when all zeros (field 36)
unfoldable pub if_postal : List ℕ → Checked Reason
if_postal v = choose (blank v) sound (choose (zeros v) sound (choose (digits v) sound (Err Shape)))

-- if filled, digits (field 96 of a payment's only DP)
unfoldable pub if_number : List ℕ → Checked Reason
if_number v = choose (blank v) sound (choose (digits v) sound (Err Shape))

-- required, in the book: listed there or not
unfoldable pub in_book : Bool → List ℕ → Checked Reason
in_book listed v = choose (blank v) (Err Blank) (choose listed sound (Err Absent))

-- if filled, in the book
unfoldable pub if_in_book : Bool → List ℕ → Checked Reason
if_in_book listed v = choose (blank v) sound (choose listed sound (Err Absent))

-- an amount above zero (field 24)
unfoldable pub positive : List ℕ → Checked Reason
positive v = choose (blank v) (Err Blank) (choose (digits v) (choose (ltb 0 (cents v)) sound (Err Range)) (Err Shape))

-- an amount of at most 9,999,999,999 cents, and zero if the check is voided (field 24 of a DC)
unfoldable pub check_amount : Bool → List ℕ → Checked Reason
check_amount voided v = choose (blank v) (Err Blank) (choose (digits v) (choose (ltb 9999999999 (cents v)) (Err Range) (choose voided (choose (ltb 0 (cents v)) (Err Range) sound) sound)) (Err Shape))

-- a check symbol, from 1000 to 9998 (field 18)
unfoldable pub check_symbol : List ℕ → Checked Reason
check_symbol v = choose (blank v) (Err Blank) (choose (digits v) (choose (leb 1000 (numeral v) and leb (numeral v) 9998) sound (Err Range)) (Err Shape))

-- a number that another must equal, and the reason where it does not (fields 58, 99)
unfoldable pub number_is : Reason → ℕ → List ℕ → Checked Reason
number_is reason n v = choose (blank v) (Err Blank) (choose (digits v) (choose (eqb (numeral v) n) sound (Err reason)) (Err Shape))

-- an amount that a sum must equal: the sum differs where it does not (field 100)
unfoldable pub amount_is : ℕ → List ℕ → Checked Reason
amount_is n v = choose (blank v) (Err Blank) (choose (digits v) (choose (eqb (cents v) n) sound (Err Sum)) (Err Shape))

-- a number that is required and repeats no earlier one (field 6, field 23)
unfoldable pub unrepeated : Bool → List ℕ → Checked Reason
unrepeated repeats v = choose (blank v) (Err Blank) (choose repeats (Err Repeated) sound)

-- a symbol, a serial number, and blanks
unfoldable pub symbol_and_serial : List ℕ → List ℕ → ℕ → List ℕ
symbol_and_serial symbol serial blanks = symbol ++ (serial ++ replicate blanks 0x40)

-- the same, and it is a symbol, a serial number and blanks (fields 6 and 23 in check batches)
unfoldable pub composed : Bool → List ℕ → List ℕ → ℕ → List ℕ → Checked Reason
composed repeats symbol serial blanks v =
    choose (blank v) (Err Blank) (choose repeats (Err Repeated) (choose (alike v (symbol_and_serial symbol serial blanks)) sound (Err Unlike)))
