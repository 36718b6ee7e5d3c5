-- The row of a batch over its division: its findings in document 01's order, its counts and its total (01 Batch reasons, Report).
use Rattle.std.specs.Prelude.{Option, is_some, unwrap_or, Err, ◌≡◌, Bool, true, false, List, [], ◌∷◌, ◌++◌, map, ℕ, ◌+◌, ◌/◌, ◌%◌, ◌≤◌, eqb, length}
use Rattle.record.specs.declared.codes.Letter.{Letter}
use Rattle.record.specs.Choice.{◌and◌, choose}
use Rattle.record.specs.Fields.{summary_total_amount, agency_location_code, check_symbol_number, check_first_serial_number, check_accounting_month_and_year, payment_id, payment_type_code, payment_location_code, state_code, country_code, original_currency_code, business_event_type_code, account_amount, procurement_amount}
use Rattle.record.specs.Value.{held}
use Rattle.record.specs.Tests.{digits}
use Rattle.record.specs.Numeral.{numeral}
use Rattle.record.specs.Codes.{code_of, letter_in}
use Rattle.money.specs.Money.{split, cents, total}
use Rattle.calendar.specs.declared.Day.{Day}
use Rattle.calendar.specs.Clock.{month_in}
use Rattle.book.specs.Book.{Contents, listing}
use Rattle.nesting.specs.Division.{Record, Payment, Batch, LegalBatch, batch_lines}
use Rattle.nesting.specs.Paid.{paid, paid_by}
use Rattle.nesting.specs.Records.{cut}
use Rattle.tables.specs.Tables.{member}
use Rattle.kinds.specs.Kinds.{kind, crowded}
use Rattle.reasons.specs.declared.Finding.{Finding}
use Rattle.reasons.specs.declared.Reason.TheVariants.{Accounts, Procurements, Lacking, Crowded, Sum}
use Rattle.reasons.specs.Findings.{Checked, sound, found, first}
use Rattle.rules.specs.declared.Codes.{Codes}
use Rattle.rules.specs.declared.Context.{Context}
use Rattle.rules.specs.Rules.{Rule, check, among, header, detail, party, account, procurement, lone_procurement, trailer, rules_for, findings}
use Rattle.batch.specs.declared.Row.{Row}
use Rattle.batch.specs.Sums.{Entry, balances, procures}

-- the letter of a batch, by its header
unfoldable pub letter_of : Record → Letter
letter_of h = letter_in (code_of h)

-- a payment's ID (field 23)
abbrev pub id_of : Payment → List ℕ
id_of p = held p.detail payment_id

-- the records of a payment, of payments, and the DT among them
unfoldable pub size : Payment → ℕ
size p = 1 + length p.parties + length p.accounts + length p.procurements

unfoldable pub sizes : List Payment → ℕ
sizes ps = total (map size ps)

unfoldable pub account_count : List Payment → ℕ
account_count ps = total (map (λ (p : Payment). length p.accounts) ps)

-- the number in field 19; what is no number is at fault there, and counts as zero here
unfoldable pub first_serial : Record → ℕ
first_serial h = choose (digits (held h check_first_serial_number)) (numeral (held h check_first_serial_number)) 0

-- what the rules of a record know beside it: whether its number repeats an earlier one, whether the payer is a CARS Reporter, which of its
-- codes are in the book, the header's fields 18, 19 and 20, the earlier payments, and today (02 W4)
unfoldable pub context : Option Day → Record → Bool → Bool → Codes → List Payment → Context
context today h repeats reporter codes earlier =
    record {
      repeats = repeats;
      reporter = reporter;
      codes = codes;
      symbol = held h check_symbol_number;
      serial = first_serial h;
      month = month_in (held h check_accounting_month_and_year);
      payments = length earlier;
      total = split (paid_by earlier);
      today = today;
    }

-- the same, of a record with other codes
unfoldable pub with_codes : Context → Codes → Context
with_codes c codes =
    record {
      repeats = c.repeats;
      reporter = c.reporter;
      codes = codes;
      symbol = c.symbol;
      serial = c.serial;
      month = c.month;
      payments = c.payments;
      total = c.total;
      today = c.today;
    }

-- the codes of a record that has none but a location, none but a BETC, none at all
unfoldable pub location_only : Bool → Codes
location_only listed = record { locations = listed; betcs = false; types = false; states = false; countries = false; currencies = false }

unfoldable pub betc_only : Bool → Codes
betc_only listed = record { locations = false; betcs = listed; types = false; states = false; countries = false; currencies = false }

abbrev pub no_codes : Codes
no_codes = location_only false

-- no records
unfoldable pub no_records : List Record → Bool
no_records [] = true
no_records (r ∷ rs) = false

-- the kinds of TAS/BETC of the DT of payments, in file order (02 W1)
unfoldable pub account_kinds : List Payment → List (List ℕ)
account_kinds [] = []
account_kinds (p ∷ ps) = map kind p.accounts ++ account_kinds ps

-- 12: more than 1,000 different kinds in the batch, with the header's record and field 76 (02 W1; 004 section 2.5)
unfoldable pub too_many : ℕ → List Payment → Checked Finding
too_many n ps = found (choose (crowded (account_kinds ps)) (Err Crowded) sound) n 76

-- field 9 equals the sum, except in BC (14, header's record)
unfoldable pub summary : ℕ → Record → List Payment → Checked Finding
summary n h ps = found (choose (among (letter_of h) check) sound (choose (eqb (cents (held h summary_total_amount)) (paid_by ps)) sound (Err Sum))) n 9

-- what the rules find in records that stand one after the other, each in its context; the first has this number
unfoldable pub each : (Record → Context) → List Rule → ℕ → List Record → List (Checked Finding)
each known rules n [] = []
each known rules n (r ∷ rs) = findings (known r) n r rules ++ each known rules (n + 1) rs

-- the same of a payment's DP: the only one may leave its amount blank (01 Others)
unfoldable pub each_procurement : Letter → Context → ℕ → List Record → List (Checked Finding)
each_procurement l c n [] = []
each_procurement l c n (p ∷ []) = each (λ (r : Record). c) (rules_for l lone_procurement) n (p ∷ [])
each_procurement l c n (p ∷ q ∷ ps) = each (λ (r : Record). c) (rules_for l procurement) n (p ∷ q ∷ ps)

module _ (book : Contents) where
  -- what the book says of a location (kind 2); an unknown one is no CARS Reporter's (01 Code book)
  unfoldable pub location : List ℕ → Option Bool
  location v = listing 8 book.locations v

  -- the payer's location: field 14, or field 29 for DC (01 Others)
  unfoldable pub payer : Record → Record → Option Bool
  payer h d = choose (among (letter_of h) check) (location (held d payment_location_code)) (location (held h agency_location_code))

  -- what the book says of a DT's BETC (field 86, kind 3): a credit or not; a blank one counts positive (01 Sums). Field 88 is not read
  unfoldable pub betc : Record → Option Bool
  betc t = listing 8 book.betcs (held t business_event_type_code)

  -- a DT as the sum sees it
  unfoldable pub entry_of : Record → Entry
  entry_of t = (unwrap_or (betc t) false, cents (held t account_amount))

  -- the codes of a header (field 14), of a detail (fields 28, 35, 38 and 52, and its payer's location) and, for the rules of a DT, its own (field 86)
  unfoldable pub header_codes : Record → Codes
  header_codes h = location_only (is_some (location (held h agency_location_code)))

  unfoldable pub detail_codes : Bool → Record → Codes
  detail_codes payer d =
      record {
        locations = payer;
        betcs = false;
        types = is_some (listing 25 book.types (held d payment_type_code));
        states = is_some (listing 2 book.states (held d state_code));
        countries = is_some (listing 2 book.countries (held d country_code));
        currencies = is_some (listing 3 book.currencies (held d original_currency_code));
      }

  unfoldable pub account_context : Context → Record → Context
  account_context c t = with_codes c (betc_only (is_some (betc t)))

  -- 9, 10 and 11, with the detail's record and fields 87, 96 and 76 (01 Batch reasons)
  unfoldable pub sums : Bool → ℕ → Payment → List (Checked Finding)
  sums reporter n p =
      found (choose (balances (paid p) (map entry_of p.accounts)) sound (Err Accounts)) n 87
      ∷ found (choose (procures (paid p) (map (λ (r : Record). held r procurement_amount) p.procurements)) sound (Err Procurements)) n 96
      ∷ found (choose (reporter and no_records p.accounts) (Err Lacking) sound) n 76
      ∷ []

  -- a payment: its detail, its other records in file order, its sums
  unfoldable pub payment : Letter → Context → ℕ → Payment → List (Checked Finding)
  payment l c n p =
      findings c n p.detail (rules_for l detail)
      ++ (each (λ (r : Record). c) (rules_for l party) (n + 1) p.parties
      ++ (each (account_context c) (rules_for l account) (n + 1 + length p.parties) p.accounts
      ++ (each_procurement l c (n + 1 + length p.parties + length p.accounts) p.procurements
      ++ sums c.reporter n p)))

  module _ (today : Option Day) where
    -- what the rules of a payment's records know
    unfoldable pub detail_context : Record → Bool → List Payment → Record → Context
    detail_context h repeats earlier d = context today h repeats (unwrap_or (payer h d) false) (detail_codes (is_some (payer h d)) d) earlier

    -- each payment, after those earlier in the batch
    unfoldable pub payments : Record → ℕ → List Payment → List Payment → List (Checked Finding)
    payments h n earlier [] = []
    payments h n earlier (p ∷ ps) =
        payment (letter_of h) (detail_context h (member (id_of p) (map id_of earlier)) earlier p.detail) n p
        ++ payments h (n + size p) (earlier ++ p ∷ []) ps

    -- the findings of a batch in document 01's order; its header is record n, and repeats an earlier batch's schedule number or not
    unfoldable pub batch_findings : Bool → ℕ → Batch → List (Checked Finding)
    batch_findings repeats n b =
        findings (context today b.header repeats false (header_codes b.header) []) n b.header (rules_for (letter_of b.header) header)
        ++ (payments b.header (n + 1) [] b.payments
        ++ (too_many n b.payments
        ∷ (findings (context today b.header false false no_codes b.payments) (n + 1 + sizes b.payments) b.trailer (rules_for (letter_of b.header) trailer)
        ++ summary n b.header b.payments
        ∷ [])))

    -- the batch's row (01 Report): the total and the counts are over its payments, whatever its faults
    unfoldable pub row_of : Bool → ℕ → Batch → Row
    row_of repeats n b =
        record {
          first_record = n;
          records = length (batch_lines b);
          payments = length b.payments;
          total = split (paid_by b.payments);
          finding = first (batch_findings repeats n b);
        }

-- the rest of a file begins with the records of the batch; the first has this number, and more may follow
pub record BatchOf (n : ℕ) (rest : List ℕ) (b : Batch) : Type 0 where
  pub legal : LegalBatch b
  pub more : List Record
  pub whole : batch_lines b ++ more ≡ cut n (length rest / 850) rest

-- the rest is whole records, with numbers of at most 65,535, and it begins with a batch
pub record Judgeable (n : ℕ) (rest : List ℕ) : Type 0 where
  pub numbered : 1 ≤ n
  pub whole : length rest % 850 ≡ 0
  pub few : n + length rest / 850 ≤ 65536
  pub batch : (b : Batch) × BatchOf n rest b

-- the row is that of the batch with which the rest begins
abbrev pub IsRow : Contents → Option Day → Bool → ℕ → List ℕ → Row → Type 0
IsRow book today repeats n rest row = (b : Batch) → BatchOf n rest b → row ≡ row_of book today repeats n b
