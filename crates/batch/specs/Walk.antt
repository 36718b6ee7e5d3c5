-- How the walk goes from record to record. No promise to other crates rests on it: the proofs tie it to Batch.antt.
use Rattle.std.specs.Prelude.{Option, Some, None, is_some, unwrap_or, Err, Bool, false, List, [], ◌∷◌, ◌++◌, ℕ, ◌+◌, ◌-◌, ◌*◌, ◌/◌, ◌<◌, eqb, ltb, length, take, drop, replicate}
use Rattle.record.specs.declared.codes.Letter.TheVariants.{N}
use Rattle.record.specs.declared.codes.Code.{Code}
use Rattle.record.specs.declared.codes.Code.TheVariants as code
use Rattle.record.specs.Choice.{◌and◌, ◌or◌, choose}
use Rattle.record.specs.Fields.{summary_total_amount, agency_location_code, check_symbol_number, check_accounting_month_and_year, amount, payment_location_code, account_amount, procurement_amount}
use Rattle.record.specs.Value.{seen, held}
use Rattle.record.specs.Tests.{blank}
use Rattle.record.specs.Codes.{code_of, is_trailer, letter_in}
use Rattle.money.specs.declared.Amount.{Amount}
use Rattle.money.specs.Money as money
use Rattle.money.specs.Money.{worth, split, cents, Whole, comes_to}
use Rattle.calendar.specs.declared.Day.{Day}
use Rattle.calendar.specs.Clock.{month_in}
use Rattle.book.specs.Book.{Contents}
use Rattle.nesting.specs.Division.{Record}
use Rattle.nesting.specs.Records.{line_of, cut}
use Rattle.kinds.specs.Kinds.{kinds, crowded}
use Rattle.repeats.specs.declared.Sort.TheVariants.{Payments}
use Rattle.repeats.specs.declared.climb.Climbing.{Climbing}
use Rattle.repeats.specs.Repeats.{first_repeat}
use Rattle.repeats.specs.Climb.{climbed, climbed_by}
use Rattle.reasons.specs.declared.Finding.{Finding}
use Rattle.reasons.specs.declared.Reason.{Reason}
use Rattle.reasons.specs.declared.Reason.TheVariants.{Blank, Accounts, Procurements, Lacking, Crowded, Sum}
use Rattle.reasons.specs.Findings.{Checked, found, sound, after}
use Rattle.rules.specs.declared.Codes.{Codes}
use Rattle.rules.specs.declared.Context.{Context}
use Rattle.rules.specs.Rules.{check, among, header, detail, party, account, procurement, lone_procurement, trailer, rules_for, findings, Kept}
use Rattle.batch.specs.declared.Row.{Row}
use Rattle.batch.specs.declared.pass.Told.{Told}
use Rattle.batch.specs.declared.pass.Walked.{Walked}
use Rattle.batch.specs.declared.payment.Open.{Open}
use Rattle.batch.specs.declared.walk.Header.{Header}
use Rattle.batch.specs.declared.walk.State.{State}
use Rattle.batch.specs.Batch.{first_serial, no_codes, location_only, location, betc, detail_codes, account_context}

-- the record with this number is the one that repeats
unfoldable pub is_at : Option ℕ → ℕ → Bool
is_at (Some k) n = eqb k n
is_at None n = false

-- a payment of which only the detail was read
unfoldable pub opened : ℕ → Context → Amount → Open
opened n c a =
    record {
      number = n;
      context = c;
      amount = a;
      accounts = 0;
      sum = record { positive = split 0; negative = split 0 };
      procurements = 0;
      blank = false;
      procured = split 0;
    }

-- the payment with one DT more
unfoldable pub with_account : Open → Bool → ℕ → Open
with_account o credit n =
    record {
      number = o.number;
      context = o.context;
      amount = o.amount;
      accounts = o.accounts + 1;
      sum = money.entered o.sum credit n;
      procurements = o.procurements;
      blank = o.blank;
      procured = o.procured;
    }

-- the payment with one DP more
unfoldable pub with_procurement : Open → Bool → ℕ → Open
with_procurement o blank n =
    record {
      number = o.number;
      context = o.context;
      amount = o.amount;
      accounts = o.accounts;
      sum = o.sum;
      procurements = o.procurements + 1;
      blank = choose (eqb o.procurements 0) blank o.blank;
      procured = split (worth o.procured + n);
    }

-- the payment has one DP, and it is blank
unfoldable pub lone_blank : Open → Bool
lone_blank o = choose (eqb o.procurements 1) o.blank false

-- 9, 10 and 11
unfoldable pub account_reason : Open → Checked Reason
account_reason o =
    choose (eqb o.accounts 0) sound
    (choose (eqb o.accounts 1) (choose (eqb (worth o.sum.positive + worth o.sum.negative) (worth o.amount)) sound (Err Accounts))
    (choose (comes_to o.sum (worth o.amount)) sound (Err Accounts)))

unfoldable pub procurement_reason : Open → Checked Reason
procurement_reason o =
    choose (eqb o.procurements 0) sound (choose (lone_blank o) sound (choose (eqb (worth o.procured) (worth o.amount)) sound (Err Procurements)))

unfoldable pub lack_reason : Open → Checked Reason
lack_reason o = choose (o.context.reporter and eqb o.accounts 0) (Err Lacking) sound

-- what is wrong with the sums of the payment that ends
unfoldable pub ended : Open → List (Checked Finding)
ended o =
    found (account_reason o) o.number 87 ∷ found (procurement_reason o) o.number 96 ∷ found (lack_reason o) o.number 76 ∷ []

-- what the rules of the next record know of the batch
unfoldable pub context_of : State → Bool → Bool → Codes → Context
context_of s repeats reporter codes =
    record {
      repeats = repeats;
      reporter = reporter;
      codes = codes;
      symbol = s.header.symbol;
      serial = s.header.serial;
      month = s.header.month;
      payments = s.payments;
      total = s.total;
      today = s.header.today;
    }

-- the state with another first finding; with another payment and another count of DT too
abbrev pub state : Checked Finding → Header → Open → ℕ → Amount → ℕ → State
state f h o payments total accounts =
    record { finding = f; header = h; payment = o; payments = payments; total = total; accounts = accounts }

unfoldable pub knowing : State → Checked Finding → Open → ℕ → State
knowing s f o accounts = state f s.header o s.payments s.total accounts

-- a first DP may be blank; once there is a second, it may not
unfoldable pub next_procurement : Open → ℕ → Record → List (Checked Finding)
next_procurement o n r =
    found (choose (lone_blank o) (Err Blank) sound) (n - 1) 96
    ∷ findings o.context n r (rules_for N (choose (eqb o.procurements 0) lone_procurement procurement))

-- the state after a DX, after a DP
unfoldable pub partied : State → ℕ → Record → State
partied s n r =
    knowing s (after s.finding (findings s.payment.context n r (rules_for s.header.letter party))) s.payment s.accounts

unfoldable pub procured : State → ℕ → Record → State
procured s n r =
    knowing s (after s.finding (next_procurement s.payment n r))
    (with_procurement s.payment (blank (held r procurement_amount)) (cents (held r procurement_amount))) s.accounts

-- 12, the trailer, and field 9's sum
unfoldable pub last : State → ℕ → Record → List (Checked Finding)
last s n r =
    found (choose s.header.crowded (Err Crowded) sound) s.header.number 76
    ∷ (findings (context_of s false false no_codes) n r (rules_for N trailer)
    ++ found (choose (among s.header.letter check) sound (choose (eqb (worth s.header.amount) (worth s.total)) sound (Err Sum))) s.header.number 9
    ∷ [])

unfoldable pub trailed : State → ℕ → Record → State
trailed s n r = knowing s (after (after s.finding (ended s.payment)) (last s n r)) s.payment s.accounts

-- the records up to the first BT, with it: a batch ends with its BT (01 Nesting); all where there is none
unfoldable pub to_trailer : List Record → List Record
to_trailer [] = []
to_trailer (r ∷ rs) = r ∷ choose (is_trailer (code_of r)) [] (to_trailer rs)

-- no Payment ID yet
abbrev pub no_climb : Climbing
no_climb = record { falls = false; greatest = replicate 20 0 }

module _ (book : Contents) where
  -- what the header says, whether the batch is known to have too many kinds, and today
  unfoldable pub head : Option Day → Bool → ℕ → Record → Header
  head today crowded n h =
      record {
        number = n;
        letter = letter_in (code_of h);
        payer = location book (held h agency_location_code);
        symbol = held h check_symbol_number;
        serial = first_serial h;
        month = month_in (held h check_accounting_month_and_year);
        amount = split (cents (held h summary_total_amount));
        crowded = crowded;
        today = today;
      }

  -- what the header's rules know
  abbrev pub head_context : Option Day → Bool → Record → Context
  head_context today repeats h =
      record {
        repeats = repeats;
        reporter = false;
        codes = location_only (is_some (location book (held h agency_location_code)));
        symbol = held h check_symbol_number;
        serial = first_serial h;
        month = month_in (held h check_accounting_month_and_year);
        payments = 0;
        total = split 0;
        today = today;
      }

  -- before the first payment: an empty one of no reporter, with which nothing is wrong
  unfoldable pub opening : Option Day → Bool → Bool → ℕ → Record → State
  opening today repeats crowded n h =
      state (after sound (findings (head_context today repeats h) n h (rules_for (letter_in (code_of h)) header))) (head today crowded n h)
      (opened n (head_context today repeats h) (split 0)) 0 (split 0) 0

  -- the payer's location
  unfoldable pub payer_in : Header → Record → Option Bool
  payer_in h d = choose (among h.letter check) (location book (held d payment_location_code)) h.payer

  -- what the rules of a payment's records know
  unfoldable pub paying_context : State → Bool → Record → Context
  paying_context s repeats r =
      let payer = payer_in s.header r in
      context_of s repeats (unwrap_or payer false) (detail_codes book (is_some payer) r)

  unfoldable pub detailed : State → ℕ → Record → Bool → State
  detailed s n r repeats =
      let c = paying_context s repeats r in
      state (after (after s.finding (ended s.payment)) (findings c n r (rules_for s.header.letter detail))) s.header
      (opened n c (split (cents (held r amount)))) (s.payments + 1) (split (worth s.total + cents (held r amount))) s.accounts

  unfoldable pub accounted : State → ℕ → Record → State
  accounted s n r =
      knowing s (after s.finding (findings (account_context book s.payment.context r) n r (rules_for N account)))
      (with_account s.payment (unwrap_or (betc book r) false) (cents (held r account_amount))) (s.accounts + 1)

  -- the state after a record, by its code
  unfoldable pub step_of : Code → State → ℕ → Record → Bool → State
  step_of code.FileHeader s n r repeats = s
  step_of (code.Batch l) s n r repeats = s
  step_of (code.Detail l) s n r repeats = detailed s n r repeats
  step_of code.Party s n r repeats = partied s n r
  step_of code.Account s n r repeats = accounted s n r
  step_of code.Procurement s n r repeats = procured s n r
  step_of code.BatchTrailer s n r repeats = trailed s n r
  step_of code.FileTrailer s n r repeats = s
  step_of code.Unknown s n r repeats = s

  -- the state after records, the first of which has this number
  unfoldable pub run : (ℕ → Bool) → ℕ → State → List Record → State
  run repeats n s [] = s
  run repeats n s (r ∷ rs) = run repeats (n + 1) (step_of (code_of r) s n r (repeats n)) rs

  -- what is known after one record more
  unfoldable pub taken : ℕ → Walked → Record → Bool → Walked
  taken n w r repeats =
      record {
        state = step_of (code_of r) w.state n r repeats;
        climbing = climbed r w.climbing;
        records = w.records + 1;
      }

  -- and after records, the first of which has this number
  unfoldable pub walked_over : Told → ℕ → Walked → List Record → Walked
  walked_over told n w rs =
      record {
        state = run (is_at told.repeat) n w.state rs;
        climbing = climbed_by rs w.climbing;
        records = w.records + length rs;
      }

  -- the walk over what begins with a batch: the header, and the records behind it up to the first BT
  unfoldable pub walk_of : Option Day → Bool → Told → ℕ → List ℕ → Walked
  walk_of today repeats told n rest =
      walked_over told (n + 1) (record { state = opening today repeats told.crowded n (seen (line_of n) (take 850 rest)); climbing = no_climb; records = 1 })
      (to_trailer (cut (n + 1) (length rest / 850 - 1) (drop 850 rest)))

-- the first repeat of a Payment ID among the records of the bytes
abbrev pub first_in : ℕ → List ℕ → Option ℕ
first_in n bytes = first_repeat Payments n [] (cut n (length bytes / 850) bytes)

-- too many kinds among the DT of the bytes
abbrev pub crowded_in : ℕ → List ℕ → Bool
crowded_in n bytes = crowded (kinds (cut n (length bytes / 850) bytes))

-- the walk is told of a repeat, or of too many kinds
unfoldable pub is_told : Told → Bool
is_told t = t.crowded or is_some t.repeat

-- what is learnt of the bytes of a batch: the repeat is sought where an ID fell, and kinds are counted where there are more than 1,000 DT
unfoldable pub learnt : Bool → ℕ → ℕ → List ℕ → Told
learnt falls accounts n bytes = record { repeat = choose falls (first_in n bytes) None; crowded = ltb 1000 accounts and crowded_in n bytes }

-- what a second walk is told of: what was learnt, if that is something
unfoldable pub told_of : Told → Option Told
told_of told = choose (is_told told) (Some told) None

-- the row at the end of the walk
unfoldable pub row_at : State → ℕ → ℕ → Row
row_at s n records = record { first_record = n; records = records; payments = s.payments; total = s.total; finding = s.finding }

-- an amount of fewer than n times twenty nines and one
pub record Small (n : ℕ) (a : Amount) : Type 0 where
  pub whole : Whole a
  pub worth : worth a < n * 100000000000000000000

-- the sums of a payment have room for the record n
pub record Own (n : ℕ) (o : Open) : Type 0 where
  pub context : Kept o.context
  pub amount : Small 1 o.amount
  pub accounts : o.accounts < n
  pub positive : Whole o.sum.positive
  pub negative : Whole o.sum.negative
  pub sum : worth o.sum.positive + worth o.sum.negative < n * 100000000000000000000
  pub procurements : o.procurements < n
  pub procured : Small n o.procured

-- the state has room for the record n
pub record Room (n : ℕ) (s : State) : Type 0 where
  pub payment : Own n s.payment
  pub serial : s.header.serial < 100000000
  pub declared : Whole s.header.amount
  pub payments : s.payments < n
  pub total : Small n s.total
  pub accounts : s.accounts < n
