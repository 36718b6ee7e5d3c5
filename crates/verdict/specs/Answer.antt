-- The file answers of document 01: when each applies, the record that it names, and the first that applies.
use Rattle.std.specs.Prelude.{ℕ, ◌*◌, ◌%◌, ◌<◌, ◌≡◌, Bool, true, false, List, [], ◌∷◌, ◌++◌, length, Some, None, is_none, Result, Ok, Err}
use Rattle.record.specs.Choice.{◌and◌, ◌or◌}
use Rattle.record.specs.Fields.{input_system, version_identifier, total_count_records, total_count, total_amount}
use Rattle.record.specs.Value.{held}
use Rattle.record.specs.Tests.{blank, digits, alike}
use Rattle.record.specs.Numeral.{numeral}
use Rattle.money.specs.Money.{split}
use Rattle.calendar.specs.Clock.{lendable}
use Rattle.book.specs.Book.{Contents, Lists, entry_for, placed}
use Rattle.nesting.specs.Division.{All, Division, DivisionOf, Divided, lines, payment_count}
use Rattle.nesting.specs.Paid.{paid_by_all}
use Rattle.nesting.specs.Records.{records}
use Rattle.nesting.specs.Promise.{counts, RefusedAt}
use Rattle.characters.specs.Characters.{first_unclean}
use Rattle.report.specs.Rows.{room_for}
use Rattle.verdict.specs.declared.reason.Reason.{Reason}
use Rattle.verdict.specs.declared.reason.Reason.TheVariants.{Empty, Ragged, TooLong, BookUnsound, NoDay, Nesting, ReportShort, LowByte, InputSystem, Version, TrailerDigits, RecordCount, PaymentCount, TotalAmount}
use Rattle.verdict.specs.declared.Accepted.{Accepted}
use Rattle.verdict.specs.declared.Refusal.{Refusal}

-- the numbers of the reasons, for the answer (01 File answers; 02 W4: 14)
unfoldable pub number_of : Reason → ℕ
number_of Empty = 1
number_of Ragged = 2
number_of TooLong = 3
number_of BookUnsound = 4
number_of Nesting = 5
number_of ReportShort = 6
number_of LowByte = 7
number_of InputSystem = 8
number_of Version = 9
number_of TrailerDigits = 10
number_of RecordCount = 11
number_of PaymentCount = 12
number_of TotalAmount = 13
number_of NoDay = 14

-- the order in which they are tested (01 File answers; 02 W4: 14 between 4 and 5)
unfoldable pub stated : List Reason
stated =
    Empty ∷ Ragged ∷ TooLong ∷ BookUnsound ∷ NoDay ∷ Nesting ∷ ReportShort ∷ LowByte ∷ InputSystem ∷ Version ∷ TrailerDigits ∷ RecordCount ∷ PaymentCount ∷ TotalAmount ∷ []

-- 201 (01 File answers, 9)
abbrev pub version201 : List ℕ
version201 = 0xF2 ∷ 0xF0 ∷ 0xF1 ∷ []

-- the InputSystem is blank or not in kind 1
unfoldable pub strange : Contents → List ℕ → Bool
strange c v = blank v or is_none (entry_for 40 c.systems v)

-- every number in FT is digits
unfoldable pub numbered : Division → Bool
numbered d = digits (held d.trailer total_count_records) and digits (held d.trailer total_count) and digits (held d.trailer total_amount)

-- a refusal by a reason, which names a record, or 0
abbrev pub refusal : Reason → ℕ → Refusal
refusal k m = record { reason = k; record_number = m }

-- an accepted file: the places of the book's sections, and what the division comes to
unfoldable pub acceptance : Contents → Division → Accepted
acceptance c d = record { shelves = placed c; counts = counts d; total = split (paid_by_all d.batches) }

module _ (file book today : List ℕ) (room : ℕ) where
  -- of the file's division, and of what the book lists
  pub record Of (P : Contents → Division → Type 0) : Type 0 where
    pub contents : Contents
    pub lists : Lists book contents
    pub division : Division
    pub divided : DivisionOf (records file) division
    pub holds : P contents division

  -- given when (01 File answers, second column)
  abbrev pub Applies : Reason → Type 0
  Applies Empty = length file ≡ 0
  Applies Ragged = length file % 850 ≡ 0 → ⊥
  Applies TooLong = 65535 * 850 < length file
  Applies BookUnsound = (c : Contents) → Lists book c → ⊥
  Applies NoDay = lendable today ≡ false
  Applies Nesting = Divided (records file) → ⊥
  Applies ReportShort = Of (λ c d. room < room_for (length d.batches))
  Applies LowByte = first_unclean 1 (records file) ≡ None → ⊥
  Applies InputSystem = Of (λ c d. strange c (held d.header input_system) ≡ true)
  Applies Version = Of (λ c d. alike (held d.header version_identifier) version201 ≡ false)
  Applies TrailerDigits = Of (λ c d. numbered d ≡ false)
  Applies RecordCount = Of (λ c d. numeral (held d.trailer total_count_records) ≡ length (lines d) → ⊥)
  Applies PaymentCount = Of (λ c d. numeral (held d.trailer total_count) ≡ payment_count d.batches → ⊥)
  Applies TotalAmount = Of (λ c d. numeral (held d.trailer total_amount) ≡ paid_by_all d.batches → ⊥)

  -- the record (01 File answers, third column)
  abbrev pub Names : Reason → ℕ → Type 0
  Names Empty m = m ≡ 0
  Names Ragged m = m ≡ 0
  Names TooLong m = m ≡ 0
  Names BookUnsound m = m ≡ 0
  Names NoDay m = m ≡ 0
  Names Nesting m = RefusedAt (records file) m
  Names ReportShort m = m ≡ 0
  Names LowByte m = Some m ≡ first_unclean 1 (records file)
  Names InputSystem m = m ≡ 1
  Names Version m = m ≡ 1
  Names TrailerDigits m = m ≡ length (records file)
  Names RecordCount m = m ≡ length (records file)
  Names PaymentCount m = m ≡ length (records file)
  Names TotalAmount m = m ≡ length (records file)

  -- none of these applies
  abbrev pub NoneOf : List Reason → Type 0
  NoneOf js = All (λ j. Applies j → ⊥) js

  -- the first that applies in the stated order is given, and only when it applies
  pub record Refused (k : Reason) (m : ℕ) : Type 0 where
    pub applies : Applies k
    pub earlier : List Reason
    pub later : List Reason
    pub order : stated ≡ earlier ++ k ∷ later
    pub first : NoneOf earlier
    pub names : Names k m

  -- what an answer says
  pub data Judgement : Result Accepted Refusal → Type 0 where
    refused : (k : Reason) (m : ℕ) → Refused k m → Judgement (Err (refusal k m))
    accepted : ((j : Reason) → Applies j → ⊥) → (c : Contents) → Lists book c → (d : Division) → DivisionOf (records file) d → Judgement (Ok (acceptance c d))
