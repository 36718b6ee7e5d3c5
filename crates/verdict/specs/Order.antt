-- The order in which the code tests. No promise to other crates rests on it: the proofs tie it to Answer.antt.
use Rattle.std.specs.Prelude.{ℕ, ◌%◌, ◌≡◌, Bool, true, List, [], ◌∷◌, ◌++◌, Option, Some, None, Result, eqb, ltb}
use Rattle.record.specs.Choice.{◌and◌, choose}
use Rattle.record.specs.Fields.{input_system, version_identifier, total_count_records, total_count, total_amount}
use Rattle.record.specs.Value.{held}
use Rattle.record.specs.Tests.{digits, alike}
use Rattle.record.specs.Numeral.{numeral}
use Rattle.money.specs.Money.{cents}
use Rattle.calendar.specs.Clock.{lendable}
use Rattle.book.specs.Book.{Contents, Lists}
use Rattle.nesting.specs.Division.{Record, Division, DivisionOf}
use Rattle.nesting.specs.Records.{Cuttable, records}
use Rattle.verdict.specs.declared.Accepted.{Accepted}
use Rattle.verdict.specs.declared.Refusal.{Refusal}
use Rattle.verdict.specs.declared.reason.Reason.{Reason}
use Rattle.verdict.specs.Answer.{stated, strange, acceptance, NoneOf, Judgement, version201}
use Rattle.verdict.specs.declared.reason.Reason.TheVariants.{Empty, Ragged, TooLong, BookUnsound, NoDay, Nesting, ReportShort, LowByte, InputSystem, Version, TrailerDigits, RecordCount, PaymentCount, TotalAmount}

-- 1 to 3, by the file's length
unfoldable pub length_reason : ℕ → Option Reason
length_reason n =
    choose (eqb n 0) (Some Empty) (choose (eqb (n % 850) 0) (choose (ltb 55704750 n) (Some TooLong) None) (Some Ragged))

-- 8 and 9, by FH
unfoldable pub header_reason : Contents → Record → Option Reason
header_reason c r =
    choose (strange c (held r input_system)) (Some InputSystem) (choose (alike (held r version_identifier) version201) None (Some Version))

-- every number in FT is digits
unfoldable pub numbered_in : Record → Bool
numbered_in r = digits (held r total_count_records) and digits (held r total_count) and digits (held r total_amount)

-- 10 to 13, by FT, the record count, the payments and what they come to
unfoldable pub trailer_reason : ℕ → ℕ → ℕ → Record → Option Reason
trailer_reason count payments total r =
    choose (numbered_in r)
    (choose (eqb (numeral (held r total_count_records)) count)
    (choose (eqb (numeral (held r total_count)) payments)
    (choose (eqb (cents (held r total_amount)) total) None (Some TotalAmount))
    (Some PaymentCount))
    (Some RecordCount))
    (Some TrailerDigits)

-- what is left to test: from FT on, from FH on, from the report's room on, from the book on
abbrev pub from_trailer : List Reason
from_trailer = TrailerDigits ∷ RecordCount ∷ PaymentCount ∷ TotalAmount ∷ []

abbrev pub from_header : List Reason
from_header = InputSystem ∷ Version ∷ from_trailer

abbrev pub from_room : List Reason
from_room = ReportShort ∷ LowByte ∷ from_header

abbrev pub from_book : List Reason
from_book = BookUnsound ∷ NoDay ∷ Nesting ∷ from_room

-- what the tests before the report's room leave: whole records with a division, a book that lists something, and what to answer if nothing more applies
pub record Known (file book : List ℕ) (v : Accepted) : Type 0 where
  pub cuttable : Cuttable file
  pub contents : Contents
  pub lists : Lists book contents
  pub division : Division
  pub divided : DivisionOf (records file) division
  pub accepts : v ≡ acceptance contents division

-- only these are left: no reason that is stated before them applies
pub record Clear (file book today : List ℕ) (room : ℕ) (left : List Reason) : Type 0 where
  pub earlier : List Reason
  pub order : stated ≡ earlier ++ left
  pub none : NoneOf file book today room earlier

-- the answer where FH and FT are left, whatever is lent for today, and whatever the room
pub record Framed (file book : List ℕ) (v : Result Accepted Refusal) : Type 0 where
  pub judged : (today : List ℕ) (room : ℕ) → Clear file book today room from_header → Judgement file book today room v

-- the answer where the report's room is left, whatever real day is lent, or nothing
pub record Roomed (file book : List ℕ) (room : ℕ) (v : Result Accepted Refusal) : Type 0 where
  pub judged : (today : List ℕ) → lendable today ≡ true → Judgement file book today room v
