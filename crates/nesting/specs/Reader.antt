-- How the reader goes from record to record. No promise about a file rests on it: the proofs tie it to Division.antt.
use Rattle.std.specs.Prelude.{Bool, true, false, not, List, [], ◌∷◌, ℕ, ◌+◌, eqb, ltb, replicate, Result, Ok, Err}
use Rattle.record.specs.declared.codes.Letter.{Letter}
use Rattle.record.specs.declared.codes.Letter.TheVariants.{N}
use Rattle.record.specs.declared.codes.Code.{Code}
use Rattle.record.specs.declared.codes.Code.TheVariants.{FileHeader, Batch, Detail, Party, Account, Procurement, BatchTrailer, FileTrailer, Unknown}
use Rattle.record.specs.Choice.{◌and◌, ◌or◌, choose}
use Rattle.record.specs.Fields.{payment_id}
use Rattle.record.specs.Value.{held}
use Rattle.record.specs.Tests.{alike}
use Rattle.record.specs.Codes.{letter_byte, code_of}
use Rattle.nesting.specs.declared.Counts.{Counts}
use Rattle.nesting.specs.declared.reader.Place.{Place}
use Rattle.nesting.specs.declared.reader.Place.TheVariants.{Start, FileOpen, BatchOpen, PaymentOpen, BatchClosed, FileClosed}
use Rattle.nesting.specs.declared.reader.State.{State}
use Rattle.nesting.specs.Division.{Record}

-- a number for each place, by which two are compared
unfoldable pub place_number : Place → ℕ
place_number Start = 0
place_number FileOpen = 1
place_number BatchOpen = 2
place_number PaymentOpen = 3
place_number BatchClosed = 4
place_number FileClosed = 5

-- the reader stands at this place
unfoldable pub is_at : State → Place → Bool
is_at s p = eqb (place_number s.place) (place_number p)

-- the same letter
unfoldable pub same_letter : Letter → Letter → Bool
same_letter l m = eqb (letter_byte l) (letter_byte m)

-- the letter of check batches
unfoldable pub is_check : Letter → Bool
is_check l = eqb (letter_byte l) 0xC3

-- batches of these letters may stand in one file
unfoldable pub besides : Letter → Letter → Bool
besides l m = choose (is_check l) (is_check m) (not (is_check m))

-- a payment is open and may end here
unfoldable pub complete : State → Bool
complete s = is_at s PaymentOpen and s.party

-- the record has the open payment's ID
unfoldable pub owns : State → List ℕ → Bool
owns s id = alike id s.id

-- a batch, a payment, or one more DX, DT or DP may come next
unfoldable pub opens_batch : State → Letter → Bool
opens_batch s l = is_at s FileOpen or is_at s BatchClosed and besides s.letter l

unfoldable pub opens_payment : State → Letter → Bool
opens_payment s l = same_letter l s.letter and (is_at s BatchOpen or complete s)

unfoldable pub takes_party : State → Bool
takes_party s = is_at s PaymentOpen and eqb s.accounts 0 and eqb s.procurements 0

unfoldable pub takes_account : State → Bool
takes_account s = complete s and eqb s.procurements 0 and ltb s.accounts 100

unfoldable pub takes_procurement : State → Bool
takes_procurement s = complete s and ltb s.procurements 100

-- a record of this code with this Payment ID may come next
unfoldable pub fits : State → Code → List ℕ → Bool
fits s FileHeader id = is_at s Start
fits s (Batch l) id = opens_batch s l
fits s (Detail l) id = opens_payment s l
fits s Party id = takes_party s and owns s id
fits s Account id = takes_account s and owns s id
fits s Procurement id = takes_procurement s and owns s id
fits s BatchTrailer id = complete s
fits s FileTrailer id = is_at s BatchClosed
fits s Unknown id = false

-- the state before the first record
unfoldable pub start : State
start =
    record { place = Start; letter = N; id = replicate 20 0; party = false; accounts = 0; procurements = 0; batches = 0; payments = 0 }

-- the same state at another place
unfoldable pub moved : State → Place → State
moved s p =
    record {
      place = p;
      letter = s.letter;
      id = s.id;
      party = s.party;
      accounts = s.accounts;
      procurements = s.procurements;
      batches = s.batches;
      payments = s.payments;
    }

-- a batch is open, a payment is open
unfoldable pub in_batch : State → Letter → State
in_batch s l =
    record {
      place = BatchOpen;
      letter = l;
      id = s.id;
      party = s.party;
      accounts = s.accounts;
      procurements = s.procurements;
      batches = s.batches + 1;
      payments = s.payments;
    }

unfoldable pub in_payment : State → List ℕ → State
in_payment s id =
    record {
      place = PaymentOpen;
      letter = s.letter;
      id = id;
      party = false;
      accounts = 0;
      procurements = 0;
      batches = s.batches;
      payments = s.payments + 1;
    }

-- the open payment has a DX; so many DT, so many DP
unfoldable pub taken : State → Bool → ℕ → ℕ → State
taken s party accounts procurements =
    record {
      place = s.place;
      letter = s.letter;
      id = s.id;
      party = party;
      accounts = accounts;
      procurements = procurements;
      batches = s.batches;
      payments = s.payments;
    }

-- the state after a record that fits
unfoldable pub next : State → Code → List ℕ → State
next s FileHeader id = moved s FileOpen
next s (Batch l) id = in_batch s l
next s (Detail l) id = in_payment s id
next s Party id = taken s true s.accounts s.procurements
next s Account id = taken s s.party (s.accounts + 1) s.procurements
next s Procurement id = taken s s.party s.accounts (s.procurements + 1)
next s BatchTrailer id = moved s BatchClosed
next s FileTrailer id = moved s FileClosed
next s Unknown id = s

-- the same of a whole record
unfoldable pub follows : State → Record → Bool
follows s r = fits s (code_of r) (held r payment_id)

unfoldable pub after : State → Record → State
after s r = next s (code_of r) (held r payment_id)

-- the batches and the payments so far
abbrev pub counted : State → Counts
counted s = record { batches = s.batches; payments = s.payments }

-- what the reader says of the records that are left, n having been read
unfoldable pub read_on : State → ℕ → List Record → Result Counts ℕ
read_on s n [] = choose (is_at s FileClosed) (Ok (counted s)) (Err (n + 1))
read_on s n (r ∷ rs) = choose (follows s r) (read_on (after s r) (n + 1) rs) (Err (n + 1))
