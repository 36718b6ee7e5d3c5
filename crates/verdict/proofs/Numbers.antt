-- The numbers of the reasons: from 1 on, and no two the same; and that every reason is stated.
-- Assumes nothing.
use mathlib.Core.Path.{◌≡◌, refl, sym, ◌∙◌, ap}
use mathlib.Core.Bool.{Bool, true, false}
use mathlib.Core.List.{List, [], ◌∷◌}
use Prim.Native.Nat.{ℕ, ◌-◌, ◌≤◌}
use native.Mathlib.Omega.{arith}
use lib.Dec.{eqb}
use lib.ListN.{get_or}
use Rattle.record.specs.Choice.{◌or◌}
use Rattle.verdict.specs.declared.reason.Reason.{Reason}
use Rattle.verdict.specs.Answer.{number_of, stated}
use Rattle.verdict.specs.declared.reason.Reason.TheVariants.{Empty, Ragged, TooLong, BookUnsound, NoDay, Nesting, ReportShort, LowByte, InputSystem, Version, TrailerDigits, RecordCount, PaymentCount, TotalAmount}

-- the reasons in the order of their numbers
reasons : List Reason
reasons =
    Empty ∷ Ragged ∷ TooLong ∷ BookUnsound ∷ Nesting ∷ ReportShort ∷ LowByte ∷ InputSystem ∷ Version ∷ TrailerDigits ∷ RecordCount ∷ PaymentCount ∷ TotalAmount ∷ NoDay ∷ []

-- the reason of a number
reason_of : ℕ → Reason
reason_of n = get_or reasons (n - 1) Empty

-- a reason is one of these
unfoldable pub among : Reason → List Reason → Bool
among k [] = false
among k (j ∷ js) = eqb (number_of k) (number_of j) or among k js

record Numbered (k : Reason) : Type 0 where
  from : 1 ≤ number_of k
  back : reason_of (number_of k) ≡ k
  listed : among k stated ≡ true

numbered : (k : Reason) → Numbered k
unfolding number_of reason_of reasons among stated ◌or◌
numbered Empty = record { from = omega arith; back = refl; listed = refl }
numbered Ragged = record { from = omega arith; back = refl; listed = refl }
numbered TooLong = record { from = omega arith; back = refl; listed = refl }
numbered BookUnsound = record { from = omega arith; back = refl; listed = refl }
numbered NoDay = record { from = omega arith; back = refl; listed = refl }
numbered Nesting = record { from = omega arith; back = refl; listed = refl }
numbered ReportShort = record { from = omega arith; back = refl; listed = refl }
numbered LowByte = record { from = omega arith; back = refl; listed = refl }
numbered InputSystem = record { from = omega arith; back = refl; listed = refl }
numbered Version = record { from = omega arith; back = refl; listed = refl }
numbered TrailerDigits = record { from = omega arith; back = refl; listed = refl }
numbered RecordCount = record { from = omega arith; back = refl; listed = refl }
numbered PaymentCount = record { from = omega arith; back = refl; listed = refl }
numbered TotalAmount = record { from = omega arith; back = refl; listed = refl }

pub some_number : (k : Reason) → 1 ≤ number_of k
some_number k = (numbered k).from

pub all_stated : (k : Reason) → among k stated ≡ true
all_stated k = (numbered k).listed

-- no two reasons have the same number
pub one_reason : (k j : Reason) → number_of k ≡ number_of j → k ≡ j
one_reason k j e = sym (numbered k).back ∙ ap reason_of e ∙ (numbered j).back
