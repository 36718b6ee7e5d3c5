-- The reasons of document 01 by their numbers, findings in its order, and the first of them (01 Batch reasons: the first is reported).
use Rattle.std.specs.Prelude.{ℕ, List, [], ◌∷◌, Result, Ok, Err}
use Rattle.reasons.specs.declared.Reason.{Reason}
use Rattle.reasons.specs.declared.Reason.TheVariants.{Blank, Shape, Unlisted, Absent, NoDay, Repeated, Unlike, Range, Accounts, Procurements, Lacking, Crowded, Count, Sum, Time}
use Rattle.reasons.specs.declared.Finding.{Finding}

-- the reasons' numbers (01 Batch reasons; 02 W4: 15)
unfoldable pub number_of : Reason → ℕ
number_of Blank = 1
number_of Shape = 2
number_of Unlisted = 3
number_of Absent = 4
number_of NoDay = 5
number_of Repeated = 6
number_of Unlike = 7
number_of Range = 8
number_of Accounts = 9
number_of Procurements = 10
number_of Lacking = 11
number_of Crowded = 12
number_of Count = 13
number_of Sum = 14
number_of Time = 15

-- nothing is wrong, or what is
abbrev pub Checked : Type 0 → Type 0
Checked E = Result (Unit {0}) E

abbrev pub sound : {E : Type 0} → Checked E
sound = Ok tt

-- what is wrong with a field, with the number of the record and of the field
unfoldable pub found : Checked Reason → ℕ → ℕ → Checked Finding
found (Ok u) record-number field = sound
found (Err reason) record-number field = Err (record { reason = reason; record_number = record-number; field = field })

-- what is known, or else one finding more; and many more
unfoldable pub noted : Checked Finding → Checked Finding → Checked Finding
noted (Ok u) x = x
noted (Err f) x = Err f

unfoldable pub after : Checked Finding → List (Checked Finding) → Checked Finding
after f [] = f
after f (x ∷ xs) = after (noted f x) xs

-- the first finding
unfoldable pub first : List (Checked Finding) → Checked Finding
first [] = sound
first (x ∷ xs) = noted x (first xs)
