-- Numbers that repeat an earlier one (01 Batch reasons, 6): a batch's schedule number in the file, a Payment ID in its batch.
use Rattle.std.specs.Prelude.{Option, Some, None}
use Rattle.std.specs.Prelude.{ℕ, ◌+◌, ◌≡◌, Bool, List, [], ◌∷◌, ◌++◌}
use Rattle.record.specs.declared.Field.{Field}
use Rattle.std.specs.declared.cmp.Ordering.TheVariants.{Greater}
use Rattle.record.specs.Choice.{◌and◌, choose}
use Rattle.record.specs.Fields.{schedule_number, payment_id}
use Rattle.record.specs.Value.{held}
use Rattle.record.specs.Ordering.{order}
use Rattle.record.specs.Codes.{code_of, is_detail, is_header}
use Rattle.nesting.specs.Division.{Record}
use Rattle.tables.specs.Tables.{member}
use Rattle.repeats.specs.declared.Sort.{Sort}
use Rattle.repeats.specs.declared.Sort.TheVariants.{Payments, Batches}

-- what is numbered: a payment's detail by its Payment ID, a batch's header by its schedule number
unfoldable pub numbering : Sort → Field
numbering Payments = payment_id
numbering Batches = schedule_number

-- the record is numbered so
unfoldable pub is_of : Sort → Record → Bool
is_of Payments r = is_detail (code_of r)
is_of Batches r = is_header (code_of r)

-- the numbers among records
unfoldable pub numbers : Sort → List Record → List (List ℕ)
numbers sort [] = []
numbers sort (r ∷ rs) = choose (is_of sort r) (held r (numbering sort) ∷ numbers sort rs) (numbers sort rs)

-- the record's number is an earlier one's
unfoldable pub repeats : Sort → List Record → Record → Bool
repeats sort earlier r = is_of sort r and member (held r (numbering sort)) (numbers sort earlier)

-- the first record that repeats an earlier one, by its number in the file; n is that of the first
unfoldable pub first_repeat : Sort → ℕ → List Record → List Record → Option ℕ
first_repeat sort n earlier [] = None
first_repeat sort n earlier (r ∷ rs) = choose (repeats sort earlier r) (Some n) (first_repeat sort (n + 1) (earlier ++ r ∷ []) rs)

-- none of the numbers stands after the greatest
unfoldable pub Topped : List ℕ → List (List ℕ) → Type 0
Topped greatest [] = Unit {0}
Topped greatest (y ∷ ys) = (order y greatest ≡ Greater → ⊥) × Topped greatest ys
