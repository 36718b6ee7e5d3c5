-- What is read of a record at its place: its sort, its number.
-- Assumes nothing.
use mathlib.Core.Path.{◌≡◌, ◌∙◌}
use mathlib.Core.Bool.{Bool}
use mathlib.Core.List.{List}
use Prim.Native.Nat.{ℕ, ◌+◌, ◌*◌, ◌≤◌}
use native.Mathlib.Omega.{arith}
use lib.ListN.{length}
use Rattle.record.specs.declared.Field.{Field}
use Rattle.page.specs.CodePage.{shown}
use Rattle.record.specs.Value.{held}
use Rattle.record.specs.Tests.{alike}
use Rattle.record.specs.Codes.{code_of, is_detail, is_header}
use Rattle.nesting.specs.Records.{record_at}
use Rattle.nesting.proofs.Cuts.{bytes_from, record_from, from_place, from_length}
use Rattle.repeats.specs.declared.Sort.{Sort}
use Rattle.repeats.specs.declared.Sort.TheVariants.{Payments, Batches}
use Rattle.repeats.specs.Repeats.{numbering, is_of}

-- the record at the place is of the sort
module _ (sort : Sort) (ascii : Bool) (first place : ℕ) (xs : List ℕ) (r : Bool) where
  pub of_payments : sort ≡ Payments → r ≡ is_detail (code_of (record_from ascii xs (place * 850))) → r ≡ is_of sort (record_at first place (shown ascii xs))
  unfolding is_of
  of_payments s h = rw (s, ← from_place ascii first place xs) h

  pub of_batches : sort ≡ Batches → r ≡ is_header (code_of (record_from ascii xs (place * 850))) → r ≡ is_of sort (record_at first place (shown ascii xs))
  unfolding is_of
  of_batches s h = rw (s, ← from_place ascii first place xs) h

-- the field of the sort, in the bytes of a record as the code takes them
number_start : (sort : Sort) → 1 ≤ (numbering sort).start
unfolding numbering
number_start Payments = omega arith
number_start Batches = omega arith

number_end : (sort : Sort) → (numbering sort).start + (numbering sort).width ≤ 851
unfolding numbering
number_end Payments = omega arith
number_end Batches = omega arith

module _ (sort : Sort) (f : Field) (e : f ≡ numbering sort) where
  pub field_start : 1 ≤ f.start
  field_start = rw e (number_start sort)

  pub field_end : (place : ℕ) (xs : List ℕ) → place * 850 + 850 ≤ length xs → f.start + f.width ≤ length (bytes_from xs (place * 850)) + 1
  field_end place xs h = rw (e, from_length xs (place * 850) h) (number_end sort)

  pub field_within : f.start + f.width ≤ 851
  field_within = rw e (number_end sort)

  pub same_numbers : (ascii : Bool) (first place earlier : ℕ) (xs : List ℕ) (r : Bool)
      → r ≡ alike (held (record_from ascii xs (earlier * 850)) f) (held (record_from ascii xs (place * 850)) f)
      → r ≡ alike (held (record_at first earlier (shown ascii xs)) (numbering sort)) (held (record_at first place (shown ascii xs)) (numbering sort))
  same_numbers ascii first place earlier xs r h = h ∙ rw (from_place ascii first earlier xs, from_place ascii first place xs, e)
