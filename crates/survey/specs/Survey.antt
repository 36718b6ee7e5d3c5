-- What one pass over a file's records finds (01 File answers, 5, 7 and 13).
use Rattle.std.specs.Prelude.{ℕ, List, Result, Ok, Err}
use Rattle.money.specs.Money.{split}
use Rattle.nesting.specs.Division.{Record, Division, DivisionOf}
use Rattle.nesting.specs.Paid.{paid_by_all}
use Rattle.nesting.specs.Records.{records}
use Rattle.nesting.specs.Promise.{counts, RefusedAt}
use Rattle.characters.specs.Characters.{first_unclean}
use Rattle.survey.specs.declared.Survey.{Survey}

-- of records that nest: the batches and payments of a division, the first record with a low byte, the sum of the payments
abbrev pub divided : List Record → Division → Survey
divided rs d = record { counts = counts d; unclean = first_unclean 1 rs; total = split (paid_by_all d.batches) }

-- what a pass says of a file; of records that do not nest, the one at fault, and nothing else
pub data Surveyed (file : List ℕ) : Result Survey ℕ → Type 0 where
  legal : (d : Division) → DivisionOf (records file) d → Surveyed file (Ok (divided (records file) d))
  refused : (k : ℕ) → RefusedAt (records file) k → Surveyed file (Err k)
