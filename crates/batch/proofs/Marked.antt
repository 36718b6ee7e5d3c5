-- The findings of a batch as the walk is told of it: the details that repeat are marked by their record numbers, and it has too many kinds or not.
-- Assumes nothing.
use Rattle.reasons.specs.declared.Reason.TheVariants.{Crowded}
use Rattle.reasons.specs.Findings.{Checked, sound}
use Rattle.std.specs.Prelude.{Option, Err}
use mathlib.Core.Bool.{Bool, false}
use mathlib.Core.List.{List, [], ◌∷◌, ◌++◌}
use Prim.Native.Nat.{ℕ, ◌+◌}
use Rattle.record.specs.Choice.{choose}
use Rattle.calendar.specs.declared.Day.{Day}
use Rattle.book.specs.Book.{Contents}
use Rattle.nesting.specs.Division.{Record, Payment, Batch}
use Rattle.reasons.specs.declared.Finding.{Finding}
use Rattle.reasons.specs.Findings.{found}
use Rattle.rules.specs.Rules.{header, trailer, rules_for, findings}
use Rattle.batch.specs.Batch.{letter_of, size, sizes, context, no_codes, header_codes, detail_context, payment, summary}

module _ (book : Contents) (today : Option Day) where
  unfoldable pub marked_payments : (ℕ → Bool) → Record → ℕ → List Payment → List Payment → List (Checked Finding)
  marked_payments marks h n earlier [] = []
  marked_payments marks h n earlier (p ∷ ps) =
      payment book (letter_of h) (detail_context book today h (marks n) earlier p.detail) n p
      ++ marked_payments marks h (n + size p) (earlier ++ p ∷ []) ps

  unfoldable pub marked_findings : Bool → Bool → (ℕ → Bool) → ℕ → Batch → List (Checked Finding)
  marked_findings repeats crowded marks n b =
      findings (context today b.header repeats false (header_codes book b.header) []) n b.header (rules_for (letter_of b.header) header)
      ++ (marked_payments marks b.header (n + 1) [] b.payments
      ++ (found (choose crowded (Err Crowded) sound) n 76
      ∷ (findings (context today b.header false false no_codes b.payments) (n + 1 + sizes b.payments) b.trailer (rules_for (letter_of b.header) trailer)
      ++ summary n b.header b.payments
      ∷ [])))
