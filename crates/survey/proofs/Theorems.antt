-- What the promise of a survey comes to.
-- Assumes nothing.
use mathlib.Core.Path.{◌≡◌, ap}
use mathlib.Core.List.{List}
use Prim.Native.Nat.{ℕ}
use Rattle.std.specs.Prelude.{Result, Ok, Err}
use Rattle.nesting.specs.declared.Counts.{Counts}
use Rattle.nesting.specs.Division.{Division}
use Rattle.nesting.specs.Records.{records}
use Rattle.nesting.specs.Promise.{Nested}
use Rattle.nesting.proofs.OneDivision.{one_division}
use Rattle.nesting.proofs.Theorems.{one_answer}
use Rattle.survey.specs.declared.Survey.{Survey}
use Rattle.survey.specs.Survey.{divided, Surveyed}
use Rattle.survey.specs.Survey.Surveyed.{legal, refused}

-- its answer about nesting
pub counts_of : Result Survey ℕ → Result Counts ℕ
counts_of (Ok s) = Ok s.counts
counts_of (Err k) = Err k

-- is the promised one
pub nested : (f : List ℕ) (s : Result Survey ℕ) → Surveyed f s → Nested (records f) (counts_of s)
unfolding counts_of
nested f s (legal d h) = Nested.legal d h
nested f s (refused k t) = Nested.refused k t

-- one survey only
pub one_survey : (f : List ℕ) (s t : Result Survey ℕ) → Surveyed f s → Surveyed f t → s ≡ t
one_survey f s t (legal d p) (legal e q) = ap (λ (x : Division). Ok (divided (records f) x)) (one_division (records f) d e p q)
one_survey f s t (legal d p) (refused k u) = absurd (u.none (d, p))
one_survey f s t (refused k u) (legal d p) = absurd (u.none (d, p))
one_survey f s t (refused k u) (refused j v) =
    let e : ◌≡◌ {A = Result Counts ℕ} (Err k) (Err j) = one_answer (records f) (Err k) (Err j) (Nested.refused k u) (Nested.refused j v) in cc
