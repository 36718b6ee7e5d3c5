-- A number copied out of the record at a place.
-- Assumes nothing.
use mathlib.Core.Path.{◌≡◌, ap, ◌∙◌}
use mathlib.Core.Bool.{Bool}
use mathlib.Core.List.{List}
use Prim.Native.Nat.{ℕ, ◌*◌}
use Rattle.record.specs.declared.Field.{Field}
use Rattle.page.specs.CodePage.{shown}
use Rattle.record.specs.Value.{held}
use Rattle.nesting.specs.Division.{Record}
use Rattle.nesting.specs.Records.{record_at}
use Rattle.nesting.proofs.Cuts.{record_from, from_place}

pub copied_there : (ascii : Bool) (first place : ℕ) (xs : List ℕ) (f : Field) (copy : List ℕ) → copy ≡ held (record_from ascii xs (place * 850)) f
    → copy ≡ held (record_at first place (shown ascii xs)) f
copied_there ascii first place xs f copy e = e ∙ ap (λ (r : Record). held r f) (from_place ascii first place xs)
