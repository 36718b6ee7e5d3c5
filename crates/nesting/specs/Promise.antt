-- What an answer about nesting says (01 File answers, 5), in the words of Division.antt alone.
use Rattle.std.specs.Prelude.{ℕ, ◌+◌, ◌<◌, ◌≤◌, List, length, take, Result, Ok, Err}
use Rattle.nesting.specs.declared.Counts.{Counts}
use Rattle.nesting.specs.Division.{Record, Division, DivisionOf, Divided, Begins, payment_count}

-- the records have no legal division, and record k is the first at which they begin no legal file, or the number after the last
pub record RefusedAt (rs : List Record) (k : ℕ) : Type 0 where
  pub none : Divided rs → ⊥
  pub from : 1 ≤ k
  pub to : k ≤ length rs + 1
  pub before : (i : ℕ) → i < k → Begins (take i rs)
  pub here : k ≤ length rs → Begins (take k rs) → ⊥

-- the batches and the payments of a division
abbrev pub counts : Division → Counts
counts d = record { batches = length d.batches; payments = payment_count d.batches }

-- legal, with the number of batches and of payments of a division; or refused at a record
pub data Nested (rs : List Record) : Result Counts ℕ → Type 0 where
  legal : (d : Division) → DivisionOf rs d → Nested rs (Ok (counts d))
  refused : (k : ℕ) → RefusedAt rs k → Nested rs (Err k)
