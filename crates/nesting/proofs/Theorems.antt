-- What the promise of nesting comes to, in the words of Division.antt alone.
-- Assumes nothing.
use mathlib.Core.Path.{◌≡◌, refl, ap}
use mathlib.Core.Bool.{Bool, true, false}
use mathlib.Core.List.{List}
use Prim.Native.Nat.{ℕ, ◌≤◌}
use native.Mathlib.Omega.{arith}
use lib.Dec.{ltb}
use borrow.Author.Tests.{ltb-true, ltb-false}
use lib.ListN.{length, take}
use Rattle.nesting.specs.declared.Counts.{Counts}
use Rattle.std.specs.Prelude.{Result, Ok, Err}
use Rattle.nesting.specs.Division.{Record, Division, Divided, Begins}
use Rattle.nesting.specs.Promise.{counts, RefusedAt, Nested}
use Rattle.nesting.specs.Promise.Nested.{legal, refused}
use Rattle.nesting.proofs.OneDivision.{one_division}

-- refused exactly when no legal division exists
pub refused_undivided : (rs : List Record) (k : ℕ) → Nested rs (Err k) → Divided rs → ⊥
refused_undivided rs k (refused j t) = t.none

pub undivided_refused : (rs : List Record) (v : Result Counts ℕ) → Nested rs v → (Divided rs → ⊥) → (k : ℕ) × (v ≡ Err k)
undivided_refused rs v (legal d p) n = absurd (n (d, p))
undivided_refused rs v (refused k t) n = (k, refl)

-- the record named is the first whose beginning begins no legal file
pub first_named : (rs : List Record) (k : ℕ) → RefusedAt rs k → (i : ℕ) → (Begins (take i rs) → ⊥) → k ≤ i
first_named rs k t i n = go (ltb i k) refl
  where
    go : (b : Bool) → ltb i k ≡ b → k ≤ i
    go true e = absurd (n (t.before i (ltb-true i k e)))
    go false e = ltb-false i k e

-- one record is named
one_named : (rs : List Record) (k j : ℕ) → RefusedAt rs k → RefusedAt rs j → k ≤ j
one_named rs k j t u = go (ltb (length rs) j) refl
  where
    go : (b : Bool) → ltb (length rs) j ≡ b → k ≤ j
    go true e = omega (arith, ltb-true (length rs) j e, t.to)
    go false e = first_named rs k t j (u.here (ltb-false (length rs) j e))

-- one answer only
pub one_answer : (rs : List Record) (v w : Result Counts ℕ) → Nested rs v → Nested rs w → v ≡ w
one_answer rs v w (legal d p) (legal e q) = ap (λ (x : Division). Ok (counts x)) (one_division rs d e p q)
one_answer rs v w (legal d p) (refused k t) = absurd (t.none (d, p))
one_answer rs v w (refused k t) (legal d p) = absurd (t.none (d, p))
one_answer rs v w (refused k t) (refused j u) = ap Err (omega (arith, one_named rs k j t u, one_named rs j k u t))
