-- A place put into a table: below the seat the old, at the seat the new, above it the old one before.
-- Assumes nothing.
use mathlib.Core.Path.{◌≡◌, sym, ap, ◌∙◌}
use mathlib.Core.List.{List, [], ◌∷◌, ◌++◌, append_assoc}
use mathlib.Core.Logic.{⊎_elim}
use Prim.Native.Nat.{ℕ, suc, ◌+◌, ◌-◌, ◌≤◌, ◌<◌}
use native.Mathlib.Nat.{eq-zero-or-pos}
use native.Mathlib.Numerals.{add-one}
use native.Mathlib.Omega.{arith}
use Rattle.std.specs.List.{copy_within}
use lib.ListN.{length, take, drop, get_or, set, length-append, length-drop, get_or-append}
use lib.Seq.{length-take-le, get_or-append-add, get_or_at, get_or-take, get_or-drop, take_at, take-add, take-suc, set_at}
use Rattle.tables.specs.Tables.{inserted_at}

-- behind the first part
append_past : (xs ys : List ℕ) (k j n : ℕ) → length xs ≡ k → j ≡ k + n → get_or (xs ++ ys) j 0 ≡ get_or ys n 0
append_past xs ys k j n e h =
    let q : j ≡ length xs + n = omega arith in
    rw q (get_or-append-add xs ys n 0)

module _ (table : List ℕ) (count seat place : ℕ) (s : seat ≤ count) (c : count < length table) where
  front : length (take seat table) ≡ seat
  front = length-take-le seat table (omega arith)

  moved : length (take (count - seat) (drop seat table)) ≡ count - seat
  moved = length-take-le (count - seat) (drop seat table) (rw length-drop (omega arith))

  pub inserted_length : length (inserted_at table count seat place) ≡ length table
  unfolding inserted_at
  inserted_length = simp (length-append, front, moved, length-drop) (omega arith)

  pub inserted_below : (j : ℕ) → j < seat → get_or (inserted_at table count seat place) j 0 ≡ get_or table j 0
  unfolding inserted_at
  inserted_below j h = get_or-append (take seat table) _ 0 j (omega (arith, front)) ∙ get_or-take seat table j 0 h

  pub inserted_here : get_or (inserted_at table count seat place) seat 0 ≡ place
  unfolding inserted_at
  inserted_here = get_or_at (take seat table) place _ 0 seat front

  pub inserted_past : (j : ℕ) → seat < j → j ≤ count → get_or (inserted_at table count seat place) j 0 ≡ get_or table (j - 1) 0
  unfolding inserted_at
  inserted_past j h l =
      let n : j ≡ seat + suc (j - 1 - seat) = omega arith in
      let m : seat + (j - 1 - seat) ≡ j - 1 = omega arith in
      append_past (take seat table) _ seat j (suc (j - 1 - seat)) front n
      ∙ get_or-append (take (count - seat) (drop seat table)) _ 0 (j - 1 - seat) (omega (arith, moved))
      ∙ get_or-take (count - seat) (drop seat table) (j - 1 - seat) 0 (omega arith)
      ∙ get_or-drop seat table (j - 1 - seat) 0
      ∙ ap (λ (i : ℕ). get_or table i 0) m

  pub inserted_above : (j : ℕ) → count < j → get_or (inserted_at table count seat place) j 0 ≡ get_or table j 0
  unfolding inserted_at
  inserted_above j h =
      let n : j ≡ seat + suc (j - 1 - seat) = omega arith in
      let k : j - 1 - seat ≡ count - seat + (j - 1 - count) = omega arith in
      let m : count + 1 + (j - 1 - count) ≡ j = omega arith in
      append_past (take seat table) _ seat j (suc (j - 1 - seat)) front n
      ∙ append_past (take (count - seat) (drop seat table)) _ (count - seat) (j - 1 - seat) (j - 1 - count) moved k
      ∙ get_or-drop (count + 1) table (j - 1 - count) 0
      ∙ ap (λ (i : ℕ). get_or table i 0) m

  -- where a place of the new table comes from
  pub data Source (j : ℕ) : Type 0 where
    under : j < seat → get_or (inserted_at table count seat place) j 0 ≡ get_or table j 0 → Source j
    seated : j ≡ seat → get_or (inserted_at table count seat place) j 0 ≡ place → Source j
    over : seat < j → get_or (inserted_at table count seat place) j 0 ≡ get_or table (j - 1) 0 → Source j

  pub source : (j : ℕ) → j ≤ count → Source j
  source j h =
      ⊎_elim
      (λ (q : seat - j ≡ 0).
      ⊎_elim
      (λ (r : j - seat ≡ 0). let e : j ≡ seat = omega arith in seated e (rw e inserted_here))
      (λ (r : 0 < j - seat). over (omega arith) (inserted_past j (omega arith) h))
      (eq-zero-or-pos (j - seat)))
      (λ (q : 0 < seat - j). under (omega arith) (inserted_below j (omega arith)))
      (eq-zero-or-pos (seat - j))

  -- the first places of the new table
  pub inserted_take : take (count + 1) (inserted_at table count seat place) ≡ take seat table ++ place ∷ take (count - seat) (drop seat table)
  unfolding inserted_at
  inserted_take =
      let n : length (take seat table ++ place ∷ take (count - seat) (drop seat table)) ≡ count + 1 = simp (length-append, front, moved) (omega arith) in
      ap (take (count + 1)) (sym (append_assoc (take seat table) (place ∷ take (count - seat) (drop seat table)) (drop (count + 1) table)))
      ∙ take_at _ (drop (count + 1) table) (count + 1) n

  pub taken : take seat table ++ take (count - seat) (drop seat table) ≡ take count table
  taken =
      let e : seat + (count - seat) ≡ count = omega arith in
      sym (take-add seat (count - seat) table) ∙ ap (λ (n : ℕ). take n table) e

  -- what is copied up by one place, and the place that is put at the seat
  pub inserted : set (copy_within table seat count (seat + 1)) seat place ≡ inserted_at table count seat place
  unfolding inserted_at
  inserted =
      let n : seat + 1 + (count - seat) ≡ count + 1 = omega arith in
      let rest = take (count - seat) (drop seat table) ++ drop (count + 1) table in
      let t : take (seat + 1) table ≡ take seat table ++ get_or table seat 0 ∷ [] = rw add-one (take-suc table seat 0 (omega arith)) in
      let q : take (seat + 1) table ++ rest ≡ take seat table ++ (get_or table seat 0 ∷ rest) = rw t (append_assoc (take seat table) (get_or table seat 0 ∷ []) rest) in
      rw (n, append_assoc (take (seat + 1) table) (take (count - seat) (drop seat table)) (drop (count + 1) table), q) (set_at (take seat table) (get_or table seat 0) rest place seat front)
