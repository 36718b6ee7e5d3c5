-- A binary search over keys that ascend: what it knows of the keys outside its bounds, and of all where it ends.
-- Assumes nothing.
use mathlib.Core.Path.{◌≡◌}
use mathlib.Core.List.{List}
use mathlib.Core.Logic.{⊎_elim}
use Prim.Native.Nat.{ℕ, ◌+◌, ◌-◌, ◌/◌, ◌≤◌, ◌<◌}
use native.Mathlib.Nat.{eq-or-lt_of_le, eq-zero-or-pos}
use native.Mathlib.Omega.{arith}
use Rattle.std.specs.declared.cmp.Ordering.TheVariants.{Less, Equal, Greater}
use Rattle.record.specs.Ordering.{order}
use Rattle.record.proofs.Orders.{turn_before, turn_after, order_equal, before_not, after_not, order_transitive}

-- the key that is looked at next
abbrev pub middle : ℕ → ℕ → ℕ
middle low high = low + (high - low) / 2

module _ (key : ℕ → List ℕ) (count : ℕ) (x : List ℕ) where
  -- every key below low stands before x, and every key from high on after it
  pub record Bracket (low high : ℕ) : Type 0 where
    pub ordered : low ≤ high
    pub inside : high ≤ count
    pub below : (j : ℕ) → j < low → order (key j) x ≡ Less
    pub above : (j : ℕ) → high ≤ j → j < count → order (key j) x ≡ Greater

  pub opened : Bracket 0 count
  opened = record {
    ordered = omega arith;
    inside = omega arith;
    below = λ j l. absurd (omega arith);
    above = λ j l h. absurd (omega arith);
  }

  -- the keys ascend, and key m is looked at
  module _ (up : (i j : ℕ) → i < j → j < count → order (key i) (key j) ≡ Less) (m : ℕ) where
    pub raised : (low high : ℕ) → Bracket low high → m < high → order (key m) x ≡ Less → Bracket (m + 1) high
    raised low high b h t = record {
      ordered = omega arith;
      inside = b.inside;
      below = λ j l. ⊎_elim
          (λ (i : j ≡ m). rw i t)
          (λ (i : j < m). order_transitive _ _ _ (up j m i (omega (arith, b.inside))) t)
          (eq-or-lt_of_le (omega arith));
      above = b.above;
    }

    pub lowered : (low high : ℕ) → Bracket low high → low ≤ m → m < high → order (key m) x ≡ Greater → Bracket low m
    lowered low high b l h t = record {
      ordered = l;
      inside = omega (arith, b.inside);
      below = b.below;
      above = λ j k n. ⊎_elim
          (λ (i : m ≡ j). rw (← i) t)
          (λ (i : m < j). turn_before _ _ (order_transitive _ _ _ (turn_after _ _ t) (up m j i n)))
          (eq-or-lt_of_le k);
    }

    -- where key m is x
    module _ (t : order (key m) x ≡ Equal) where
      pub same_is : key m ≡ x
      same_is = order_equal _ _ t

      pub same_below : m < count → (j : ℕ) → j < m → order (key j) x ≡ Less
      same_below h j l = rw (← same_is) (up j m l h)

      pub same_above : (j : ℕ) → m < j → j < count → order (key j) x ≡ Greater
      same_above j l h = rw (← same_is) (turn_before _ _ (up m j l h))

  -- where nothing is left between the bounds
  module _ (low high : ℕ) (b : Bracket low high) (e : high ≤ low) where
    pub end_above : (j : ℕ) → low ≤ j → j < count → order (key j) x ≡ Greater
    end_above j l h = b.above j (omega arith) h

    pub end_none : (j : ℕ) → j < count → key j ≡ x → ⊥
    end_none j h =
        ⊎_elim
        (λ (q : low - j ≡ 0). after_not _ _ (end_above j (omega arith) h))
        (λ (q : 0 < low - j). before_not _ _ (b.below j (omega arith)))
        (eq-zero-or-pos (low - j))
